use Rattle.tb_stands.proofs.Laws.{dealloc_same, dealloc_stands}
use Rattle.tb_stands.proofs.events.law_dealloc.Goals as goal

pub returns-clause-report : goal.returns-clause-report
returns-clause-report c = dealloc_same

pub returns-clause-stands : goal.returns-clause-stands
returns-clause-stands c = dealloc_stands
