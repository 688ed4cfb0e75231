use Rattle.tb_stands.proofs.Laws.{reborrow_same, reborrow_stands}
use Rattle.tb_stands.proofs.events.law_reborrow.Goals as goal

pub returns-clause-report : goal.returns-clause-report
returns-clause-report c = reborrow_same

pub returns-clause-stands : goal.returns-clause-stands
returns-clause-stands c = reborrow_stands
