use Rattle.tb_stands.proofs.Laws.{access_same, access_stands}
use Rattle.tb_stands.proofs.events.law_access.Goals as goal

pub returns-clause-report : goal.returns-clause-report
returns-clause-report c = access_same

pub returns-clause-stands : goal.returns-clause-stands
returns-clause-stands c = access_stands
