use Rattle.tb_stands.proofs.Laws.{release_same, release_stands}
use Rattle.tb_stands.proofs.events.law_release.Goals as goal

pub returns-clause-report : goal.returns-clause-report
returns-clause-report c = release_same

pub returns-clause-stands : goal.returns-clause-stands
returns-clause-stands c = release_stands
