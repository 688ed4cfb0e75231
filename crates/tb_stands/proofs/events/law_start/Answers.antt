use Rattle.tb_stands.proofs.Start.{start_stands}
use Rattle.tb_stands.proofs.events.law_start.Goals as goal

pub returns-clause-start : goal.returns-clause-start
returns-clause-start c = start_stands

pub returns-clause-reached : goal.returns-clause-reached
returns-clause-reached c size own rows reached now stands known = (stands.0, stands.1, known)
