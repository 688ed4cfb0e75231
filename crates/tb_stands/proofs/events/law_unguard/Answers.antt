use Rattle.tb_stands.proofs.Laws.{unguarded_stands}
use Rattle.tb_stands.proofs.events.law_unguard.Goals as goal

pub returns : goal.returns
returns c = unguarded_stands
