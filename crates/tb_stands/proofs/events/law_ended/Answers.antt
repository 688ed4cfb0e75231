use Rattle.tb_stands.proofs.Ends.{ends_alike}
use Rattle.tb_stands.proofs.events.law_ended.Goals as goal

pub returns : goal.returns
returns c = ends_alike
