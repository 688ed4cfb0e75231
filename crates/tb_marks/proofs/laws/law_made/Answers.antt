use Rattle.tb_marks.proofs.Trees.{made_sound}
use Rattle.tb_marks.proofs.laws.law_made.Goals as goal

pub returns : goal.returns
returns c = λ tree root parent key path floor tags now is fresh sound way made. made_sound tree root parent key is fresh path floor tags now sound way made
