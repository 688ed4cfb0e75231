use Rattle.tb_marks.proofs.Trees.{lesser_sound}
use Rattle.tb_marks.proofs.laws.law_lesser.Goals as goal

pub returns : goal.returns
returns c = lesser_sound
