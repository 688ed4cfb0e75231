use Rattle.tb_marks.proofs.Sound.{stage_sound}
use Rattle.tb_marks.proofs.laws.law_broken_off.Goals as goal

pub returns : goal.returns
returns c = λ tree path keys kind tags now sound visit stage. stage_sound tree path keys kind tags sound visit now stage
