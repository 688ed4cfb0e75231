use Rattle.std.proofs.Common.{◌≡◌, length}
use Rattle.tb_small.specs.Words.{after_space}
use Rattle.tb_small.proofs.words.after_space.Given as goal

abbrev pub invariant-loop-rest : goal.invariant-loop-rest
invariant-loop-rest l = after_space l.rest ≡ after_space l.text

abbrev pub decreases-loop-rest : goal.decreases-loop-rest
decreases-loop-rest l = length l.rest
