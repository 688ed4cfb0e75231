use Rattle.std.proofs.Common.{◌≡◌, ◌++◌, length}
use Rattle.tb_eval.specs.Print.{put_text}
use Rattle.tb_eval.proofs.print.text_of.Given as goal

-- what was put, and what the rest puts, is what the whole puts
abbrev pub invariant-loop-text : goal.invariant-loop-text
invariant-loop-text l = l.bytes.items ++ put_text l.text l.ints ≡ put_text l.fn.text l.fn.ints

abbrev pub decreases-loop-text : goal.decreases-loop-text
decreases-loop-text l = length l.text
