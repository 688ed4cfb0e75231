use Rattle.std.proofs.Common.{◌≡◌, drop}
use Rattle.tb_eval.specs.Print.{ints_of}
use Rattle.tb_eval.proofs.Texts.{with_front}
use Rattle.tb_eval.proofs.print.ints.Given as goal

-- the integers so far, and those of the operands that are left
abbrev pub invariant-loop-operand : goal.invariant-loop-operand
invariant-loop-operand l = with_front l.ints.items (ints_of l.locals (drop l.operand-index l.operands)) ≡ ints_of l.locals l.operands
