use Rattle.std.proofs.Common.{drop}
use Rattle.tb_lower.proofs.Loops.{SumsLeft}
use Rattle.tb_lower.proofs.lowering.Lowering.sums.Given as goal

abbrev pub invariant-loop-sum : goal.invariant-loop-sum
invariant-loop-sum l = SumsLeft l.self l.fn.self l.operands.items (drop l.sum-index l.sums) l.sums
