use Rattle.std.proofs.Common.{drop}
use Rattle.tb_lower.proofs.Loops.{InnersLeft}
use Rattle.tb_lower.proofs.lowering.Lowering.inners.Given as goal

abbrev pub invariant-loop-inner : goal.invariant-loop-inner
invariant-loop-inner l = InnersLeft l.self l.fn.self (drop l.inner-index l.inners) l.inners
