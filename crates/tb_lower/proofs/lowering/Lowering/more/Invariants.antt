use Rattle.std.proofs.Common.{drop}
use Rattle.tb_lower.proofs.Loops.{MoreLeft}
use Rattle.tb_lower.proofs.lowering.Lowering.more.Given as goal

abbrev pub invariant-loop-atom : goal.invariant-loop-atom
invariant-loop-atom l = MoreLeft l.self l.fn.self l.first l.left l.fn.left (drop l.atom-index l.atoms) l.atoms
