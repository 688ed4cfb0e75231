use Rattle.std.proofs.Common.{◌≡◌, ◌++◌, length, drop}
use Rattle.tb_value.specs.Copies.{copied}
use Rattle.tb_value.specs.Spread.{AreSpread}
use Rattle.tb_value.proofs.leaves.copy_parts.Given as goal

abbrev pub invariant-loop-leaf : goal.invariant-loop-leaf
invariant-loop-leaf l = record {
  left : l.copy.items ++ copied l.types l.bytes l.at (drop l.leaf-index l.leaves) ≡ copied l.types l.bytes 0 l.leaves;
  spread : AreSpread l.types l.at (length l.bytes) (drop l.leaf-index l.leaves);
}
