use Rattle.std.proofs.Common.{◌≡◌, length, drop}
use Rattle.tb_value.specs.Copies.{uninit_in}
use Rattle.tb_value.specs.Spread.{AreSpread}
use Rattle.tb_value.proofs.leaves.uninit_in.Given as goal

abbrev pub invariant-loop-leaf : goal.invariant-loop-leaf
invariant-loop-leaf l = record {
  left : uninit_in l.types l.bytes (drop l.leaf-index l.leaves) ≡ uninit_in l.types l.bytes l.leaves;
  spread : AreSpread l.types 0 (length l.bytes) (drop l.leaf-index l.leaves);
}
