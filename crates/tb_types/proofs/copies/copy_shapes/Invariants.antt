use Rattle.std.proofs.Common.{◌≡◌, take}
use Rattle.tb_types.proofs.copies.copy_shapes.Given as goal

abbrev pub invariant-loop-shape : goal.invariant-loop-shape
invariant-loop-shape l = l.copies.keys ≡ take l.shape-index l.shapes
