use Rattle.std.proofs.Common.{◌≡◌, ◌+◌, ◌-◌, ◌*◌, ◌++◌, map, drop}
use Rattle.tb_types.specs.Table.{shape_at}
use Rattle.tb_types.specs.Pieces.{side_by_side}
use Rattle.tb_layout.specs.LaysOut.{AreRoomy}
use Rattle.tb_layout.specs.Leaves.{moved, leaves_from, repeated_leaves, leaves_of}
use Rattle.tb_layout.proofs.walk.+walking.Given as goal

abbrev pub decreases-put_leaves : goal.decreases-put_leaves
decreases-put_leaves l = 4 * l.left + 3

abbrev pub decreases-put_leaves_of_shape : goal.decreases-put_leaves_of_shape
decreases-put_leaves_of_shape l = 4 * l.left + 2

abbrev pub decreases-put_elements : goal.decreases-put_elements
decreases-put_elements l = 4 * l.left + 1

abbrev pub decreases-put_leaves_of_parts : goal.decreases-put_leaves_of_parts
decreases-put_leaves_of_parts l = 4 * l.left + 1

abbrev pub decreases-put_leaves_of_part : goal.decreases-put_leaves_of_part
decreases-put_leaves_of_part l = 4 * l.left

abbrev pub invariant-put_elements-loop : goal.invariant-put_elements-loop
invariant-put_elements-loop l = record {
  next : l.next ≡ l.at + l.counter * l.size;
  leaves : l.leaves.items ++ moved l.next (repeated_leaves (l.n - l.counter) l.size (leaves_of l.all l.types l.part)) ≡ l.fn.leaves.items ++ moved l.at (repeated_leaves l.n l.size (leaves_of l.all l.types l.part));
}

abbrev pub invariant-put_leaves_of_parts-loop-place : goal.invariant-put_leaves_of_parts-loop-place
invariant-put_leaves_of_parts-loop-place l = record {
  rest : AreRoomy l.types l.at l.left l.end (drop l.place (side_by_side l.types (shape_at l.types l.ty)));
  leaves : l.leaves.items ++ moved l.at (leaves_from l.types l.end (drop l.place (side_by_side l.types (shape_at l.types l.ty))) (map (leaves_of l.all l.types) (drop l.place (side_by_side l.types (shape_at l.types l.ty)))))
      ≡ l.fn.leaves.items ++ moved l.at (leaves_from l.types 0 (side_by_side l.types (shape_at l.types l.ty)) (map (leaves_of l.all l.types) (side_by_side l.types (shape_at l.types l.ty))));
}
