use Rattle.std.proofs.Common.{◌≡◌, ◌+◌, ◌-◌, ◌*◌, map, drop}
use Rattle.tb_types.specs.Table.{shape_at}
use Rattle.tb_types.specs.Pieces.{side_by_side}
use Rattle.tb_layout.specs.LaysOut.{AreRoomy}
use Rattle.tb_layout.specs.Cells.{copies, marks_from, marks_of, with_marks}
use Rattle.tb_layout.proofs.marks.+putting.Given as goal

abbrev pub decreases-put_cells : goal.decreases-put_cells
decreases-put_cells l = 4 * l.left + 3

abbrev pub decreases-put_cells_of_shape : goal.decreases-put_cells_of_shape
decreases-put_cells_of_shape l = 4 * l.left + 2

abbrev pub decreases-put_copies : goal.decreases-put_copies
decreases-put_copies l = 4 * l.left + 1

abbrev pub decreases-put_cells_of_parts : goal.decreases-put_cells_of_parts
decreases-put_cells_of_parts l = 4 * l.left + 1

abbrev pub decreases-put_part : goal.decreases-put_part
decreases-put_part l = 4 * l.left

abbrev pub invariant-put_copies-loop : goal.invariant-put_copies-loop
invariant-put_copies-loop l = record {
  next : l.next ≡ l.at + l.counter * l.size;
  cells : with_marks l.ranges.items l.next (copies (l.n - l.counter) (marks_of l.types l.part)) ≡ with_marks l.fn.ranges.items l.at (copies l.n (marks_of l.types l.part));
}

abbrev pub invariant-put_cells_of_parts-loop-place : goal.invariant-put_cells_of_parts-loop-place
invariant-put_cells_of_parts-loop-place l = record {
  rest : AreRoomy l.types l.at l.left l.end (drop l.place (side_by_side l.types (shape_at l.types l.ty)));
  cells : with_marks l.ranges.items (l.at + l.end) (marks_from l.types l.end (drop l.place (side_by_side l.types (shape_at l.types l.ty))) (map (marks_of l.types) (drop l.place (side_by_side l.types (shape_at l.types l.ty)))))
      ≡ with_marks l.fn.ranges.items l.at (marks_from l.types 0 (side_by_side l.types (shape_at l.types l.ty)) (map (marks_of l.types) (side_by_side l.types (shape_at l.types l.ty))));
}
