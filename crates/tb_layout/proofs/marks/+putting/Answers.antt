use Rattle.std.proofs.Common.{rules, ◌≡◌, refl, sym, ◌∙◌, ap, subst, ◌+◌, ◌≤◌, true, List, Bool, drop, arith}
use Rattle.std.proofs.lemmas.List.{drop_all}
use Rattle.tb_types.specs.declared.extent.Extent.{Extent}
use Rattle.tb_types.specs.Table.{shape_at}
use Rattle.tb_types.specs.Pieces.{side_by_side}
use Rattle.tb_types.specs.Extent.{is_within}
use Rattle.tb_layout.specs.Cells.{marks_of, with_marks}
use Rattle.tb_layout.proofs.Placing.{extent_is, named_types, own_parts, part_is, no_part, roomy_step, roomy_parts}
use Rattle.tb_layout.proofs.Marking.{marks_is, free_marks, length_marks, with_unmarked, on_ok, part_step, parts_end, tail_step, copies_step, no_copies, next_step}
use Rattle.tb_layout.proofs.marks.+putting.Goals as goal

pub put_cells-returns-then-is_freeze : goal.put_cells-returns-then-is_freeze
put_cells-returns-then-is_freeze t c =
    sym (with_unmarked (marks_of c.args.types.now c.args.ty) c.args.ranges.now.items c.args.at (free_marks c.args.types.now c.law_types.ensures.types c.args.ty c.requires.ty (sym c.is_freeze.ensures ∙ c.if-is_freeze.true)))

pub put_cells-put_cells_of_shape-requires : goal.put_cells-put_cells_of_shape-requires
put_cells-put_cells_of_shape-requires t c = (
  search rules,
  (
    c.shape.ensures,
    (
      named_types c.args.types.now c.law_types.ensures.types c.args.ty c.shape.result.now c.requires.ty c.shape.ensures,
      (
        own_parts c.args.types.now c.law_types.ensures.types c.args.ty c.shape.result.now c.requires.ty c.shape.ensures,
        (
          subst (λ (extent : Extent). is_within extent ≡ true) (extent_is c.args.types.now c.law_types.ensures.types c.args.ty c.shape.result.now c.requires.ty c.shape.ensures) c.requires.layout,
          (
            subst (λ (extent : Extent). extent.levels ≤ c.args.left) (extent_is c.args.types.now c.law_types.ensures.types c.args.ty c.shape.result.now c.requires.ty c.shape.ensures) c.requires.left,
            subst (λ (extent : Extent). c.args.at + extent.size ≤ 1048576) (extent_is c.args.types.now c.law_types.ensures.types c.args.ty c.shape.result.now c.requires.ty c.shape.ensures) c.requires.room,
          ),
        ),
      ),
    ),
  ),
)

pub put_cells-returns : goal.put_cells-returns
put_cells-returns t c =
    on_ok c.put_cells_of_shape.result (λ e. e ∙ ap (λ (marks : List Bool). with_marks c.args.ranges.now.items c.args.at marks) (sym (marks_is c.args.types.now c.law_types.ensures.types c.args.ty c.shape.result.now c.requires.ty c.shape.ensures))) c.put_cells_of_shape.ensures

pub put_cells_of_parts-put_part-requires : goal.put_cells_of_parts-put_part-requires
put_cells_of_parts-put_part-requires t c =
    let roomy = roomy_step c.args.types.now c.args.at c.args.left c.loop-place.end _ _ _ (part_is c.args.types.now c.args.ty c.loop-place.place c.part.result c.in-Some.part c.part.ensures c.in-Some.is) c.loop-place.invariant.rest in
    (search rules, (roomy.ty, (roomy.fits_limits, (roomy.levels, (roomy.end_small, roomy.room)))))

pub put_cells_of_parts-loop-place-preserved : goal.put_cells_of_parts-loop-place-preserved
put_cells_of_parts-loop-place-preserved t c =
    let is = part_is c.args.types.now c.args.ty c.loop-place.place c.part.result c.in-Some.part c.part.ensures c.in-Some.is in
    let roomy = roomy_step c.args.types.now c.args.at c.args.left c.loop-place.end _ _ _ is c.loop-place.invariant.rest in
    record {
      rest = roomy.rest c.in_ok-end.end c.in_ok-end.ensures.end;
      cells = part_step c.args.types.now c.law_types.ensures.types c.args.at c.loop-place.end c.in_ok-end.end _ _ _ is roomy.ty c.in_ok-end.ensures.end c.loop-place.ranges.items c.put_part.new.ranges.items _ c.in_ok-end.ensures.cells c.loop-place.invariant.cells;
    }

pub put_cells_of_parts-returns-after-loop-place : goal.put_cells_of_parts-returns-after-loop-place
put_cells_of_parts-returns-after-loop-place t c =
    tail_step c.args.types.now (side_by_side c.args.types.now (shape_at c.args.types.now c.args.ty)) c.args.at c.args.ranges.now.items c.loop-place.ranges.items
    (parts_end c.args.types.now (drop c.loop-place.place (side_by_side c.args.types.now (shape_at c.args.types.now c.args.ty))) c.args.at c.loop-place.end c.loop-place.ranges.items _
    (drop_all c.loop-place.place (side_by_side c.args.types.now (shape_at c.args.types.now c.args.ty)) (let n = c.loop-place-test.false in let e = c.part_count-place-end.ensures in omega arith)) c.loop-place.invariant.cells)

pub put_cells_of_parts-returns-in_default : goal.put_cells_of_parts-returns-in_default
put_cells_of_parts-returns-in_default t c =
    tail_step c.args.types.now (side_by_side c.args.types.now (shape_at c.args.types.now c.args.ty)) c.args.at c.args.ranges.now.items c.loop-place.ranges.items
    (parts_end c.args.types.now (drop c.loop-place.place (side_by_side c.args.types.now (shape_at c.args.types.now c.args.ty))) c.args.at c.loop-place.end c.loop-place.ranges.items _
    (no_part c.args.types.now c.args.ty c.loop-place.place c.part.result c.part.ensures c.in_default.not-Some) c.loop-place.invariant.cells)

pub put_cells_of_shape-put_cells_of_parts-requires : goal.put_cells_of_shape-put_cells_of_parts-requires
put_cells_of_shape-put_cells_of_parts-requires t c = (
  search rules,
  roomy_parts c.args.types.now c.args.at c.args.left c.args.ty c.args.shape.now c.requires.shape c.requires.parts c.requires.layout c.requires.left c.requires.room,
)

pub put_copies-returns-then-size-eq0 : goal.put_copies-returns-then-size-eq0
put_copies-returns-then-size-eq0 t c =
    no_copies c.args.n (marks_of c.args.types.now c.args.part) c.args.ranges.now.items c.args.at
    (length_marks c.args.types.now c.law_types.ensures.types c.args.part c.requires.ty ∙ sym c.size_align-size.ensures.size ∙ c.if-size-eq0.true)

pub put_copies-loop-preserved : goal.put_copies-loop-preserved
put_copies-loop-preserved t c = record {
  next = next_step c.args.at c.loop.counter c.size_align-size.result.0 c.loop.next c.loop.invariant.next;
  cells = copies_step c.args.n c.loop.counter (marks_of c.args.types.now c.args.part) c.loop.next _ c.size_align-size.result.0 c.loop.ranges.items c.put_cells.new.ranges.items _ (omega arith)
      (length_marks c.args.types.now c.law_types.ensures.types c.args.part c.requires.ty ∙ sym c.size_align-size.ensures.size) refl c.in_ok-put_cells.ensures c.loop.invariant.cells;
}
