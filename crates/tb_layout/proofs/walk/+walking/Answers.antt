use Rattle.std.proofs.Common.{rules, ◌≡◌, sym, ◌∙◌, ap, subst, ◌+◌, ◌≤◌, ◌++◌, true, List, drop, arith}
use Rattle.std.proofs.lemmas.List.{drop_all}
use Rattle.tb_types.specs.declared.extent.Extent.{Extent}
use Rattle.tb_types.specs.Table.{shape_at}
use Rattle.tb_types.specs.Pieces.{side_by_side}
use Rattle.tb_types.specs.Extent.{is_within}
use Rattle.tb_layout.specs.declared.leaf.Leaf.{Leaf}
use Rattle.tb_layout.specs.Leaves.{moved, leaves_of}
use Rattle.tb_layout.proofs.Placing.{extent_is, named_types, own_parts, part_is, no_part, roomy_step, roomy_parts}
use Rattle.tb_layout.proofs.Marking.{on_ok, next_step}
use Rattle.tb_layout.proofs.Walking.{leaves_is, no_elements, element_step, leaf_step, parts_end}
use Rattle.tb_layout.proofs.walk.+walking.Goals as goal

pub put_leaves-put_leaves_of_shape-requires : goal.put_leaves-put_leaves_of_shape-requires
put_leaves-put_leaves_of_shape-requires t c = (
  search rules,
  (
    c.shape.ensures,
    (
      named_types c.args.types.now c.law_types.ensures.types c.args.ty c.shape.result.now c.requires.ty c.shape.ensures,
      (
        own_parts c.args.types.now c.law_types.ensures.types c.args.ty c.shape.result.now c.requires.ty c.shape.ensures,
        (
          subst (λ (extent : Extent). is_within extent ≡ true) (extent_is c.args.types.now c.law_types.ensures.types c.args.ty c.shape.result.now c.requires.ty c.shape.ensures) c.requires.layout,
          (
            subst (λ (extent : Extent). extent.levels ≤ c.args.left) (extent_is c.args.types.now c.law_types.ensures.types c.args.ty c.shape.result.now c.requires.ty c.shape.ensures) c.requires.left,
            subst (λ (extent : Extent). c.args.at + extent.size ≤ 1048576) (extent_is c.args.types.now c.law_types.ensures.types c.args.ty c.shape.result.now c.requires.ty c.shape.ensures) c.requires.room,
          ),
        ),
      ),
    ),
  ),
)

pub put_leaves-returns : goal.put_leaves-returns
put_leaves-returns t c =
    on_ok c.put_leaves_of_shape.result (λ e. e ∙ ap (λ (list : List Leaf). c.args.leaves.now.items ++ moved c.args.at list) (sym (leaves_is c.args.all c.args.types.now c.law_types.ensures.types c.args.ty c.shape.result.now c.requires.ty c.shape.ensures))) c.put_leaves_of_shape.ensures

pub put_leaves_of_parts-put_leaves_of_part-requires : goal.put_leaves_of_parts-put_leaves_of_part-requires
put_leaves_of_parts-put_leaves_of_part-requires t c =
    let roomy = roomy_step c.args.types.now c.args.at c.args.left c.loop-place.end _ _ _ (part_is c.args.types.now c.args.ty c.loop-place.place c.part.result c.in-Some.part c.part.ensures c.in-Some.is) c.loop-place.invariant.rest in
    (search rules, (roomy.ty, (roomy.fits_limits, (roomy.levels, (roomy.end_small, roomy.room)))))

pub put_leaves_of_parts-loop-place-preserved : goal.put_leaves_of_parts-loop-place-preserved
put_leaves_of_parts-loop-place-preserved t c =
    let is = part_is c.args.types.now c.args.ty c.loop-place.place c.part.result c.in-Some.part c.part.ensures c.in-Some.is in
    let roomy = roomy_step c.args.types.now c.args.at c.args.left c.loop-place.end _ _ _ is c.loop-place.invariant.rest in
    record {
      rest = roomy.rest c.in_ok-end.end c.in_ok-end.ensures.end;
      leaves = leaf_step c.args.all c.args.types.now c.args.at c.loop-place.end c.in_ok-end.end _ _ _ is c.in_ok-end.ensures.end c.loop-place.leaves.items c.put_leaves_of_part.new.leaves.items _ c.in_ok-end.ensures.leaves c.loop-place.invariant.leaves;
    }

pub put_leaves_of_parts-returns-after-loop-place : goal.put_leaves_of_parts-returns-after-loop-place
put_leaves_of_parts-returns-after-loop-place t c =
    parts_end c.args.all c.args.types.now (drop c.loop-place.place (side_by_side c.args.types.now (shape_at c.args.types.now c.args.ty))) c.args.at c.loop-place.end c.loop-place.leaves.items _
    (drop_all c.loop-place.place (side_by_side c.args.types.now (shape_at c.args.types.now c.args.ty)) (let n = c.loop-place-test.false in let e = c.part_count-place-end.ensures in omega arith)) c.loop-place.invariant.leaves

pub put_leaves_of_parts-returns-in_default : goal.put_leaves_of_parts-returns-in_default
put_leaves_of_parts-returns-in_default t c =
    parts_end c.args.all c.args.types.now (drop c.loop-place.place (side_by_side c.args.types.now (shape_at c.args.types.now c.args.ty))) c.args.at c.loop-place.end c.loop-place.leaves.items _
    (no_part c.args.types.now c.args.ty c.loop-place.place c.part.result c.part.ensures c.in_default.not-Some) c.loop-place.invariant.leaves

pub put_leaves_of_shape-put_leaves_of_parts-requires : goal.put_leaves_of_shape-put_leaves_of_parts-requires
put_leaves_of_shape-put_leaves_of_parts-requires t c = (
  search rules,
  roomy_parts c.args.types.now c.args.at c.args.left c.args.ty c.args.shape.now c.requires.shape c.requires.parts c.requires.layout c.requires.left c.requires.room,
)

pub put_elements-returns-then-size-eq0 : goal.put_elements-returns-then-size-eq0
put_elements-returns-then-size-eq0 t c =
    no_elements c.args.all c.args.types.now c.law_types.ensures.types c.args.part c.requires.ty (sym c.size_align-size.ensures.size ∙ c.if-size-eq0.true) c.args.n c.args.at c.args.leaves.now.items

pub put_elements-loop-preserved : goal.put_elements-loop-preserved
put_elements-loop-preserved t c = record {
  next = next_step c.args.at c.loop.counter c.size_align-size.result.0 c.loop.next c.loop.invariant.next;
  leaves = element_step c.args.n c.loop.counter (leaves_of c.args.all c.args.types.now c.args.part) c.loop.next c.size_align-size.result.0 c.loop.leaves.items c.put_leaves.new.leaves.items _ (omega arith)
      c.in_ok-put_leaves.ensures c.loop.invariant.leaves;
}
