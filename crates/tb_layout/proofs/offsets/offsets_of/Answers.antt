use Rattle.std.proofs.Common.{◌≡◌, ◌∙◌, true, [], drop, arith}
use Rattle.std.proofs.lemmas.List.{drop_all}
use Rattle.tb_types.specs.Table.{IsType, shape_at}
use Rattle.tb_types.specs.Pieces.{side_by_side}
use Rattle.tb_types.specs.Extent.{fits}
use Rattle.tb_layout.proofs.Placing.{types_step, room_step, places_step, places_end, room_next, part_is, no_part}
use Rattle.tb_layout.proofs.offsets.offsets_of.Goals as goal
use Rattle.tb_layout.proofs.offsets.offsets_of.Goals.{else-loop-place-test, then-loop-place-test+in_default}

pub place_part-requires-clause-end : goal.place_part-requires-clause-end
place_part-requires-clause-end c =
    (room_step c.args.types.now _ _ _ (part_is c.args.types.now c.args.ty c.loop-place.place c.part.result c.in-Some.part c.part.ensures c.in-Some.is) c.loop-place.end c.loop-place.invariant.room).end_fits

pub place_part-requires-clause-room : goal.place_part-requires-clause-room
place_part-requires-clause-room c =
    (room_step c.args.types.now _ _ _ (part_is c.args.types.now c.args.ty c.loop-place.place c.part.result c.in-Some.part c.part.ensures c.in-Some.is) c.loop-place.end c.loop-place.invariant.room).part_fits

pub loop-place-preserved : goal.loop-place-preserved
loop-place-preserved c =
    let is = part_is c.args.types.now c.args.ty c.loop-place.place c.part.result c.in-Some.part c.part.ensures c.in-Some.is in
    record {
      types = (types_step c.args.types.now _ _ _ is (IsType c.args.types.now) c.loop-place.invariant.types).1;
      layouts = (types_step c.args.types.now _ _ _ is (λ part. fits c.args.types.now part ≡ true) c.loop-place.invariant.layouts).1;
      room = room_next c.loop-place.end c.in_ok-end.end _ _ (room_step c.args.types.now _ _ _ is c.loop-place.end c.loop-place.invariant.room) c.in_ok-end.ensures.end;
      offsets = places_step c.args.types.now _ _ _ is c.loop-place.end c.in_ok-end.end c.loop-place.offsets.items c.place_part.new.offsets.items _ c.in_ok-end.ensures.end c.in_ok-end.ensures.offsets c.loop-place.invariant.offsets;
    }

pub returns : goal.returns
returns c =
    let left : drop c.loop-place.place (side_by_side c.args.types.now (shape_at c.args.types.now c.args.ty)) ≡ [] = elim c.loop-place-test.branch [
      | else-loop-place-test w ↦ drop_all c.loop-place.place (side_by_side c.args.types.now (shape_at c.args.types.now c.args.ty)) (let n = w.loop-place-test.false in let e = c.part_count-place-end.ensures in omega arith)
      | then-loop-place-test+in_default w ↦ no_part c.args.types.now c.args.ty c.loop-place.place w.part.result w.part.ensures w.in_default.not-Some
    ] in
    c.from_vec.ensures ∙ places_end c.args.types.now (drop c.loop-place.place (side_by_side c.args.types.now (shape_at c.args.types.now c.args.ty))) c.loop-place.end c.loop-place.offsets.items _ left c.loop-place.invariant.offsets
