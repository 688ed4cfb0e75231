use Rattle.std.proofs.Common.{◌≡◌, refl, ◌∙◌, ap, Some, slice_get, length}
use Rattle.std.specs.List.{list_any}
use Rattle.std.proofs.lemmas.Option.{slice_get_read}
use Rattle.tb_types.specs.declared.shape.TyShape.{TyShape}
use Rattle.tb_types.specs.Shapes.{shape_eq}
use Rattle.tb_types.proofs.Places.{absent_before}
use Rattle.tb_types.proofs.copies.copy_shapes.Goals as goal

pub put_shape-requires : goal.put_shape-requires
put_shape-requires c =
    let here : slice_get c.args.shapes.now c.loop-shape.shape-index ≡ Some c.shape-item.result = slice_get_read c.args.shapes.now (length c.args.shapes.now) c.loop-shape.shape-index c.shape-item.result refl c.loop-shape-test.true c.shape-item.is in
    ap (λ (shape : TyShape). list_any (shape_eq shape) c.loop-shape.copies.keys) c.in_ok-copy_shape.ensures
    ∙ ap (list_any (shape_eq c.shape-item.result)) c.loop-shape.invariant
    ∙ absent_before c.args.shapes.now c.loop-shape.shape-index c.shape-item.result c.requires here
