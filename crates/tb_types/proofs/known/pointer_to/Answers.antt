use Rattle.std.proofs.Common.{◌≡◌, refl, sym, ◌∙◌, ap, Some, slice_get, length}
use Rattle.std.proofs.lemmas.Option.{slice_get_read}
use Rattle.tb_types.specs.Capped.{capped}
use Rattle.tb_types.proofs.Plain.{wide_pointer, thin_pointer}
use Rattle.tb_types.proofs.known.pointer_to.Goals as goal

pub returns-in-Slice-clause-extent : goal.returns-in-Slice-clause-extent
returns-in-Slice-clause-extent c =
    let here : slice_get c.args.shapes.now c.args.to.0 ≡ Some c.index-shapes-to.result = slice_get_read c.args.shapes.now (length c.args.shapes.now) c.args.to.0 c.index-shapes-to.result refl c.requires c.index-shapes-to.is in
    c.pointer.ensures.extent ∙ ap capped (sym (wide_pointer c.args.shapes.now c.args.to c.in-Slice.field-0 c.index-shapes-to.result here c.in-Slice.is))

pub returns-in_default : goal.returns-in_default
returns-in_default c =
    let here : slice_get c.args.shapes.now c.args.to.0 ≡ Some c.index-shapes-to.result = slice_get_read c.args.shapes.now (length c.args.shapes.now) c.args.to.0 c.index-shapes-to.result refl c.requires c.index-shapes-to.is in
    record {
      extent = c.pointer-in_default.ensures.extent ∙ ap capped (sym (thin_pointer c.args.shapes.now c.args.to c.index-shapes-to.result here c.in_default.not-Slice));
      small = c.pointer-in_default.ensures.small;
    }
