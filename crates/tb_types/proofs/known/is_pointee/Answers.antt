use Rattle.std.proofs.Common.{◌≡◌, refl, sym, ◌∙◌, ap, ◌<◌, Some, slice_get, length, arith}
use Rattle.std.proofs.lemmas.Option.{slice_get_read}
use Rattle.tb_types.specs.declared.known.Known.{Known}
use Rattle.tb_types.proofs.Plain.{same_read, slice_within, of_slice, of_other}
use Rattle.tb_types.proofs.known.is_pointee.Goals as goal

pub bounds-known-part : goal.bounds-known-part
bounds-known-part c =
    let here : slice_get c.args.shapes.now c.args.to.0 ≡ Some c.index-shapes-to.result = slice_get_read c.args.shapes.now (length c.args.shapes.now) c.args.to.0 c.index-shapes-to.result refl c.requires.ty c.index-shapes-to.is in
    let h : c.in-Slice.part.0 < length c.args.shapes.now = slice_within c.args.shapes.now c.requires.names c.args.to c.in-Slice.part c.index-shapes-to.result here c.in-Slice.is in
    let e = c.requires.len in omega arith

pub returns-in-Slice : goal.returns-in-Slice
returns-in-Slice c =
    let here : slice_get c.args.shapes.now c.args.to.0 ≡ Some c.index-shapes-to.result = slice_get_read c.args.shapes.now (length c.args.shapes.now) c.args.to.0 c.index-shapes-to.result refl c.requires.ty c.index-shapes-to.is in
    let h : c.in-Slice.part.0 < length c.args.shapes.now = slice_within c.args.shapes.now c.requires.names c.args.to c.in-Slice.part c.index-shapes-to.result here c.in-Slice.is in
    let e = c.requires.len in
    ap (λ (known : Known). known.plain) (same_read c.args.known.now c.in-Slice.part _ (omega arith))
    ∙ sym (of_slice c.args.shapes.now c.requires.names c.args.known.now c.requires.plain c.args.to c.index-shapes-to.result here c.in-Slice.part c.in-Slice.is)

pub returns-in_default : goal.returns-in_default
returns-in_default c =
    let here : slice_get c.args.shapes.now c.args.to.0 ≡ Some c.index-shapes-to.result = slice_get_read c.args.shapes.now (length c.args.shapes.now) c.args.to.0 c.index-shapes-to.result refl c.requires.ty c.index-shapes-to.is in
    let h : c.args.to.0 < length c.args.shapes.now = c.requires.ty in
    let e = c.requires.len in
    ap (λ (known : Known). known.plain) (same_read c.args.known.now c.args.to _ (omega arith))
    ∙ c.requires.plain c.args.to c.requires.ty
    ∙ sym (of_other c.args.shapes.now c.requires.names c.args.to c.index-shapes-to.result here c.in_default.not-Slice)
