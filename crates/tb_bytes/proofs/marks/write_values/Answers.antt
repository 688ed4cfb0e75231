use Rattle.std.proofs.Common.{◌≡◌, ◌+◌, ◌∷◌, [], ◌++◌, map, take, get_or, set, ap, sym, ◌∙◌, arith}
use Rattle.std.specs.List.{splice}
use Rattle.std.proofs.lemmas.List.{length-map, length-take-le, map-append, take_more}
use Rattle.tb_bytes.specs.Bytes.{value_of}
use Rattle.tb_bytes.specs.declared.byte_val.ByteVal.TheVariants.{Uninit}
use Rattle.tb_bytes.proofs.Splices.{splice_none, set-splice}
use Rattle.tb_bytes.proofs.Marking.{marked_all}
use Rattle.tb_bytes.proofs.marks.write_values.Goals as goal

pub loop-at-init : goal.loop-at-init
loop-at-init c =
    let here : c.args.lo + 0 ≡ c.args.lo = omega arith in
    sym (ap (λ n. splice c.args.values.now c.args.lo n []) here ∙ splice_none c.args.values.now c.args.lo)

pub loop-at-preserved : goal.loop-at-preserved
loop-at-preserved c =
    let old = c.args.values.now in
    let bytes = c.args.bytes.now in
    let at = c.loop-at.at in
    let lo = c.args.lo in
    let done = map value_of (take at bytes) in
    let next : lo + at + 1 ≡ lo + (at + 1) = omega arith in
    let more : map value_of (take (at + 1) bytes) ≡ done ++ c.value.result ∷ [] =
    ap (map value_of) (take_more bytes at Uninit c.loop-at-test.true) ∙ map-append value_of (take at bytes) (get_or bytes at Uninit ∷ []) ∙ ap (λ v. done ++ v ∷ []) (sym c.value.ensures)
    in
    ap (λ xs. set xs (lo + at) c.value.result) c.loop-at.invariant
    ∙ set-splice old done lo at (lo + at) c.value.result (omega arith) (omega (arith, c.requires)) (length-map (take at bytes) value_of ∙ length-take-le at bytes (omega arith))
    ∙ ap (λ n. splice old lo n (done ++ c.value.result ∷ [])) next
    ∙ ap (splice old lo (lo + (at + 1))) (sym more)

pub returns : goal.returns
returns c = marked_all value_of c.args.lo c.loop-at.at c.args.values.now c.loop-at.values c.args.bytes.now c.loop-at-test.false c.loop-at.auto.at-end c.loop-at.invariant
