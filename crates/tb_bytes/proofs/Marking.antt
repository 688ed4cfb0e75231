-- Bytes that are marked stretch by stretch.
use Rattle.std.proofs.Common.{◌≡◌, ℕ, ◌+◌, ◌-◌, ◌<◌, ◌≤◌, Bool, List, [], ◌∷◌, ◌++◌, length, map, take, drop, replicate, get_or, Option, Some, refl, ap, sym, ◌∙◌, subst, arith}
use Rattle.std.specs.List.{slice_range, slice_get, splice}
use Rattle.std.proofs.lemmas.List.{length-take-le, length-drop, length-map, map-append, length_push, replicate_more, take_more, get_or-drop, take_all}
use Rattle.std.proofs.lemmas.Option.{get_or_from_slice_get}
use Rattle.std.proofs.Math.Seq.{take-add}
use Rattle.tb_perm.specs.declared.tag.Prov.{Prov}
use Rattle.tb_bytes.specs.declared.byte_val.ByteVal.{ByteVal}
use Rattle.tb_bytes.specs.Bytes.{is_init, prov_of, OnlyChanges}
use Rattle.tb_bytes.specs.Parts.{IsClear, AreAlike}
use Rattle.tb_bytes.proofs.Splices.{only_spliced, wider, splice-splice}

-- one more item of a part
pub slice_range-more : {A : Type 0} (xs : List A) (lo at : ℕ) (d : A) → lo ≤ at → at < length xs → slice_range xs lo (at + 1) ≡ slice_range xs lo at ++ get_or xs at d ∷ []
slice_range-more xs lo at d from within =
    let next : at + 1 - lo ≡ at - lo + 1 = omega arith in
    let there : lo + (at - lo) ≡ at = omega arith in
    let inside : at - lo < length (drop lo xs) = omega (arith, length-drop lo xs) in
    ap (λ n. take n (drop lo xs)) next
    ∙ take_more (drop lo xs) (at - lo) d inside
    ∙ ap (λ y. slice_range xs lo at ++ y ∷ []) (get_or-drop lo xs (at - lo) d ∙ ap (λ n. get_or xs n d) there)

pub slice_range-none : {A : Type 0} (xs : List A) (lo : ℕ) → slice_range xs lo lo ≡ []
slice_range-none xs lo = let none : lo - lo ≡ 0 = omega arith in ap (λ n. take n (drop lo xs)) none

alike_more : (byte next : ByteVal) (bytes : List ByteVal) → is_init next ≡ is_init byte → prov_of next ≡ prov_of byte → AreAlike byte bytes → AreAlike byte (bytes ++ next ∷ [])
alike_more byte next bytes same_init same_prov alike = record {
  init = marks is_init same_init alike.init;
  prov = marks prov_of same_prov alike.prov;
}
  where
    marks : {A : Type 0} (f : ByteVal → A) → f next ≡ f byte → map f bytes ≡ replicate (length bytes) (f byte) → map f (bytes ++ next ∷ []) ≡ replicate (length (bytes ++ next ∷ [])) (f byte)
    marks f same all =
        map-append f bytes (next ∷ [])
        ∙ ap (λ xs. xs ++ f next ∷ []) all
        ∙ ap (λ x. replicate (length bytes) (f byte) ++ x ∷ []) same
        ∙ replicate_more (length bytes) (f byte)
        ∙ ap (λ n. replicate n (f byte)) (sym (length_push bytes next))

-- the first byte is like itself
pub one_alike : (bytes : List ByteVal) (from : ℕ) (first : ByteVal) → from < length bytes → slice_get bytes from ≡ Some first → AreAlike first (slice_range bytes from (from + 1))
one_alike bytes from first within is =
    let one : slice_range bytes from (from + 1) ≡ first ∷ [] =
    slice_range-more bytes from from first (omega arith) within ∙ ap (λ xs. xs ++ get_or bytes from first ∷ []) (slice_range-none bytes from) ∙ ap (λ b. b ∷ []) (get_or_from_slice_get bytes from first first is)
    in
    subst (AreAlike first) (sym one) (record { init = refl; prov = refl })

pub more_alike : (bytes : List ByteVal) (from to : ℕ) (first next d : ByteVal) → from ≤ to → to < length bytes → next ≡ get_or bytes to d → is_init next ≡ is_init first → prov_of next ≡ prov_of first → AreAlike first (slice_range bytes from to) → AreAlike first (slice_range bytes from (to + 1))
more_alike bytes from to first next d order within is same_init same_prov alike =
    subst (AreAlike first) (ap (λ y. slice_range bytes from to ++ y ∷ []) is ∙ sym (slice_range-more bytes from to d order within)) (alike_more first next (slice_range bytes from to) same_init same_prov alike)

pub length_part : {A : Type 0} (xs : List A) (lo hi : ℕ) → hi ≤ length xs → length (slice_range xs lo hi) ≡ hi - lo
length_part xs lo hi within = omega (arith, length-take-le (hi - lo) (drop lo xs) (omega (arith, length-drop lo xs)))

-- the runs of the marks of bytes, written over the marks that were there
pub written : {A : Type 0} (f : ByteVal → A) (lo : ℕ) (bytes : List ByteVal) (values old new : List A) → values ≡ map f bytes → new ≡ splice old lo (lo + length values) values → new ≡ splice old lo (lo + length bytes) (map f bytes)
written f lo bytes values old new are is =
    let many : length values ≡ length bytes = ap length are ∙ length-map bytes f in
    is ∙ ap (λ xs. splice old lo (lo + length values) xs) are ∙ ap (λ n. splice old lo (lo + n) (map f bytes)) many

pub length_written : {A : Type 0} (f : ByteVal → A) (lo : ℕ) (bytes : List ByteVal) → length (map f bytes) ≡ lo + length bytes - lo
length_written f lo bytes = omega (arith, length-map bytes f)

-- all bytes are marked
pub marked_all : {A : Type 0} (f : ByteVal → A) (lo from : ℕ) (old now : List A) (bytes : List ByteVal) → length bytes ≤ from → from ≤ length bytes → now ≡ splice old lo (lo + from) (map f (take from bytes)) → now ≡ splice old lo (lo + length bytes) (map f bytes)
marked_all f lo from old now bytes past within is =
    let all : from ≡ length bytes = omega arith in
    is ∙ ap (λ xs. splice old lo (lo + from) (map f xs)) (take_all from bytes past) ∙ ap (λ n. splice old lo (lo + n) (map f bytes)) all
