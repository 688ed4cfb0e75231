-- A shape has one place among shapes that differ.
use Rattle.std.proofs.Common.{◌≡◌, refl, sym, ◌∙◌, ap, subst, ℕ, suc, zero, ◌+◌, Bool, true, false, true≢false, not, cond, ◌||◌, List, [], ◌∷◌, ◌++◌, Some, slice_get, take, arith, if◌then◌else◌}
use Rattle.std.specs.List.{AllByRecursion, list_any, position_or_len, IsDistinct}
use Rattle.tb_types.specs.declared.shape.TyShape.{TyShape}
use Rattle.tb_types.specs.contracts.shape.TyShapeEq.TheImpl.Laws as laws
use Rattle.tb_types.specs.Shapes.{shape_eq}
use Rattle.tb_types.proofs.Exact.{exact_shape}

same_shape : (shape : TyShape) → shape_eq shape shape ≡ true
same_shape shape = laws.laws-law.refl shape

absent_at : (shape : TyShape) (shapes : List TyShape) (i : ℕ) → AllByRecursion (λ other. shape_eq shape other ≡ false) shapes → slice_get shapes i ≡ Some shape → ⊥
absent_at shape [] i h e = cc
absent_at shape (other ∷ shapes) zero h e = let f : other ≡ shape = cc in true≢false (sym (same_shape shape) ∙ ap (shape_eq shape) (sym f) ∙ h.0)
absent_at shape (other ∷ shapes) (suc i) h e = absent_at shape shapes i h.1 e

-- equal shapes stand at one place
pub one_place : (shapes : List TyShape) (i j : ℕ) (shape : TyShape) → IsDistinct shape_eq shapes → slice_get shapes i ≡ Some shape → slice_get shapes j ≡ Some shape → i ≡ j
unfolding IsDistinct
one_place [] i j shape d e f = cc
one_place (x ∷ xs) zero zero shape d e f = refl
one_place (x ∷ xs) zero (suc j) shape d e f = let g : x ≡ shape = cc in absurd (absent_at x xs j d.0 (f ∙ ap Some (sym g)))
one_place (x ∷ xs) (suc i) zero shape d e f = let g : x ≡ shape = cc in absurd (absent_at x xs i d.0 (e ∙ ap Some (sym g)))
one_place (x ∷ xs) (suc i) (suc j) shape d e f = ap suc (one_place xs i j shape d.1 e f)

-- what is put behind a list unless a test finds it there stands at the first place that passes the test
module _ {X : Type 0} (test : X → Bool) (x : X) (exact : (y : X) → test y ≡ true → y ≡ x) where
  next : (y : X) (ys : List X) (n : ℕ) (known : Bool) → slice_get (if known then ys else ys ++ x ∷ []) n ≡ Some x → slice_get (if known then y ∷ ys else y ∷ ys ++ x ∷ []) (1 + n) ≡ Some x
  next y ys n true h = subst (λ i. slice_get (y ∷ ys) i ≡ Some x) (let e : suc n ≡ 1 + n = omega arith in e) h
  next y ys n false h = subst (λ i. slice_get (y ∷ ys ++ x ∷ []) i ≡ Some x) (let e : suc n ≡ 1 + n = omega arith in e) h

  by_head : (y : X) (ys : List X) (found : Bool) → (found ≡ true → y ≡ x) → slice_get (if list_any test ys then ys else ys ++ x ∷ []) (position_or_len test ys) ≡ Some x
      → slice_get (if found || list_any test ys then y ∷ ys else y ∷ ys ++ x ∷ []) (cond (not found) (1 + position_or_len test ys) 0) ≡ Some x
  by_head y ys true same h = ap Some (same refl)
  by_head y ys false same h = next y ys (position_or_len test ys) (list_any test ys) h

  found_at : (ys : List X) → slice_get (if list_any test ys then ys else ys ++ x ∷ []) (position_or_len test ys) ≡ Some x
  found_at [] = refl
  found_at (y ∷ ys) = by_head y ys (test y) (exact y) (found_at ys)

-- an inserted shape stands at its place
pub at_place : (shapes : List TyShape) (shape : TyShape) → slice_get (if list_any (shape_eq shape) shapes then shapes else shapes ++ shape ∷ []) (position_or_len (shape_eq shape) shapes) ≡ Some shape
at_place shapes shape = found_at (shape_eq shape) shape (λ other h. sym (exact_shape shape other h)) shapes

apart_at : (shape : TyShape) (shapes : List TyShape) (i : ℕ) (other : TyShape) → AllByRecursion (λ later. shape_eq shape later ≡ false) shapes → slice_get shapes i ≡ Some other → shape_eq shape other ≡ false
apart_at shape [] i other h e = cc
apart_at shape (x ∷ xs) zero other h e = let f : x ≡ other = cc in ap (shape_eq shape) (sym f) ∙ h.0
apart_at shape (x ∷ xs) (suc i) other h e = apart_at shape xs i other h.1 e

either_way : (a b : Bool) → a ≡ false → b ≡ false → (a || b) ≡ false
either_way a b e f = ap (λ x. x || b) e ∙ f

-- no shape stands before its place
pub absent_before : (shapes : List TyShape) (i : ℕ) (shape : TyShape) → IsDistinct shape_eq shapes → slice_get shapes i ≡ Some shape → list_any (shape_eq shape) (take i shapes) ≡ false
unfolding IsDistinct
absent_before [] i shape d e = cc
absent_before (x ∷ xs) zero shape d e = refl
absent_before (x ∷ xs) (suc i) shape d e =
    either_way (shape_eq shape x) (list_any (shape_eq shape) (take i xs)) (laws.laws-law.symm shape x ∙ apart_at x xs i shape d.0 e) (absent_before xs i shape d.1 e)
