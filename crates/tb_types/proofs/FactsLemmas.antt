-- The facts of parts side by side, one part after another.
use Rattle.std.proofs.Common.{◌≡◌, refl, sym, ◌∙◌, ap, ℕ, suc, zero, ◌+◌, Bool, true, false, ◌&&◌, ◌||◌, List, [], ◌∷◌, map, drop, Some, slice_get, arith, subst}
use Rattle.std.specs.List.{AllByRecursion}
use Rattle.tb_types.specs.declared.shape.Ty.{Ty}
use Rattle.tb_types.specs.declared.item.Field.{Field}
use Rattle.tb_types.specs.declared.facts.Facts.{Facts}
use Rattle.tb_types.specs.Folded.{types_in}
use Rattle.tb_types.specs.Facts.{beside, joined}

pub and_again : (a b c : Bool) → ((a && b) && c) ≡ (a && (b && c))
and_again true b c = refl
and_again false b c = refl

or_again : (a b c : Bool) → ((a || b) || c) ≡ (a || (b || c))
or_again true b c = refl
or_again false b c = refl

pub drop_here : {X : Type 0} (xs : List X) (i : ℕ) (x : X) → slice_get xs i ≡ Some x → drop i xs ≡ x ∷ drop (i + 1) xs
drop_here [] i x h = cc
drop_here (y ∷ xs) zero x h = let e : y ≡ x = cc in ap (λ z. z ∷ xs) e
drop_here (y ∷ xs) (suc i) x h = drop_here xs i x h ∙ ap (λ n. x ∷ drop n (y ∷ xs)) (let e : suc (i + 1) ≡ suc i + 1 = omega arith in e)

pub within_next : {X : Type 0} (P : X → Type 0) (xs : List X) (i : ℕ) (x : X) → slice_get xs i ≡ Some x → AllByRecursion P (drop i xs) → P x × AllByRecursion P (drop (i + 1) xs)
within_next P xs i x here h = subst (AllByRecursion P) (drop_here xs i x here) h

-- one more part
pub joined_more : (all fact : Facts) (rest : List Facts) → joined (joined all fact) (beside rest) ≡ joined all (beside (fact ∷ rest))
joined_more all fact rest i = record {
  copy = and_again all.copy fact.copy (beside rest).copy i;
  freeze = and_again all.freeze fact.freeze (beside rest).freeze i;
  retag = or_again all.retag fact.retag (beside rest).retag i;
  owns_box = or_again all.owns_box fact.owns_box (beside rest).owns_box i;
  complete = and_again all.complete fact.complete (beside rest).complete i;
  sized = and_again all.sized fact.sized (beside rest).sized i;
}

-- one more part of a list
pub next_part : (f : Ty → Facts) (parts : List Ty) (i : ℕ) (part : Ty) (all next total : Facts) → slice_get parts i ≡ Some part → next ≡ joined all (f part)
    → joined all (beside (map f (drop i parts))) ≡ total → joined next (beside (map f (drop (i + 1) parts))) ≡ total
next_part f parts i part all next total here is told =
    ap (λ (fact : Facts). joined fact (beside (map f (drop (i + 1) parts)))) is ∙ joined_more all (f part) (map f (drop (i + 1) parts))
    ∙ ap (λ (rest : List Ty). joined all (beside (map f rest))) (sym (drop_here parts i part here)) ∙ told

-- one more field
pub next_field : (f : Ty → Facts) (fields : List Field) (i : ℕ) (field : Field) (all next total : Facts) → slice_get fields i ≡ Some field → next ≡ joined all (f field.ty)
    → joined all (beside (map f (types_in (drop i fields)))) ≡ total → joined next (beside (map f (types_in (drop (i + 1) fields)))) ≡ total
next_field f fields i field all next total here is told =
    ap (λ (fact : Facts). joined fact (beside (map f (types_in (drop (i + 1) fields))))) is ∙ joined_more all (f field.ty) (map f (types_in (drop (i + 1) fields)))
    ∙ ap (λ (rest : List Field). joined all (beside (map f (types_in rest)))) (sym (drop_here fields i field here)) ∙ told

pub within_next_field : (P : Ty → Type 0) (fields : List Field) (i : ℕ) (field : Field) → slice_get fields i ≡ Some field → AllByRecursion P (types_in (drop i fields)) → P field.ty × AllByRecursion P (types_in (drop (i + 1) fields))
within_next_field P fields i field here h = subst (λ (rest : List Field). AllByRecursion P (types_in rest)) (drop_here fields i field here) h
