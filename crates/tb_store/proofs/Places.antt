-- What lists have for a number, and the same with another in its place.
use Rattle.std.proofs.Common.{◌≡◌, ◌≢◌, refl, sym, ◌∙◌, ap, inl, inr, ◌⊎◌, ℕ, zero, suc, ◌+◌, ◌-◌, ◌<◌, ◌≤◌, Bool, true, false, true≢false, nat_eq, List, [], ◌∷◌, ◌++◌, length, map, slice_set, slice_index_or, Result, Ok, Err, OnOk, OnErr, arith}
use Rattle.std.specs.Cmp.{unsigned_Decides}
use Rattle.tb_store.specs.Store.{nth, with_nth}

pub same_or_not : (a b : ℕ) → (a ≡ b) ⊎ (a ≢ b)
same_or_not a b = by_test (nat_eq a b) refl
  where
    by_test : (test : Bool) → nat_eq a b ≡ test → (a ≡ b) ⊎ (a ≢ b)
    by_test true e = inl ((unsigned_Decides a b).0 e)
    by_test false e = inr (λ s. true≢false (sym ((unsigned_Decides a b).1 s) ∙ e))

module _ {A : Type 0} where
  set_same : (xs : List A) (i : ℕ) (x d : A) → i < length xs → slice_index_or (slice_set xs i x) i d ≡ x
  set_same [] i x d h = absurd (omega arith)
  set_same (y ∷ xs) zero x d h = refl
  set_same (y ∷ xs) (suc i) x d h = set_same xs i x d (omega arith)

  set_other : (xs : List A) (i j : ℕ) (x d : A) → j ≢ i → slice_index_or (slice_set xs i x) j d ≡ slice_index_or xs j d
  set_other [] i j x d h = refl
  set_other (y ∷ xs) zero zero x d h = absurd (h refl)
  set_other (y ∷ xs) zero (suc j) x d h = refl
  set_other (y ∷ xs) (suc i) zero x d h = refl
  set_other (y ∷ xs) (suc i) (suc j) x d h = set_other xs i j x d (λ e. h (ap suc e))

  length_set : (xs : List A) (i : ℕ) (x : A) → length (slice_set xs i x) ≡ length xs
  length_set [] i x = refl
  length_set (y ∷ xs) zero x = refl
  length_set (y ∷ xs) (suc i) x = ap suc (length_set xs i x)

  past : (xs : List A) (i : ℕ) (d : A) → length xs ≤ i → slice_index_or xs i d ≡ d
  past [] i d h = refl
  past (y ∷ xs) zero d h = absurd (omega arith)
  past (y ∷ xs) (suc i) d h = past xs i d (omega arith)

  set_past : (xs : List A) (i : ℕ) (x : A) → length xs ≤ i → slice_set xs i x ≡ xs
  set_past [] i x h = refl
  set_past (y ∷ xs) zero x h = absurd (omega arith)
  set_past (y ∷ xs) (suc i) x h = ap (λ (rest : List A). y ∷ rest) (set_past xs i x (omega arith))

  set_twice : (xs : List A) (i : ℕ) (x y : A) → slice_set (slice_set xs i x) i y ≡ slice_set xs i y
  set_twice [] i x y = refl
  set_twice (z ∷ xs) zero x y = refl
  set_twice (z ∷ xs) (suc i) x y = ap (λ (rest : List A). z ∷ rest) (set_twice xs i x y)

  set_found : (xs : List A) (i : ℕ) (x d : A) → slice_index_or xs i d ≡ x → i < length xs → slice_set xs i x ≡ xs
  set_found [] i x d e h = absurd (omega arith)
  set_found (z ∷ xs) zero x d e h = ap (λ (y : A). y ∷ xs) (sym e)
  set_found (z ∷ xs) (suc i) x d e h = ap (λ (rest : List A). z ∷ rest) (set_found xs i x d e (omega arith))

  before_end : (xs : List A) (i : ℕ) (x d : A) → i < length xs → slice_index_or (xs ++ x ∷ []) i d ≡ slice_index_or xs i d
  before_end [] i x d h = absurd (omega arith)
  before_end (y ∷ xs) zero x d h = refl
  before_end (y ∷ xs) (suc i) x d h = before_end xs i x d (omega arith)

  at_end : (xs : List A) (i : ℕ) (x d : A) → i ≡ length xs → slice_index_or (xs ++ x ∷ []) i d ≡ x
  at_end [] zero x d e = refl
  at_end [] (suc i) x d e = absurd (omega arith)
  at_end (y ∷ xs) zero x d e = absurd (omega arith)
  at_end (y ∷ xs) (suc i) x d e = at_end xs i x d (omega arith)

  -- the one that was put there
  pub nth_same : (xs : List A) (number : ℕ) (x d : A) → 1 ≤ number → number ≤ length xs → nth (with_nth xs number x) number d ≡ x
  nth_same xs zero x d low high = absurd (omega arith)
  nth_same xs (suc i) x d low high = set_same xs i x d (omega arith)

  -- the others
  pub nth_other : (xs : List A) (number other : ℕ) (x d : A) → other ≢ number → nth (with_nth xs number x) other d ≡ nth xs other d
  nth_other xs zero other x d h = refl
  nth_other xs (suc i) zero x d h = refl
  nth_other xs (suc i) (suc j) x d h = set_other xs i j x d (λ e. h (ap suc e))

  pub length_with : (xs : List A) (number : ℕ) (x : A) → length (with_nth xs number x) ≡ length xs
  length_with xs zero x = refl
  length_with xs (suc i) x = length_set xs i x

  pub with_twice : (xs : List A) (number : ℕ) (x y : A) → with_nth (with_nth xs number x) number y ≡ with_nth xs number y
  with_twice xs zero x y = refl
  with_twice xs (suc i) x y = set_twice xs i x y

  -- what is there already
  pub with_found : (xs : List A) (number : ℕ) (x d : A) → nth xs number d ≡ x → 1 ≤ number → number ≤ length xs → with_nth xs number x ≡ xs
  with_found xs zero x d e low high = absurd (omega arith)
  with_found xs (suc i) x d e low high = set_found xs i x d e (omega arith)

  -- one more at the end
  pub nth_before : (xs : List A) (number : ℕ) (x d : A) → number ≤ length xs → nth (xs ++ x ∷ []) number d ≡ nth xs number d
  nth_before xs zero x d h = refl
  nth_before xs (suc i) x d h = before_end xs i x d (omega arith)

  pub nth_end : (xs : List A) (number : ℕ) (x d : A) → number ≡ length xs + 1 → nth (xs ++ x ∷ []) number d ≡ x
  nth_end xs zero x d e = absurd (omega arith)
  nth_end xs (suc i) x d e = at_end xs i x d (omega arith)

  -- none has a number past the end
  pub nth_past : (xs : List A) (number : ℕ) (d : A) → length xs < number → nth xs number d ≡ d
  nth_past xs zero d h = refl
  nth_past xs (suc i) d h = past xs i d (omega arith)

module _ {A : Type 0} where
  -- the place of a number
  pub with_is : (xs : List A) (number : ℕ) (x : A) → 0 < number → with_nth xs number x ≡ slice_set xs (number - 1) x
  with_is xs zero x h = absurd (omega arith)
  with_is xs (suc i) x h = ap (λ k. slice_set xs k x) (let e : i ≡ suc i - 1 = omega arith in e)

  index_any : (xs : List A) (i : ℕ) (d e : A) → i < length xs → slice_index_or xs i d ≡ slice_index_or xs i e
  index_any [] i d e h = absurd (omega arith)
  index_any (x ∷ xs) zero d e h = refl
  index_any (x ∷ xs) (suc i) d e h = index_any xs i d e (omega arith)

  pub nth_is : (xs : List A) (number : ℕ) (x d : A) → 0 < number → number ≤ length xs → x ≡ slice_index_or xs (number - 1) x → nth xs number d ≡ x
  nth_is xs zero x d low high e = absurd (omega arith)
  nth_is xs (suc i) x d low high e = index_any xs i d x (omega arith) ∙ ap (λ k. slice_index_or xs k x) (let f : i ≡ suc i - 1 = omega arith in f) ∙ sym e

  pub set_again : (xs : List A) (number : ℕ) (x y : A) → 0 < number → with_nth (slice_set xs (number - 1) x) number y ≡ with_nth xs number y
  set_again xs number x y h = ap (λ (list : List A). with_nth list number y) (sym (with_is xs number x h)) ∙ with_twice xs number x y

module _ {A B : Type 0} (f : A → B) where
  map_set : (xs : List A) (i : ℕ) (x : A) → map f (slice_set xs i x) ≡ slice_set (map f xs) i (f x)
  map_set [] i x = refl
  map_set (y ∷ xs) zero x = refl
  map_set (y ∷ xs) (suc i) x = ap (λ (rest : List B). f y ∷ rest) (map_set xs i x)

  map_index : (xs : List A) (i : ℕ) (d : A) → slice_index_or (map f xs) i (f d) ≡ f (slice_index_or xs i d)
  map_index [] i d = refl
  map_index (y ∷ xs) zero d = refl
  map_index (y ∷ xs) (suc i) d = map_index xs i d

  pub map_with : (xs : List A) (number : ℕ) (x : A) → map f (with_nth xs number x) ≡ with_nth (map f xs) number (f x)
  map_with xs zero x = refl
  map_with xs (suc i) x = map_set xs i x

  pub nth_map : (xs : List A) (number : ℕ) (d : A) → nth (map f xs) number (f d) ≡ f (nth xs number d)
  nth_map xs zero d = refl
  nth_map xs (suc i) d = map_index xs i d

  pub set_mapped : (xs : List A) (number : ℕ) (x : A) (y : B) → 0 < number → f x ≡ y → map f (slice_set xs (number - 1) x) ≡ with_nth (map f xs) number y
  set_mapped xs number x y h e = ap (map f) (sym (with_is xs number x h)) ∙ map_with xs number x ∙ ap (with_nth (map f xs) number) e

pub on_ok : {T E P Q : Type 0} (result : Result T E) → (P → Q) → OnOk result P → OnOk result Q
on_ok (Ok x) f p = f p
on_ok (Err e) f p = tt

pub on_err : {T E Q : Type 0} (result : Result T E) → Q → OnErr result Q
on_err (Ok x) q = tt
on_err (Err e) q = q
