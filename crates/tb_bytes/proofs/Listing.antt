-- The provenances of runs, each once.
use Rattle.std.proofs.Common.{◌≡◌, ◌⊎◌, inl, inr, ℕ, zero, suc, ◌-◌, ◌<◌, ◌≤◌, nat_lt, map, List, [], ◌∷◌, ◌++◌, replicate, Option, Some, None, refl, ap, sym, ◌∙◌, subst, arith, append_assoc}
use Rattle.std.specs.List.{Contains, slice_get}
use Rattle.std.proofs.lemmas.Bool.{cases_Bool, ltb-true, ltb-false}
use Rattle.std.proofs.lemmas.List.{length-replicate, get_or-replicate}
use Rattle.std.proofs.lemmas.List.Elements.{Contains-append_left, Contains-append_right, Contains-append_cases}
use Rattle.tb_perm.specs.declared.tag.Prov.{Prov}
use Rattle.tb_ranges.specs.declared.run.Run.{Run}
use Rattle.tb_ranges.specs.Runs.{expanded, GoOn}
use Rattle.tb_bytes.specs.Bytes.{AreNextRuns}
use Rattle.tb_bytes.specs.Parts.{with_prov, listed}

here : {A : Type 0} (x : A) (xs : List A) → Contains (x ∷ xs) x
here x xs = (0, omega arith, refl)

later : {A : Type 0} (x y : A) (xs : List A) → Contains xs y → Contains (x ∷ xs) y
later x y xs has = (suc has.0, omega (arith, has.1), has.2)

first_or_later : {A : Type 0} (x y : A) (xs : List A) → Contains (x ∷ xs) y → (x ≡ y) ⊎ Contains xs y
first_or_later x y xs (zero, within, is) = inl is
first_or_later x y xs (suc k, within, is) = inr (k, omega arith, is)

in_row : {A : Type 0} (n : ℕ) (x : A) → 0 < n → Contains (replicate n x) x
in_row zero x some = absurd (omega arith)
in_row (suc n) x some = here x (replicate n x)

of_row : {A : Type 0} (n : ℕ) (x y : A) → Contains (replicate n x) y → x ≡ y
of_row n x y has = sym (get_or-replicate n has.0 x y (omega (arith, has.1, length-replicate n x))) ∙ has.2

one_listed : (value : Option Prov) (n : ℕ) (prov : Prov) (values : List (Option Prov)) (rest : List Prov) → 0 < n → (Contains rest prov → Contains values (Some prov)) → Contains (with_prov value rest) prov → Contains (replicate n value ++ values) (Some prov)
one_listed None n prov values rest some there has = Contains-append_right (replicate n None) values (Some prov) (there has)
one_listed (Some p) n prov values rest some there has = elim (first_or_later p prov rest has) [
  | inl is ↦ Contains-append_left (replicate n (Some p)) values (Some prov) (subst (λ q. Contains (replicate n (Some p)) (Some q)) is (in_row n (Some p) some))
  | inr has ↦ Contains-append_right (replicate n (Some p)) values (Some prov) (there has)
]

-- a provenance that is listed is some place's
pub listed_has : (before : Option (Option Prov)) (lo hi : ℕ) (xs : List (Run (Option Prov))) (prov : Prov) → GoOn before lo hi xs → Contains (listed xs) prov → Contains (expanded xs) (Some prov)
listed_has before lo hi [] prov on has = absurd (omega (arith, has.1))
listed_has before lo hi (x ∷ xs) prov on has =
    one_listed x.value (x.hi - x.lo) prov (expanded xs) (listed xs) (omega (arith, on.0, on.1)) (listed_has (Some x.value) x.hi hi xs prov on.3) has

one_kept : (value : Option Prov) (prov : Prov) (rest : List Prov) → Contains rest prov → Contains (with_prov value rest) prov
one_kept None prov rest has = has
one_kept (Some p) prov rest has = later p prov rest has

one_new : (value : Option Prov) (prov : Prov) (rest : List Prov) → value ≡ Some prov → Contains (with_prov value rest) prov
one_new value prov rest is = subst (λ v. Contains (with_prov v rest) prov) (sym is) (here prov rest)

-- a place's provenance is listed
pub has_listed : (xs : List (Run (Option Prov))) (prov : Prov) → Contains (expanded xs) (Some prov) → Contains (listed xs) prov
has_listed [] prov has = absurd (omega (arith, has.1))
has_listed (x ∷ xs) prov has = elim (Contains-append_cases (replicate (x.hi - x.lo) x.value) (expanded xs) (Some prov) has) [
  | inl has ↦ one_new x.value prov (listed xs) (of_row (x.hi - x.lo) x.value (Some prov) has)
  | inr has ↦ one_kept x.value prov (listed xs) (has_listed xs prov has)
]

-- what the loop over runs keeps
pub listed_more : (front rest : List Prov) (runs : List (Run (Option Prov))) (value : Option Prov) (prov : Prov) → value ≡ Some prov → (front ++ prov ∷ []) ++ rest ≡ front ++ with_prov value rest
listed_more front rest runs value prov is = append_assoc front (prov ∷ []) rest ∙ ap (λ v. front ++ with_prov v rest) (sym is)

-- the place of an item
place_of : {A : Type 0} (xs : List A) (x : A) → Contains xs x → (k : ℕ) × (slice_get xs k ≡ Some x)
place_of [] x has = absurd (omega (arith, has.1))
place_of (y ∷ ys) x has = elim (first_or_later y x ys has) [
  | inl is ↦ (0, ap (λ z. Some z) is)
  | inr has ↦ let found = place_of ys x has in (suc found.0, found.1)
]

is_in : {A : Type 0} (xs : List A) (k : ℕ) (x : A) → slice_get xs k ≡ Some x → Contains xs x
is_in [] k x is = absurd (cc)
is_in (y ∷ ys) zero x is = let same : y ≡ x = cc in subst (Contains (y ∷ ys)) same (here y ys)
is_in (y ∷ ys) (suc k) x is = later y x ys (is_in ys k x is)

-- a provenance from a place on is that of a next run
pub met : (at : ℕ) (provs : List (Option Prov)) (runs : List (ℕ × Prov)) (k : ℕ) (prov : Prov) → AreNextRuns at provs runs → at ≤ k → slice_get provs k ≡ Some (Some prov) → Contains (map (λ (run : ℕ × Prov). run.1) runs) prov
met at provs [] k prov are from is = absurd (are k prov from is)
met at provs (run ∷ runs) k prov are from is = elim (cases_Bool (nat_lt k are.0.from)) [
  | inl e ↦ let bare = are.0.bare k from (ltb-true _ _ e) in absurd (cc (bare, is))
  | inr e ↦ elim (cases_Bool (nat_lt k run.0)) [
    | inl f ↦
        let has = are.0.same k (ltb-false _ _ e) (ltb-true _ _ f) in
        let same : run.1 ≡ prov = cc (has, is) in
        subst (Contains (map (λ (r : ℕ × Prov). r.1) (run ∷ runs))) same (here run.1 (map (λ (r : ℕ × Prov). r.1) runs))
    | inr f ↦ later run.1 prov (map (λ (r : ℕ × Prov). r.1) runs) (met run.0 provs runs k prov are.1 (ltb-false _ _ f) is)
  ]
]

pub all_met : (provs : List (Option Prov)) (runs : List (ℕ × Prov)) (prov : Prov) → AreNextRuns 0 provs runs → Contains provs (Some prov) → Contains (map (λ (run : ℕ × Prov). run.1) runs) prov
all_met provs runs prov are has = let found = place_of provs (Some prov) has in met 0 provs runs found.0 prov are (omega arith) found.1

-- and no next run has another
pub only_met : (at : ℕ) (provs : List (Option Prov)) (runs : List (ℕ × Prov)) (prov : Prov) → AreNextRuns at provs runs → Contains (map (λ (run : ℕ × Prov). run.1) runs) prov → Contains provs (Some prov)
only_met at provs [] prov are has = absurd (omega (arith, has.1))
only_met at provs (run ∷ runs) prov are has = elim (first_or_later run.1 prov (map (λ (r : ℕ × Prov). r.1) runs) has) [
  | inl is ↦
      let there = are.0.same are.0.from (omega arith) are.0.some in
      subst (λ p. Contains provs (Some p)) is (is_in provs are.0.from (Some run.1) there)
  | inr has ↦ only_met run.0 provs runs prov are.1 has
]
