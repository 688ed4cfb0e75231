-- Two lists of runs, gone over together.
use Rattle.std.proofs.Common.{◌≡◌, ℕ, zero, suc, ◌+◌, ◌-◌, ◌<◌, ◌≤◌, ◌&&◌, ◌==◌, Bool, true, false, min, List, [], ◌∷◌, ◌++◌, length, replicate, get_or, Some, None, refl, ap, sym, ◌∙◌, subst, arith, inl, inr}
use Rattle.std.specs.Prelude.{zip}
use Rattle.std.specs.List.{list_all}
use Rattle.std.proofs.lemmas.Bool.{cases_Bool, eqb-true, eq-eqb}
use Rattle.tb_ranges.specs.declared.run.Run.{Run}
use Rattle.tb_ranges.specs.Runs.{expanded, AreRuns}
use Rattle.tb_ranges.specs.Ranges.{from_place, rest_at}
use Rattle.tb_ranges.proofs.Reading.{IsRead, read_by, all_from}

-- runs from a place of the first one on
pub begins_read : {V : Type 0} (size : ℕ) (runs : List (Run V)) → AreRuns size runs → IsRead 0 runs × (expanded runs ≡ expanded (from_place 0 runs))
begins_read size runs are = let from = all_from None 0 size runs are in (read_by 0 size runs from.0, from.1)

pub read_after : {V : Type 0} (at to : ℕ) (run : Run V) (runs : List (Run V)) → IsRead at (run ∷ runs) → at < to → to ≤ run.hi → IsRead to (rest_at to (run ∷ runs)) × (replicate (run.hi - at - (to - at)) run.value ++ expanded runs ≡ expanded (from_place to (rest_at to (run ∷ runs))))
read_after at to run runs read less within = elim (cases_Bool (run.hi == to)) [
  | inl e ↦
      let end : run.hi ≡ to = eqb-true run.hi to e in
      let none : run.hi - at - (to - at) ≡ 0 = omega (arith, end) in
      let from = all_from (Some run.value) run.hi _ runs read.3 in
      rw e (subst (λ n. IsRead n runs) end (read_by run.hi _ runs from.0), ap (λ n. replicate n run.value ++ expanded runs) none ∙ from.1 ∙ ap (λ n. expanded (from_place n runs)) end)
  | inr e ↦
      let no : run.hi ≡ to → ⊥ = λ is. true_false (sym (eq-eqb run.hi to is) ∙ e) in
      let some : to < run.hi = omega (arith, no) in
      let left : run.hi - at - (to - at) ≡ run.hi - to = omega arith in
      rw e (read_by to _ (run ∷ runs) (refl, some, λ is. cc, read.3), ap (λ n. replicate n run.value ++ expanded runs) left)
]
  where
    true_false : true ≡ false → ⊥
    true_false is = cc

module _ {V W : Type 0} (p : V → W → Bool) where
  abbrev pub Test : V × W → Bool
  Test pair = p pair.0 pair.1

  twice : (a b : Bool) → (a && (a && b)) ≡ (a && b)
  twice true b = refl
  twice false b = refl

  -- the places that two first runs share
  row_pairs : (n m k : ℕ) (v : V) (w : W) (xs : List V) (ys : List W) → 0 < k → k ≤ n → k ≤ m → list_all Test (zip (replicate n v ++ xs) (replicate m w ++ ys)) ≡ (p v w && list_all Test (zip (replicate (n - k) v ++ xs) (replicate (m - k) w ++ ys)))
  row_pairs n m zero v w xs ys some first second = absurd (omega arith)
  row_pairs zero m (suc k) v w xs ys some first second = absurd (omega arith)
  row_pairs (suc n) zero (suc k) v w xs ys some first second = absurd (omega arith)
  row_pairs (suc n) (suc m) (suc zero) v w xs ys some first second =
      let left : n ≡ suc n - 1 = omega arith in
      let right : m ≡ suc m - 1 = omega arith in
      ap (λ k. p v w && list_all Test (zip (replicate k v ++ xs) (replicate m w ++ ys))) left ∙ ap (λ k. p v w && list_all Test (zip (replicate (suc n - 1) v ++ xs) (replicate k w ++ ys))) right
  row_pairs (suc n) (suc m) (suc (suc k)) v w xs ys some first second =
      let left : n - suc k ≡ suc n - suc (suc k) = omega arith in
      let right : m - suc k ≡ suc m - suc (suc k) = omega arith in
      ap (λ b. p v w && b) (row_pairs n m (suc k) v w xs ys (omega arith) (omega arith) (omega arith))
      ∙ twice (p v w) (list_all Test (zip (replicate (n - suc k) v ++ xs) (replicate (m - suc k) w ++ ys)))
      ∙ ap (λ j. p v w && list_all Test (zip (replicate j v ++ xs) (replicate (m - suc k) w ++ ys))) left
      ∙ ap (λ j. p v w && list_all Test (zip (replicate (suc n - suc (suc k)) v ++ xs) (replicate j w ++ ys))) right

  -- one pair of runs, and what is left of both
  pub pair_on : (at to : ℕ) (left : List (Run V)) (right : List (Run W)) (a : Run V) (b : Run W) → IsRead at left → IsRead at right → 0 < length left → 0 < length right → a ≡ get_or left 0 a → b ≡ get_or right 0 b → to ≡ min a.hi b.hi → list_all Test (zip (expanded (from_place at left)) (expanded (from_place at right))) ≡ (p a.value b.value && list_all Test (zip (expanded (from_place to (rest_at to left))) (expanded (from_place to (rest_at to right)))))
  pair_on at to [] right a b first second some other is also end = absurd (omega arith)
  pair_on at to (x ∷ xs) [] a b first second some other is also end = absurd (omega arith)
  pair_on at to (x ∷ xs) (y ∷ ys) a b first second some other is also end =
      let ends : to ≡ min x.hi y.hi = omega (arith, end, ap (λ (r : Run V). r.hi) is, ap (λ (r : Run W). r.hi) also) in
      let less : at < to = omega (arith, ends, first.1, second.1) in
      let left = read_after at to x xs first less (omega (arith, ends)) in
      let right = read_after at to y ys second less (omega (arith, ends)) in
      let shared : p x.value y.value ≡ p a.value b.value = ap (λ (r : Run V). p r.value y.value) (sym is) ∙ ap (λ (r : Run W). p a.value r.value) (sym also) in
      row_pairs (x.hi - at) (y.hi - at) (to - at) x.value y.value (expanded xs) (expanded ys) (omega arith) (omega (arith, ends)) (omega (arith, ends))
      ∙ ap (λ zs. p x.value y.value && list_all Test (zip zs (replicate (y.hi - at - (to - at)) y.value ++ expanded ys))) left.1
      ∙ ap (λ zs. p x.value y.value && list_all Test (zip (expanded (from_place to (rest_at to (x ∷ xs)))) zs)) right.1
      ∙ ap (λ c. c && list_all Test (zip (expanded (from_place to (rest_at to (x ∷ xs)))) (expanded (from_place to (rest_at to (y ∷ ys)))))) shared

  -- a pair of runs that fails ends it, and one that passes leaves the rest
  pub fails_on : (at : ℕ) (left : List (Run V)) (right : List (Run W)) (a : Run V) (b : Run W) → IsRead at left → IsRead at right → 0 < length left → 0 < length right → a ≡ get_or left 0 a → b ≡ get_or right 0 b → p a.value b.value ≡ false → false ≡ list_all Test (zip (expanded (from_place at left)) (expanded (from_place at right)))
  fails_on at left right a b first second some other is also fails =
      let to = min a.hi b.hi in
      sym (pair_on at to left right a b first second some other is also refl ∙ ap (λ c. c && list_all Test (zip (expanded (from_place to (rest_at to left))) (expanded (from_place to (rest_at to right))))) fails)

  pub passes_on : (at to : ℕ) (left : List (Run V)) (right : List (Run W)) (a : Run V) (b : Run W) → IsRead at left → IsRead at right → 0 < length left → 0 < length right → a ≡ get_or left 0 a → b ≡ get_or right 0 b → to ≡ min a.hi b.hi → p a.value b.value ≡ true → list_all Test (zip (expanded (from_place to (rest_at to left))) (expanded (from_place to (rest_at to right)))) ≡ list_all Test (zip (expanded (from_place at left)) (expanded (from_place at right)))
  passes_on at to left right a b first second some other is also end passes =
      sym (pair_on at to left right a b first second some other is also end ∙ ap (λ c. c && list_all Test (zip (expanded (from_place to (rest_at to left))) (expanded (from_place to (rest_at to right))))) passes)

-- both are read on from there
pub read_both : {V W : Type 0} (at to : ℕ) (left : List (Run V)) (right : List (Run W)) (a : Run V) (b : Run W) → IsRead at left → IsRead at right → 0 < length left → 0 < length right → a ≡ get_or left 0 a → b ≡ get_or right 0 b → to ≡ min a.hi b.hi → IsRead to (rest_at to left) × IsRead to (rest_at to right)
read_both at to [] right a b first second some other is also end = absurd (omega arith)
read_both at to (x ∷ xs) [] a b first second some other is also end = absurd (omega arith)
read_both {V} {W} at to (x ∷ xs) (y ∷ ys) a b first second some other is also end =
    let ends : to ≡ min x.hi y.hi = omega (arith, end, ap (λ (r : Run V). r.hi) is, ap (λ (r : Run W). r.hi) also) in
    let less : at < to = omega (arith, ends, first.1, second.1) in
    ((read_after at to x xs first less (omega (arith, ends))).0, (read_after at to y ys second less (omega (arith, ends))).0)

shorter : {V : Type 0} (to : ℕ) (x : Run V) (xs : List (Run V)) → (length (rest_at to (x ∷ xs)) ≤ suc (length xs)) × (x.hi ≡ to → length (rest_at to (x ∷ xs)) ≡ length xs)
shorter to x xs = elim (cases_Bool (x.hi == to)) [
  | inl e ↦ rw e (omega arith, λ is. refl)
  | inr e ↦ rw e (omega arith, λ is. absurd (cc (sym (eq-eqb x.hi to is) ∙ e)))
]

-- and one of them has fewer
pub fewer : {V W : Type 0} (to : ℕ) (left : List (Run V)) (right : List (Run W)) (a : Run V) (b : Run W) → 0 < length left → 0 < length right → a ≡ get_or left 0 a → b ≡ get_or right 0 b → to ≡ min a.hi b.hi → length (rest_at to left) + length (rest_at to right) < length left + length right
fewer to [] right a b some other is also end = absurd (omega arith)
fewer to (x ∷ xs) [] a b some other is also end = absurd (omega arith)
fewer {V} {W} to (x ∷ xs) (y ∷ ys) a b some other is also end =
    let ends : to ≡ min x.hi y.hi = omega (arith, end, ap (λ (r : Run V). r.hi) is, ap (λ (r : Run W). r.hi) also) in
    elim (cases_Bool (x.hi == to)) [
      | inl e ↦ omega (arith, (shorter to x xs).1 (eqb-true x.hi to e), (shorter to y ys).0)
      | inr e ↦
          let no : x.hi ≡ to → ⊥ = λ is. absurd (cc (sym (eq-eqb x.hi to is) ∙ e)) in
          let last : y.hi ≡ to = omega (arith, ends, no) in
          omega (arith, (shorter to x xs).0, (shorter to y ys).1 last)
    ]

-- runs of no place have no pairs
pub none_right : {V W : Type 0} (p : V × W → Bool) (at : ℕ) (xs : List V) (right : List (Run W)) → length right ≡ 0 → true ≡ list_all p (zip xs (expanded (from_place at right)))
none_right p at [] right none = refl
none_right p at (x ∷ xs) [] none = refl
none_right p at (x ∷ xs) (y ∷ ys) none = absurd (omega arith)
