-- Where allocations lie: by the rule for their bases, each above the ones before it.
use Rattle.std.specs.Prelude.{◌≡◌, ℕ, zero, suc, ◌+◌, ◌-◌, ◌*◌, ◌/◌, ◌%◌, ◌<◌, ◌≤◌, List, [], ◌∷◌, ◌++◌, Option, Some, None, slice_get, slice_set}
use Rattle.std.specs.List.{All, AllPairs}
use Rattle.std.specs.Int.{next_multiple_of}
use Rattle.std.proofs.Common.{refl, sym, ◌∙◌, ap, subst, arith}
use Rattle.std.proofs.Math.Nat.{add-zero, sub-zero, mod_self, mul-mod_left, mod-lt, mod-eq_of_lt, div-add-mod'}
use Rattle.std.proofs.lemmas.List.Elements.{All-cons, All-nil}
use Rattle.std.proofs.lemmas.List.Kept.{AllPairs-cons}
use Rattle.tb_alloc.specs.declared.allocation.Allocation.{Allocation}
use Rattle.tb_alloc.specs.Allocations.{end_of, candidate_after, dead, dead_at, killed}
use Rattle.tb_alloc.specs.Kept.{ArePlaced}

-- the next multiple is one
pub multiple-next_multiple_of : (a b : ℕ) → 0 < b → next_multiple_of a b % b ≡ 0
multiple-next_multiple_of a b some = by_rest (a % b) refl
  where
    by_rest : (r : ℕ) → a % b ≡ r → (a + (b - a % b) % b) % b ≡ 0
    by_rest zero e =
        let rest : (b - a % b) % b ≡ 0 = ap (λ (k : ℕ). (b - k) % b) e ∙ ap (λ (k : ℕ). k % b) (sub-zero b) ∙ mod_self b in
        ap (λ (k : ℕ). (a + k) % b) rest ∙ ap (λ (k : ℕ). k % b) (add-zero a) ∙ e
    by_rest (suc r) e =
        let below : a % b < b = mod-lt a some in
        let rest : (b - a % b) % b ≡ b - a % b = mod-eq_of_lt (omega arith) in
        let whole : a + (b - a % b) ≡ (a / b + 1) * b = omega (arith, div-add-mod' a b) in
        ap (λ (k : ℕ). (a + k) % b) rest ∙ ap (λ (k : ℕ). k % b) whole ∙ mul-mod_left (a / b + 1) b

-- after one more
pub candidate_after-push : (from : ℕ) (xs : List Allocation) (a : Allocation) → candidate_after from (xs ++ a ∷ []) ≡ end_of a + 16
candidate_after-push from [] a = refl
candidate_after-push from (x ∷ xs) a = candidate_after-push (end_of x + 16) xs a

pub ArePlaced-push : (from : ℕ) (xs : List Allocation) (a : Allocation) → ArePlaced from xs → 0 < a.align → a.base ≡ next_multiple_of (candidate_after from xs) a.align → ArePlaced from (xs ++ a ∷ [])
ArePlaced-push from [] a placed some is = (some, is, tt)
ArePlaced-push from (x ∷ xs) a placed some is = (placed.0, placed.1, ArePlaced-push (end_of x + 16) xs a placed.2 some is)

-- after a death
candidate_after-dead : (from : ℕ) (xs : List Allocation) (place : ℕ) (a : Allocation) → slice_get xs place ≡ Some a → candidate_after from (slice_set xs place (dead a)) ≡ candidate_after from xs
candidate_after-dead from [] place a is = refl
candidate_after-dead from (x ∷ xs) zero a is = let same : x ≡ a = cc in ap (λ (e : Allocation). candidate_after (end_of e + 16) xs) (sym same)
candidate_after-dead from (x ∷ xs) (suc place) a is = candidate_after-dead (end_of x + 16) xs place a is

ArePlaced-dead : (from : ℕ) (xs : List Allocation) (place : ℕ) (a : Allocation) → slice_get xs place ≡ Some a → ArePlaced from xs → ArePlaced from (slice_set xs place (dead a))
ArePlaced-dead from [] place a is placed = placed
ArePlaced-dead from (x ∷ xs) zero a is placed =
    let same : x ≡ a = cc in
    subst (λ (e : Allocation). (0 < e.align) × (e.base ≡ next_multiple_of from e.align) × ArePlaced (end_of e + 16) xs) same placed
ArePlaced-dead from (x ∷ xs) (suc place) a is placed = (placed.0, placed.1, ArePlaced-dead (end_of x + 16) xs place a is placed.2)

pub candidate_after-killed : (from : ℕ) (xs : List Allocation) (id : ℕ) → candidate_after from (killed xs id) ≡ candidate_after from xs
candidate_after-killed from xs zero = refl
candidate_after-killed from xs (suc place) = by_case (slice_get xs place) refl
  where
    by_case : (o : Option Allocation) → slice_get xs place ≡ o → candidate_after from (dead_at xs place o) ≡ candidate_after from xs
    by_case None is = refl
    by_case (Some a) is = candidate_after-dead from xs place a is

pub ArePlaced-killed : (from : ℕ) (xs : List Allocation) (id : ℕ) → ArePlaced from xs → ArePlaced from (killed xs id)
ArePlaced-killed from xs zero placed = placed
ArePlaced-killed from xs (suc place) placed = by_case (slice_get xs place) refl
  where
    by_case : (o : Option Allocation) → slice_get xs place ≡ o → ArePlaced from (dead_at xs place o)
    by_case None is = placed
    by_case (Some a) is = ArePlaced-dead from xs place a is placed

-- what the rule gives
pub all_aligned : (from : ℕ) (xs : List Allocation) → ArePlaced from xs → All (λ (a : Allocation). a.base % a.align ≡ 0) xs
all_aligned from [] placed = All-nil _
all_aligned from (x ∷ xs) placed =
    All-cons (λ (a : Allocation). a.base % a.align ≡ 0) x xs (ap (λ (n : ℕ). n % x.align) placed.1 ∙ multiple-next_multiple_of from x.align placed.0) (all_aligned (end_of x + 16) xs placed.2)

pub all_above : (low from : ℕ) (xs : List Allocation) → low ≤ from → ArePlaced from xs → All (λ (a : Allocation). low ≤ a.base) xs
all_above low from [] below placed = All-nil _
all_above low from (x ∷ xs) below placed =
    let is : x.base ≡ next_multiple_of from x.align = placed.1 in
    All-cons (λ (a : Allocation). low ≤ a.base) x xs (omega arith) (all_above low (end_of x + 16) xs (omega arith) placed.2)

pub below_candidate : (from : ℕ) (xs : List Allocation) → ArePlaced from xs → from ≤ candidate_after from xs
below_candidate from [] placed = omega arith
below_candidate from (x ∷ xs) placed =
    let is : x.base ≡ next_multiple_of from x.align = placed.1 in
    let rest : end_of x + 16 ≤ candidate_after (end_of x + 16) xs = below_candidate (end_of x + 16) xs placed.2 in
    omega arith

pub all_below : (top from : ℕ) (xs : List Allocation) → ArePlaced from xs → candidate_after from xs < top → All (λ (a : Allocation). end_of a < top) xs
all_below top from [] placed small = All-nil _
all_below top from (x ∷ xs) placed small =
    let rest : end_of x + 16 ≤ candidate_after (end_of x + 16) xs = below_candidate (end_of x + 16) xs placed.2 in
    All-cons (λ (a : Allocation). end_of a < top) x xs (omega arith) (all_below top (end_of x + 16) xs placed.2 small)

pub all_apart : (from : ℕ) (xs : List Allocation) → ArePlaced from xs → AllPairs (λ (a b : Allocation). end_of a + 16 ≤ b.base) xs
all_apart from [] placed = λ i j d i_before j_in. absurd (omega arith)
all_apart from (x ∷ xs) placed =
    AllPairs-cons (λ (a b : Allocation). end_of a + 16 ≤ b.base) x xs (all_above (end_of x + 16) (end_of x + 16) xs (omega arith) placed.2) (all_apart (end_of x + 16) xs placed.2)
