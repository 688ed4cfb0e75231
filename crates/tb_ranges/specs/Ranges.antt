-- The runs of a range of places.
use Rattle.std.specs.Prelude.{◌≡◌, ℕ, Bool, cond, max, min, nat_lt, ◌==◌, List, [], ◌∷◌, length, filter, Option, Some, None}
use Rattle.tb_ranges.specs.declared.run.Run.{Run}
use Rattle.tb_ranges.specs.Runs.{expanded, AreRuns}

-- a run has a place of the range from `lo` to before `hi`
abbrev pub touches : {V : Type 0} → ℕ → ℕ → Run V → Bool
touches lo hi run = nat_lt (max lo run.lo) (min run.hi hi)

-- the part of a run that lies in the range
abbrev pub cut : {V : Type 0} → ℕ → ℕ → Run V → Run V
cut lo hi run = record run { lo = max lo run.lo; hi = min run.hi hi }

-- of the runs of the values, these are the ones that have a place of the range
pub record AreRunsIn {V : Type 0} (lo hi : ℕ) (values : List V) (runs : List (Run V)) : Type 0 where
  pub all : List (Run V)
  pub are : AreRuns (length values) all
  pub has : expanded all ≡ values
  pub these : runs ≡ filter (touches lo hi) all

-- the first place from `lo` on of the first run whose value passes
abbrev pub first_place : {V : Type 0} → (V → Bool) → ℕ → List (Run V) → Option ℕ
first_place p lo [] = None
first_place p lo (run ∷ runs) = cond (p run.value) (Some (max lo run.lo)) (first_place p lo runs)

-- the runs with the first one beginning at a place
abbrev pub from_place : {V : Type 0} → ℕ → List (Run V) → List (Run V)
from_place at [] = []
from_place at (run ∷ runs) = record run { lo = at } ∷ runs

-- the runs without the first one, if that ends at a place
abbrev pub rest_at : {V : Type 0} → ℕ → List (Run V) → List (Run V)
rest_at at [] = []
rest_at at (run ∷ runs) = cond (run.hi == at) runs (run ∷ runs)
