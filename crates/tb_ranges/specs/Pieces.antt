-- How a list of runs is changed, piece by piece.
use Rattle.std.specs.Prelude.{◌≡◌, ℕ, ◌+◌, ◌-◌, List, [], ◌∷◌, ◌++◌, length, replicate, drop, Option, Some, None}
use Rattle.std.specs.List.{AllZip, slice_range}
use Rattle.tb_ranges.specs.declared.run.Run.{Run}
use Rattle.tb_ranges.specs.Runs.{expanded, AreRuns, MapsRange}

-- where the last run ends, or else the place from which they begin
abbrev pub end_of : {V : Type 0} → ℕ → List (Run V) → ℕ
end_of lo [] = lo
end_of lo (run ∷ runs) = end_of run.hi runs

-- the value of the last run, or else the one before
abbrev pub last_of : {V : Type 0} → Option V → List (Run V) → Option V
last_of before [] = before
last_of before (run ∷ runs) = last_of (Some run.value) runs

-- the runs with the last one ending at `hi`
abbrev pub stretched : {V : Type 0} → ℕ → List (Run V) → List (Run V)
stretched hi [] = []
stretched hi (run ∷ []) = record run { hi = hi } ∷ []
stretched hi (run ∷ next ∷ runs) = run ∷ stretched hi (next ∷ runs)

-- the first runs of a list with new ones behind them are runs up to a place, and have these values
pub record IsRebuilt {V : Type 0} (front out : List (Run V)) (at : ℕ) (values : List V) : Type 0 where
  pub opens : out ≡ [] → front ≡ []
  pub runs : AreRuns at (front ++ out)
  pub has : expanded (front ++ out) ≡ values

-- behind whatever stands first, the new runs have one more value at the places from `lo` to before `hi`
abbrev pub Adds : {V : Type 0} → ℕ → ℕ → V → List (Run V) → List (Run V) → Type 0
Adds {V} lo hi value old new =
    (front : List (Run V)) (values : List V) → IsRebuilt front old lo values → IsRebuilt front new hi (values ++ replicate (hi - lo) value)

-- the new runs have in addition, from `lo` on, the values of other runs
abbrev pub AddsAll : {V : Type 0} → ℕ → List (Run V) → List (Run V) → List (Run V) → Type 0
AddsAll {V} lo runs old new =
    (front : List (Run V)) (values : List V) → IsRebuilt front old lo values → IsRebuilt front new (lo + length (expanded runs)) (values ++ expanded runs)

-- the last run has the value
abbrev pub EndsIn : {V : Type 0} → V → List (Run V) → Type 0
EndsIn value runs = last_of None runs ≡ Some value

-- the new runs have in addition, from `lo` to before `hi`, what the relation makes of these values
abbrev pub AddsMapped : {V : Type 0} → (V → V → Type 0) → ℕ → ℕ → List V → List (Run V) → List (Run V) → Type 0
AddsMapped {V} R lo hi whole old new =
    (front : List (Run V)) (values : List V) → IsRebuilt front old lo values
    → (more : List V) × IsRebuilt front new hi (values ++ more) × AllZip R (slice_range whole lo hi) more

-- together with the runs from `end` on, the new runs have the values from `hi` on, and are runs again
abbrev pub Completes : {V : Type 0} → ℕ → ℕ → List (Run V) → List (Run V) → List (Run V) → Type 0
Completes {V} hi end runs old new =
    (front : List (Run V)) (values : List V) → IsRebuilt front old hi values
    → AreRuns (length (expanded runs)) (front ++ (new ++ drop end runs)) × (expanded (front ++ (new ++ drop end runs)) ≡ values ++ drop hi (expanded runs))

-- runs of the same places, of which those in a range have what the relation makes of their values
abbrev pub Patches : {V : Type 0} → (V → V → Type 0) → ℕ → ℕ → List (Run V) → List (Run V) → Type 0
Patches R lo hi old new = AreRuns (length (expanded old)) new × MapsRange R lo hi (expanded old) (expanded new)
