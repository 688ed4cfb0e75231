-- Runs: a value for each place, with equal neighbours kept together.
use Rattle.std.specs.Prelude.{◌≡◌, ◌≢◌, ℕ, ◌-◌, ◌<◌, Bool, true, List, [], ◌∷◌, ◌++◌, replicate, Option, Some, None}
use Rattle.std.specs.List.{AllZip, slice_range, splice}
use Rattle.tb_ranges.specs.declared.run.Run.{Run}

-- the values of the runs, one for each place
abbrev pub expanded : {V : Type 0} → List (Run V) → List V
expanded [] = []
expanded (run ∷ runs) = replicate (run.hi - run.lo) run.value ++ expanded runs

-- the runs go on from a place to another: each begins where the one before it ends, has a place, and
-- has another value than the one before it
abbrev pub GoOn : {V : Type 0} → Option V → ℕ → ℕ → List (Run V) → Type 0
GoOn before lo hi [] = lo ≡ hi
GoOn before lo hi (run ∷ runs) = (run.lo ≡ lo) × (lo < run.hi) × (before ≢ Some run.value) × GoOn (Some run.value) run.hi hi runs

-- the runs have the places below a size in order, none is empty, and neighbours have different values
abbrev pub AreRuns : {V : Type 0} → ℕ → List (Run V) → Type 0
AreRuns size runs = GoOn None 0 size runs

-- values that are equal by the test are the same
abbrev pub IsExact : {V : Type 0} → (V → V → Bool) → Type 0
IsExact {V} eq = (x y : V) → eq x y ≡ true → x ≡ y

-- from `lo` to before `hi` each value stands in the relation to the one before; all others stay
abbrev pub MapsRange : {V : Type 0} → (V → V → Type 0) → ℕ → ℕ → List V → List V → Type 0
MapsRange {V} R lo hi old new = (values : List V) × (new ≡ splice old lo hi values) × AllZip R (slice_range old lo hi) values
