-- Bytes of memory: uninitialised, or a value with an optional provenance.
use Rattle.std.specs.Prelude.{◌≡◌, ◌≢◌, ℕ, ◌+◌, ◌<◌, ◌≤◌, suc, Bool, true, false, List, [], ◌∷◌, ◌++◌, length, map, take, drop, replicate, Option, Some, None, ◌⊎◌, ⊤, slice_get}
use Rattle.std.specs.List.{AllByRecursion}
use Rattle.tb_perm.specs.declared.tag.Prov.{Prov}
use Rattle.tb_bytes.specs.declared.byte_val.ByteVal.{ByteVal}
use Rattle.tb_bytes.specs.declared.byte_val.ByteVal.TheVariants.{Uninit, Init}

-- whether a byte has a value
abbrev pub is_init : ByteVal → Bool
is_init Uninit = false
is_init (Init value prov) = true

-- its value, 0 where it has none
abbrev pub value_of : ByteVal → ℕ
value_of Uninit = 0
value_of (Init value prov) = value

-- its provenance, if it has one
abbrev pub prov_of : ByteVal → Option Prov
prov_of Uninit = None
prov_of (Init value prov) = prov

-- the places before `lo` and from `hi` on are as they were, and there are as many places
pub record OnlyChanges {A : Type 0} (lo hi : ℕ) (old new : List A) : Type 0 where
  pub before : take lo new ≡ take lo old
  pub behind : drop hi new ≡ drop hi old
  pub size : length new ≡ length old

-- from a place on no byte has a provenance
abbrev pub HasNoProv : ℕ → List ByteVal → Type 0
HasNoProv at bytes = (k : ℕ) (prov : Prov) → at ≤ k → slice_get (map prov_of bytes) k ≢ Some (Some prov)

-- the next run of a provenance from a place on: no place from `at` to before `from` has one, all from there
-- to before `end` have this one, and the place `end` has another value or lies outside
pub record IsNextRun (at : ℕ) (provs : List (Option Prov)) (end : ℕ) (prov : Prov) : Type 0 where
  pub from : ℕ
  pub order : at ≤ from
  pub some : from < end
  pub bare : (k : ℕ) → at ≤ k → k < from → slice_get provs k ≡ Some None
  pub same : (k : ℕ) → from ≤ k → k < end → slice_get provs k ≡ Some (Some prov)
  pub other : slice_get provs end ≢ Some (Some prov)

-- the next runs one after another from a place on, each by its end and its provenance, until there is none
abbrev pub AreNextRuns : ℕ → List (Option Prov) → List (ℕ × Prov) → Type 0
AreNextRuns at provs [] = (k : ℕ) (prov : Prov) → at ≤ k → slice_get provs k ≢ Some (Some prov)
AreNextRuns at provs (run ∷ runs) = IsNextRun at provs run.0 run.1 × AreNextRuns run.0 provs runs

-- a provenance stands before another: of a lesser allocation, or of the same and a lesser tag
abbrev pub IsBefore : Prov → Prov → Type 0
IsBefore p q = (p.alloc.0 < q.alloc.0) ⊎ ((p.alloc.0 ≡ q.alloc.0) × (p.tag.0 < q.tag.0))

-- each stands before those after it, so that none is there twice
abbrev pub AreRising : List Prov → Type 0
AreRising [] = ⊤
AreRising (p ∷ ps) = AllByRecursion (IsBefore p) ps × AreRising ps
