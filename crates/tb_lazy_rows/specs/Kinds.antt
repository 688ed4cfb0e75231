-- An event as the access that each byte meets, if it meets one, and what it makes of a value at each byte.
use Rattle.std.specs.Prelude.{◌≡◌, ℕ, ◌<◌, ◌≤◌, Bool, true, cond, nat_lt, List, Option, Some, None, option_map, slice_get, is_some, find, length, zip, false}
use Rattle.std.specs.Option.{option_and_then}
use Rattle.std.specs.List.{list_all, range_with_len}
use Rattle.tb_perm.specs.declared.perm.Kind.{Kind}
use Rattle.tb_perm.specs.declared.perm.Rel.{Rel}
use Rattle.tb_perm.specs.declared.perm.State.{State}
use Rattle.tb_perm.specs.Event.{refusal_of}
use Rattle.tb_perm.specs.declared.perm.Mark.{Mark}
use Rattle.tb_ranges.specs.declared.run.Run.{Run}
use Rattle.tb_marks.specs.Event.{leaves_at}

-- the access that a byte meets
abbrev pub kind_at : List (Option Kind) → ℕ → Option Kind
kind_at kinds byte = option_and_then (λ (kind : Option Kind). kind) (slice_get kinds byte)

-- a value after what its byte meets
abbrev pub changed : {V : Type 0} → (Kind → V → V) → Option Kind → V → V
changed by None value = value
changed by (Some kind) value = by kind value

-- the values below a place are changed, and the others are as before
abbrev pub AreChangedBelow : {V : Type 0} → (Kind → V → V) → List (Option Kind) → ℕ → List V → List V → Type 0
AreChangedBelow by kinds end old new =
    (byte : ℕ) → slice_get new byte ≡ cond (nat_lt byte end) (option_map (changed by (kind_at kinds byte)) (slice_get old byte)) (slice_get old byte)

-- all values are changed
abbrev pub AreChanged : {V : Type 0} → (Kind → V → V) → List (Option Kind) → List V → List V → Type 0
AreChanged by kinds old new = (byte : ℕ) → slice_get new byte ≡ option_map (changed by (kind_at kinds byte)) (slice_get old byte)

-- the bytes of a run all meet its value
abbrev pub MeetsRun : List (Option Kind) → Run (Option Kind) → Type 0
MeetsRun kinds run = (byte : ℕ) → run.lo ≤ byte → byte < run.hi → kind_at kinds byte ≡ run.value

-- some tag with these states refuses what the byte meets
abbrev pub refuses_at : List (Option Kind) → Bool → Rel → List State → ℕ → Bool
refuses_at kinds guarded rel states byte =
    is_some (option_and_then (λ s. refusal_of (kind_at kinds byte) guarded rel s) (slice_get states byte))

-- the first number from `lo` to before `hi` that passes a test, or none where none does
abbrev pub IsFirstIn : (ℕ → Bool) → ℕ → ℕ → Option ℕ → Type 0
IsFirstIn passes lo hi None = (k : ℕ) → lo ≤ k → k < hi → passes k ≡ false
IsFirstIn passes lo hi (Some first) = (lo ≤ first) × (first < hi) × (passes first ≡ true) × ((k : ℕ) → lo ≤ k → k < first → passes k ≡ false)

-- the first byte at which a tag with these states refuses the event
abbrev pub first_refusal : List (Option Kind) → Bool → Rel → List State → Option ℕ
first_refusal kinds guarded rel states = find (refuses_at kinds guarded rel states) (range_with_len 0 (length states))

-- at each byte the mark leaves alone what the byte meets
abbrev pub are_left_alone : List (Option Kind) → List Mark → Bool
are_left_alone kinds marks = list_all (λ (pair : Mark × Option Kind). leaves_at pair.1 pair.0) (zip marks kinds)
