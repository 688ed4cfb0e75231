-- The objects in memory: what each holds, and the number of a call.
use Rattle.std.specs.Prelude.{ℕ, ◌+◌, ◌-◌, ◌^◌, ◌<◌, ◌≤◌, min, List, map, String, Vec, string_bytes}
use Rattle.std.specs.declared.alloc.Global.{Global}

-- a number one higher, which stops at 2^64 - 1
abbrev pub counted : ℕ → ℕ
counted number = min (number + 1) (2 ^ 64 - 1)

-- files as their names' and their own bytes
abbrev pub named : List (String Global × Vec ℕ Global) → List (List ℕ × List ℕ)
named = map (λ file. (string_bytes file.0, file.1.items))

-- Named files with their bytes, the bytes left of the open one, the names asked for, the numbers of the calls that
-- are to fail, how many calls there were, and how many of them failed.
pub record FilesHeld : Type 0 where
  pub files : List (List ℕ × List ℕ)
  pub left : List ℕ
  pub asked : List (List ℕ)
  pub fail : List ℕ
  pub calls : ℕ
  pub faults : ℕ

-- the bytes left, and the calls as above
pub record SourceHeld : Type 0 where
  pub left : List ℕ
  pub fail : List ℕ
  pub calls : ℕ
  pub faults : ℕ

-- the bytes put, how many there is room for, how many at most one call puts, and the calls as above
pub record SinkHeld : Type 0 where
  pub bytes : List ℕ
  pub room : ℕ
  pub most : ℕ
  pub fail : List ℕ
  pub calls : ℕ
  pub faults : ℕ

-- a call puts something, and the bytes with the room left lie within what was reserved
pub record HasRoom (most room len capacity : ℕ) : Type 0 where
  pub some : 0 < most
  pub within : len ≤ room
  pub reserved : room ≤ capacity
