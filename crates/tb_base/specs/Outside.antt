-- What the objects outside tell of themselves, and what each call does to it.
use Rattle.std.specs.Prelude.{◌≡◌, ◌≤◌, ◌+◌, ◌-◌, ◌^◌, ℕ, min, Option, Some, None, Result, Ok, Err, List, [], ◌∷◌, ◌++◌, take, if◌then◌else◌, ⊤}
use Rattle.std.specs.Str.{bytes_eq}
use Rattle.tb_base.specs.Growth.{Grew, Stays}
use Rattle.tb_base.specs.declared.fault.Fault.{Fault as TheFault}
use Rattle.tb_base.specs.declared.fault.FileError.{FileError}
use Rattle.tb_base.specs.declared.fault.FileError.TheVariants.{Fault, Memory}

-- Counts of faults

-- the count rose, or it stands at its last value
abbrev pub Rose : ℕ → ℕ → Type 0
Rose before now = min (before + 1) (2 ^ 64 - 1) ≤ now

-- a call counts where it returns a fault, and nowhere else
abbrev pub Counts : {A : Type 0} → ℕ → ℕ → Result A TheFault → Type 0
Counts before now (Ok answer) = now ≡ before
Counts before now (Err fault) = Rose before now

-- the same of an `open`, for which memory may be wanting
abbrev pub CountsOpening : {A : Type 0} → ℕ → ℕ → Result A FileError → Type 0
CountsOpening before now (Ok answer) = now ≡ before
CountsOpening before now (Err Fault) = Rose before now
CountsOpening before now (Err Memory) = now ≡ before

-- Sources

-- The answer is how many of the bytes left stand in the front of the buffer and are left no more. It is 0 only
-- where none were left.
abbrev pub Gives : List ℕ → List ℕ → List ℕ → Result ℕ TheFault → Type 0
Gives old new buffer (Ok count) = (old ≡ take count buffer ++ new) × (count ≡ 0 → old ≡ [])
Gives old new buffer (Err fault) = new ≡ old

-- the same of the bytes that a source tells as left
abbrev pub Takes : Option (List ℕ) → Option (List ℕ) → List ℕ → Result ℕ TheFault → Type 0
Takes None new buffer result = ⊤
Takes (Some old) None buffer result = ⊥
Takes (Some old) (Some new) buffer result = Gives old new buffer result

-- Sinks

-- the answer is how many of the piece's bytes were put, which are its first
abbrev pub Puts : Option (List ℕ) → Option (List ℕ) → List ℕ → Result ℕ TheFault → Type 0
Puts old new piece (Ok count) = Grew old new (take count piece)
Puts old new piece (Err fault) = Stays old new

-- Files

-- What files tell: their names with their bytes, the bytes left of the one being read, and the names that `open`
-- was asked for, in order.
pub record FilesTold : Type 0 where
  pub files : List (List ℕ × List ℕ)
  pub left : List ℕ
  pub asked : List (List ℕ)

-- the bytes of the first file of this name
abbrev pub bytes_under : List (List ℕ × List ℕ) → List ℕ → Option (List ℕ)
bytes_under [] name = None
bytes_under (file ∷ files) name = if bytes_eq file.0 name then Some file.1 else bytes_under files name

-- An `open` leaves the files as they are, and was asked for this name, unless memory ran out. If it returns Ok,
-- what is left are the bytes under this name.
abbrev pub OpensOne : FilesTold → FilesTold → List ℕ → {A : Type 0} → Result A FileError → Type 0
OpensOne old new name (Ok answer) = (bytes_under old.files name ≡ Some new.left) × (new.files ≡ old.files) × (new.asked ≡ old.asked ++ name ∷ [])
OpensOne old new name (Err Fault) = (new.files ≡ old.files) × (new.asked ≡ old.asked ++ name ∷ [])
OpensOne old new name (Err Memory) = (new.files ≡ old.files) × (new.asked ≡ old.asked)

-- the same of files that tell
abbrev pub Opens : {A : Type 0} → Option FilesTold → Option FilesTold → List ℕ → Result A FileError → Type 0
Opens None new name result = ⊤
Opens (Some old) None name result = ⊥
Opens (Some old) (Some new) name result = OpensOne old new name result

-- a `take` gives the next bytes of the file being read, and changes nothing else
abbrev pub TakesOfFile : Option FilesTold → Option FilesTold → List ℕ → Result ℕ TheFault → Type 0
TakesOfFile None new buffer result = ⊤
TakesOfFile (Some old) None buffer result = ⊥
TakesOfFile (Some old) (Some new) buffer result = Gives old.left new.left buffer result × (new.files ≡ old.files) × (new.asked ≡ old.asked)
