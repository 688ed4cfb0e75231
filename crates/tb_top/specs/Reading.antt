-- How a file is read, up to the longest source.
use Rattle.std.specs.Prelude.{◌≡◌, ◌<◌, ◌≤◌, ◌⊎◌, ℕ, List, length, Result, Ok, Err, Option, Vec, vec_len, ⊤}
use Rattle.std.specs.declared.alloc.Global.{Global}
use Rattle.tb_base.specs.Outside.{FilesTold}
use Rattle.tb_top.specs.declared.read.ReadError.{ReadError}
use Rattle.tb_top.specs.declared.read.ReadError.TheVariants.{TooLong, Fault, Memory}
use Rattle.tb_top.specs.Output.{longest}
use Rattle.tb_top.specs.Told.{AskedNothing, AskedOnce, Finds}

-- a reading counts a fault where it returns one, and nowhere else
abbrev pub CountsReading : {A : Type 0} → ℕ → ℕ → Result A ReadError → Type 0
CountsReading before now (Ok source) = now ≡ before
CountsReading before now (Err TooLong) = now ≡ before
CountsReading before now (Err Fault) = before < now
CountsReading before now (Err Memory) = now ≡ before

-- `open` was asked for this name alone, and once; where memory ran out perhaps not at all
abbrev pub AsksFor : {A : Type 0} → Option FilesTold → Option FilesTold → List ℕ → Result A ReadError → Type 0
AsksFor old new name (Ok source) = AskedOnce old new name
AsksFor old new name (Err TooLong) = AskedOnce old new name
AsksFor old new name (Err Fault) = AskedOnce old new name
AsksFor old new name (Err Memory) = AskedOnce old new name ⊎ AskedNothing old new

-- The answer is the source under this name, which is not too long, or it is too long.
abbrev pub ReadsSource : Option FilesTold → List ℕ → Result (Vec ℕ Global) ReadError → Type 0
ReadsSource told name (Ok source) = Finds told name source.items × (vec_len source ≤ longest)
ReadsSource told name (Err TooLong) = (source : List ℕ) × Finds told name source × (longest < length source)
ReadsSource told name (Err Fault) = ⊤
ReadsSource told name (Err Memory) = ⊤
