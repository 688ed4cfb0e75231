-- How far a call came before its report, and what it did to the files and the output on the way.
use Rattle.std.specs.Prelude.{◌≡◌, ◌<◌, ◌≤◌, ◌⊎◌, ℕ, List, [], length, Option, None, Some, Result, Ok, Err}
use Rattle.tb_base.specs.Growth.{Grew, GrewByPrefix, Stays}
use Rattle.tb_base.specs.Outside.{FilesTold}
use Rattle.tb_diag.specs.Report.{report_of}
use Rattle.tb_eval.specs.Run.{whole_run}
use Rattle.tb_mir.specs.declared.mir.Mir.{Mir}
use Rattle.tb_small.specs.declared.tree.SmallTree.{SmallTree}
use Rattle.tb_small.specs.Grammar.{IsSmall}
use Rattle.tb_top.specs.declared.halt.Halt.{Halt}
use Rattle.tb_top.specs.declared.halt.Halt.TheVariants as halt
use Rattle.tb_top.specs.Output.{longest, status_of_end}
use Rattle.tb_top.specs.Program.{IsProgram}
use Rattle.tb_top.specs.Told.{AskedNothing, AskedOnce, Finds}
use Rattle.tb_top.specs.Words.{file_of}

-- what contracts see of the files and of the output: what they tell, and their counts of faults
pub record Seen : Type 0 where
  pub told : Option FilesTold
  pub read_faults : ℕ
  pub bytes : Option (List ℕ)
  pub write_faults : ℕ

-- nothing was put out, and no write failed
pub record NothingOut (old new : Seen) : Type 0 where
  pub bytes : Stays old.bytes new.bytes
  pub faults : new.write_faults ≡ old.write_faults

-- the file that the words name was opened, once
pub record Opened (words : List (List ℕ)) (old new : Seen) (name : List ℕ) : Type 0 where
  pub named : file_of words ≡ Some name
  pub asked : AskedOnce old.told new.told name

-- and this was read from it, without a fault
pub record HasRead (words : List (List ℕ)) (old new : Seen) (source : List ℕ) : Type 0 where
  pub name : List ℕ
  pub opened : Opened words old new name
  pub found : Finds old.told name source
  pub faults : new.read_faults ≡ old.read_faults

-- and it has a tree, which was lowered to this
pub record HasLowered (words : List (List ℕ)) (old new : Seen) (source : List ℕ) (mir : Mir) : Type 0 where
  pub read : HasRead words old new source
  pub size : length source ≤ longest
  pub tree : SmallTree
  pub related : IsSmall source tree
  pub only : (other : SmallTree) → IsSmall source other → other ≡ tree
  pub program : IsProgram tree mir

-- it ran to an end with this status and this report, and what it printed was put out whole
pub record RunsTo (words : List (List ℕ)) (old new : Seen) (status : ℕ) (report : List ℕ) : Type 0 where
  pub source : List ℕ
  pub mir : Mir
  pub lowered : HasLowered words old new source mir
  pub answer : status_of_end (whole_run mir).end ≡ status
  pub text : report_of source (whole_run mir).end ≡ report
  pub put : Grew old.bytes new.bytes (whole_run mir).printed
  pub faults : new.write_faults ≡ old.write_faults

-- a write failed after a prefix of what it prints
pub record CutShort (words : List (List ℕ)) (old new : Seen) : Type 0 where
  pub source : List ℕ
  pub mir : Mir
  pub lowered : HasLowered words old new source mir
  pub put : GrewByPrefix old.bytes new.bytes (whole_run mir).printed
  pub rose : old.write_faults < new.write_faults

-- memory ran out after a prefix of what it prints
pub record RanOutAfter (words : List (List ℕ)) (old new : Seen) : Type 0 where
  pub source : List ℕ
  pub mir : Mir
  pub lowered : HasLowered words old new source mir
  pub put : GrewByPrefix old.bytes new.bytes (whole_run mir).printed
  pub faults : new.write_faults ≡ old.write_faults

-- the words name no file, so nothing was touched
pub record TouchesNothing (words : List (List ℕ)) (old new : Seen) : Type 0 where
  pub unnamed : file_of words ≡ None
  pub asked : AskedNothing old.told new.told
  pub faults : new.read_faults ≡ old.read_faults
  pub out : NothingOut old new

pub record ReadTooLong (words : List (List ℕ)) (old new : Seen) : Type 0 where
  pub source : List ℕ
  pub read : HasRead words old new source
  pub size : longest < length source
  pub out : NothingOut old new

pub record HasNoTree (words : List (List ℕ)) (old new : Seen) : Type 0 where
  pub source : List ℕ
  pub read : HasRead words old new source
  pub size : length source ≤ longest
  pub unrelated : (tree : SmallTree) → IsSmall source tree → ⊥
  pub out : NothingOut old new

pub record FailedToRead (words : List (List ℕ)) (old new : Seen) : Type 0 where
  pub name : List ℕ
  pub opened : Opened words old new name
  pub rose : old.read_faults < new.read_faults
  pub out : NothingOut old new

-- memory ran out before anything was put out
pub record RanOutBefore (words : List (List ℕ)) (old new : Seen) : Type 0 where
  pub name : List ℕ
  pub named : file_of words ≡ Some name
  pub asked : AskedOnce old.told new.told name ⊎ AskedNothing old.told new.told
  pub faults : new.read_faults ≡ old.read_faults
  pub out : NothingOut old new

-- each way to come to an end, and what it says
abbrev pub ComesTo : {A : Type 0} → List (List ℕ) → Seen → Seen → Result A Halt → Type 0
ComesTo words old new (Ok answer) = RunsTo words old new 0 []
ComesTo words old new (Err halt.Usage) = TouchesNothing words old new
ComesTo words old new (Err halt.TooLong) = ReadTooLong words old new
ComesTo words old new (Err halt.NotBuilt) = HasNoTree words old new
ComesTo words old new (Err halt.ReadFault) = FailedToRead words old new
ComesTo words old new (Err halt.WriteFault) = CutShort words old new
ComesTo words old new (Err halt.Memory) = RanOutBefore words old new ⊎ RanOutAfter words old new
ComesTo words old new (Err (halt.Undefined report)) = RunsTo words old new 1 report
ComesTo words old new (Err (halt.Panic report)) = RunsTo words old new 3 report
