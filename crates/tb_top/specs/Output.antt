-- What a call puts out and returns where nothing fails.
use Rattle.std.specs.Prelude.{◌≡◌, ◌<◌, ◌≤◌, ◌⊎◌, ℕ, List, [], length, Option, Some, None, IsSome}
use Rattle.tb_base.specs.Growth.{GrewByPrefix}
use Rattle.tb_base.specs.Outside.{FilesTold, bytes_under}
use Rattle.tb_diag.specs.Report.{report_of}
use Rattle.tb_eval.specs.Run.{Run, whole_run}
use Rattle.tb_eval.specs.declared.outcome.Outcome.{Outcome}
use Rattle.tb_eval.specs.declared.outcome.Outcome.TheVariants.{Finished, Undefined, Panic, StepLimit, WriteFault, Memory}
use Rattle.tb_mir.specs.declared.mir.Mir.{Mir}
use Rattle.tb_small.specs.declared.tree.SmallTree.{SmallTree}
use Rattle.tb_small.specs.Grammar.{IsSmall}
use Rattle.tb_top.specs.declared.halt.Halt.{Halt}
use Rattle.tb_top.specs.declared.halt.Halt.TheVariants as halt
use Rattle.tb_top.specs.Program.{IsProgram}
use Rattle.tb_top.specs.Report.{line_of, status_of}
use Rattle.tb_top.specs.Words.{file_of}

-- the longest source, in bytes
abbrev pub longest : ℕ
longest = 1048576

-- the bytes for the output and for the report, and the status
pub record Output : Type 0 where
  pub out : List ℕ
  pub err : List ℕ
  pub status : ℕ

-- a call that ends without finishing, before it has put anything out
abbrev pub halted : Halt → Output
halted why = record { out = []; err = line_of why; status = status_of why }

-- the status of a run that ended so
abbrev pub status_of_end : Outcome → ℕ
status_of_end Finished = 0
status_of_end (Undefined stop span) = 1
status_of_end (Panic panic span) = 3
status_of_end StepLimit = 4
status_of_end WriteFault = 7
status_of_end Memory = 8

-- a call whose source ran: what it printed, and the report and the status of its end
abbrev pub ran : List ℕ → Run → Output
ran source run = record { out = run.printed; err = report_of source run.end; status = status_of_end run.end }

-- the words name a file, and these are its bytes
pub record IsSource (words : List (List ℕ)) (told : Option FilesTold) (source : List ℕ) : Type 0 where
  pub name : List ℕ
  pub named : file_of words ≡ Some name
  pub files : FilesTold
  pub tells : told ≡ Some files
  pub found : bytes_under files.files name ≡ Some source

-- The output of these words, over files that tell this. Each case excludes the ones before it.
pub data IsOutput (words : List (List ℕ)) (told : Option FilesTold) : Output → Type 0 where
  Usage : file_of words ≡ None → IsOutput words told (halted halt.Usage)
  TooLong : (source : List ℕ) → IsSource words told source → longest < length source → IsOutput words told (halted halt.TooLong)
  NotBuilt : (source : List ℕ) → IsSource words told source → length source ≤ longest → ((tree : SmallTree) → IsSmall source tree → ⊥) → IsOutput words told (halted halt.NotBuilt)
  Ran : (source : List ℕ) → IsSource words told source → length source ≤ longest → (tree : SmallTree) → IsSmall source tree → (mir : Mir) → IsProgram tree mir → IsOutput words told (ran source (whole_run mir))

-- the words name no file, or the files tell what they hold
abbrev pub Tells : List (List ℕ) → Option FilesTold → Type 0
Tells words told = (file_of words ≡ None) ⊎ IsSome told

-- an output, with this fact
abbrev pub SomeOutput : List (List ℕ) → Option FilesTold → (Output → Type 0) → Type 0
SomeOutput words told fact = (output : Output) × IsOutput words told output × fact output

-- each output has this fact
abbrev pub EachOutput : List (List ℕ) → Option FilesTold → (Output → Type 0) → Type 0
EachOutput words told fact = (output : Output) → IsOutput words told output → fact output

-- what went out on the report's sink is the front of one of the lines of a call that failed
abbrev pub FrontOfFaultLine : Option (List ℕ) → Option (List ℕ) → Type 0
FrontOfFaultLine old new = GrewByPrefix old new (line_of halt.ReadFault) ⊎ GrewByPrefix old new (line_of halt.WriteFault) ⊎ GrewByPrefix old new (line_of halt.Memory)
