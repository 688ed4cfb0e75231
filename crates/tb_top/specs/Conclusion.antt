-- How a run of a source comes to the end of a call.
use Rattle.std.specs.Prelude.{◌≡◌, ◌≢◌, ℕ, List, [], Result, Ok, Err}
use Rattle.tb_diag.specs.Report.{report_of}
use Rattle.tb_eval.specs.Run.{Run}
use Rattle.tb_eval.specs.declared.outcome.Outcome.{Outcome}
use Rattle.tb_eval.specs.declared.outcome.Outcome.TheVariants as outcome
use Rattle.tb_run.specs.Stepped.{SeenOut, PutsWhole, PutsFront, RunsOut}
use Rattle.tb_top.specs.Output.{status_of_end}
use Rattle.tb_top.specs.declared.halt.Halt.{Halt}
use Rattle.tb_top.specs.declared.halt.Halt.TheVariants as halt

-- the end of a run, as that of a call
abbrev pub Concludes : {A : Type 0} → List ℕ → Outcome → Result A Halt → Type 0
Concludes source end (Ok answer) = end ≡ outcome.Finished
Concludes source end (Err (halt.Undefined report)) = (report_of source end ≡ report) × (status_of_end end ≡ 1)
Concludes source end (Err (halt.Panic report)) = (report_of source end ≡ report) × (status_of_end end ≡ 3)
Concludes source end (Err halt.WriteFault) = end ≡ outcome.WriteFault
Concludes source end (Err halt.Memory) = end ≢ outcome.WriteFault
Concludes source end (Err halt.Usage) = ⊥
Concludes source end (Err halt.TooLong) = ⊥
Concludes source end (Err halt.NotBuilt) = ⊥
Concludes source end (Err halt.ReadFault) = ⊥

-- the run ended with this status and this report, and all that it printed was put out
pub record ReportsAs (source : List ℕ) (run : Run) (before after : SeenOut) (status : ℕ) (report : List ℕ) : Type 0 where
  pub answer : status_of_end run.end ≡ status
  pub text : report_of source run.end ≡ report
  pub put : PutsWhole before after run.printed

-- a whole run, as the end of a call
abbrev pub RunEnds : {A : Type 0} → List ℕ → Run → SeenOut → SeenOut → Result A Halt → Type 0
RunEnds source run before after (Ok answer) = ReportsAs source run before after 0 []
RunEnds source run before after (Err (halt.Undefined report)) = ReportsAs source run before after 1 report
RunEnds source run before after (Err (halt.Panic report)) = ReportsAs source run before after 3 report
RunEnds source run before after (Err halt.WriteFault) = PutsFront before after run.printed
RunEnds source run before after (Err halt.Memory) = RunsOut run before after
RunEnds source run before after (Err halt.Usage) = ⊥
RunEnds source run before after (Err halt.TooLong) = ⊥
RunEnds source run before after (Err halt.NotBuilt) = ⊥
RunEnds source run before after (Err halt.ReadFault) = ⊥
