-- How a call comes to an end.
use Rattle.std.proofs.Common.{◌≡◌, ◌≤◌, ℕ, Result, Ok, Err, IsErrOf, List, [], length, refl, sym, ap, ◌∙◌, subst, inl, inr, arith}
use Rattle.tb_base.proofs.GrowthLaws.{GrewByPrefix-whole}
use Rattle.tb_diag.specs.Report.{report_of}
use Rattle.tb_eval.specs.Run.{Run, whole_run}
use Rattle.tb_eval.specs.declared.outcome.Outcome.{Outcome}
use Rattle.tb_eval.specs.declared.outcome.Outcome.TheVariants as outcome
use Rattle.tb_mir.specs.declared.mir.Mir.{Mir}
use Rattle.tb_run.specs.Stepped.{SeenOut, RunsWhole, RunsOut, RunsAs}
use Rattle.tb_small.specs.declared.tree.SmallTree.{SmallTree}
use Rattle.tb_small.specs.declared.error.SmallError.{SmallError}
use Rattle.tb_small.specs.declared.error.SmallError.TheVariants as parse
use Rattle.tb_small.specs.Grammar.{IsSmall}
use Rattle.tb_top.specs.declared.halt.Halt.{Halt}
use Rattle.tb_top.specs.declared.halt.Halt.TheVariants as halt
use Rattle.tb_top.specs.Conclusion.{Concludes, ReportsAs, RunEnds}
use Rattle.tb_top.specs.Output.{longest, status_of_end}
use Rattle.tb_top.specs.Report.{halt_of_parse}
use Rattle.tb_top.specs.Stages.{Seen, NothingOut, Opened, HasLowered, ComesTo}
use Rattle.tb_top.specs.Told.{Finds}

-- a source that was read and then refused, or for whose tree there was no memory
pub parse_failed : (A : Type 0) (words : List (List ℕ)) (old new : Seen) (name source : List ℕ) (e : SmallError) → Opened words old new name → Finds old.told name source → new.read_faults ≡ old.read_faults → length source ≤ longest → (IsErrOf {T = SmallTree} (Err e) parse.NotBuilt → (tree : SmallTree) → IsSmall source tree → ⊥) → NothingOut old new → ComesTo {A = A} words old new (Err (halt_of_parse e))
parse_failed A words old new name source parse.NotBuilt opened found faults size none out =
    record { source = source; read = record { name = name; opened = opened; found = found; faults = faults }; size = size; unrelated = none refl; out = out }
parse_failed A words old new name source parse.Memory opened found faults size none out =
    inl (record { name = name; named = opened.named; asked = inl opened.asked; faults = faults; out = out })

-- the output of a moment
abbrev out_of : Seen → SeenOut
out_of seen = record { bytes = seen.bytes; faults = seen.write_faults }

-- a source that was lowered and has run
pub ran_to : (A : Type 0) (words : List (List ℕ)) (old new : Seen) (source : List ℕ) (mir : Mir) (r : Result A Halt) → HasLowered words old new source mir → RunEnds source (whole_run mir) (out_of old) (out_of new) r → ComesTo words old new r
ran_to A words old new source mir (Ok answer) lowered ends =
    record { source = source; mir = mir; lowered = lowered; answer = ends.answer; text = ends.text; put = ends.put.told; faults = ends.put.calm }
ran_to A words old new source mir (Err (halt.Undefined report)) lowered ends =
    record { source = source; mir = mir; lowered = lowered; answer = ends.answer; text = ends.text; put = ends.put.told; faults = ends.put.calm }
ran_to A words old new source mir (Err (halt.Panic report)) lowered ends =
    record { source = source; mir = mir; lowered = lowered; answer = ends.answer; text = ends.text; put = ends.put.told; faults = ends.put.calm }
ran_to A words old new source mir (Err halt.WriteFault) lowered ends =
    record { source = source; mir = mir; lowered = lowered; put = ends.told; rose = ends.rose }
ran_to A words old new source mir (Err halt.Memory) lowered ends =
    inr (record { source = source; mir = mir; lowered = lowered; put = ends.told; faults = ends.calm })
ran_to A words old new source mir (Err halt.Usage) lowered ends = absurd ends
ran_to A words old new source mir (Err halt.TooLong) lowered ends = absurd ends
ran_to A words old new source mir (Err halt.NotBuilt) lowered ends = absurd ends
ran_to A words old new source mir (Err halt.ReadFault) lowered ends = absurd ends

-- a run that came to its own end
reports_as : (source : List ℕ) (run : Run) (before after : SeenOut) (end : Outcome) (status : ℕ) (report : List ℕ) → RunsWhole run before after end → report_of source end ≡ report → status_of_end end ≡ status → ReportsAs source run before after status report
reports_as source run before after end status report whole text answer =
    record { answer = ap status_of_end (sym whole.end) ∙ answer; text = ap (report_of source) (sym whole.end) ∙ text; put = whole.put }

-- and for whose report there was no memory
ran_out : (run : Run) (before after : SeenOut) (end : Outcome) → RunsWhole run before after end → RunsOut run before after
ran_out run before after end whole = record { told = GrewByPrefix-whole before.bytes after.bytes run.printed whole.put.told; calm = whole.put.calm }

-- the call's end is the run's
pub concluded : (A : Type 0) (source : List ℕ) (run : Run) (before after : SeenOut) (end : Outcome) (r : Result A Halt) → RunsAs run before after end → Concludes source end r → RunEnds source run before after r
concluded A source run before after end (Ok answer) runs is =
    reports_as source run before after outcome.Finished 0 [] (subst (λ e. RunsAs run before after e) is runs) refl refl
concluded A source run before after outcome.Finished (Err (halt.Undefined report)) runs is = absurd (let e = is.1 in omega arith)
concluded A source run before after (outcome.Undefined stop span) (Err (halt.Undefined report)) runs is = reports_as source run before after (outcome.Undefined stop span) 1 report runs is.0 refl
concluded A source run before after (outcome.Panic panic span) (Err (halt.Undefined report)) runs is = absurd (let e = is.1 in omega arith)
concluded A source run before after outcome.StepLimit (Err (halt.Undefined report)) runs is = absurd (let e = is.1 in omega arith)
concluded A source run before after outcome.WriteFault (Err (halt.Undefined report)) runs is = absurd (let e = is.1 in omega arith)
concluded A source run before after outcome.Memory (Err (halt.Undefined report)) runs is = absurd (let e = is.1 in omega arith)
concluded A source run before after outcome.Finished (Err (halt.Panic report)) runs is = absurd (let e = is.1 in omega arith)
concluded A source run before after (outcome.Undefined stop span) (Err (halt.Panic report)) runs is = absurd (let e = is.1 in omega arith)
concluded A source run before after (outcome.Panic panic span) (Err (halt.Panic report)) runs is = reports_as source run before after (outcome.Panic panic span) 3 report runs is.0 refl
concluded A source run before after outcome.StepLimit (Err (halt.Panic report)) runs is = absurd (let e = is.1 in omega arith)
concluded A source run before after outcome.WriteFault (Err (halt.Panic report)) runs is = absurd (let e = is.1 in omega arith)
concluded A source run before after outcome.Memory (Err (halt.Panic report)) runs is = absurd (let e = is.1 in omega arith)
concluded A source run before after end (Err halt.WriteFault) runs is = subst (λ e. RunsAs run before after e) is runs
concluded A source run before after outcome.Finished (Err halt.Memory) runs is = ran_out run before after outcome.Finished runs
concluded A source run before after (outcome.Undefined stop span) (Err halt.Memory) runs is = ran_out run before after (outcome.Undefined stop span) runs
concluded A source run before after (outcome.Panic panic span) (Err halt.Memory) runs is = ran_out run before after (outcome.Panic panic span) runs
concluded A source run before after outcome.StepLimit (Err halt.Memory) runs is = ran_out run before after outcome.StepLimit runs
concluded A source run before after outcome.WriteFault (Err halt.Memory) runs is = absurd (is refl)
concluded A source run before after outcome.Memory (Err halt.Memory) runs is = runs
concluded A source run before after end (Err halt.Usage) runs is = absurd is
concluded A source run before after end (Err halt.TooLong) runs is = absurd is
concluded A source run before after end (Err halt.NotBuilt) runs is = absurd is
concluded A source run before after end (Err halt.ReadFault) runs is = absurd is
