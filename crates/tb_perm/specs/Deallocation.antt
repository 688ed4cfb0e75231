-- A deallocation through a tag: a write to all bytes, and then no strong guard may stand in the way.
use Rattle.std.specs.Prelude.{ℕ, Bool, true, false, cond, not, ◌&&◌, List, Option, Some, None}
use Rattle.std.specs.Option.{option_or}
use Rattle.tb_perm.specs.declared.perm.Guard.{Guard}
use Rattle.tb_perm.specs.declared.perm.Guard.TheVariants.{Free, Weak, Strong}
use Rattle.tb_perm.specs.declared.perm.Kind.TheVariants.{Write}
use Rattle.tb_perm.specs.declared.report.Access.TheVariants.{Free as OfFree}
use Rattle.tb_perm.specs.declared.report.Refusal.{Refusal}
use Rattle.tb_perm.specs.declared.report.Refusal.TheVariants.{StrongDealloc}
use Rattle.tb_perm.specs.declared.report.Report.{Report}
use Rattle.tb_perm.specs.Rows.{Row, state_at}
use Rattle.tb_perm.specs.Event.{refusal_at}
use Rattle.tb_perm.specs.Choice.{report_of}
use Rattle.tb_perm.specs.Access.{access_event, accessed}
use Rattle.tb_perm.specs.Reborrow.{is_cell}

abbrev pub is_strong : Guard → Bool
is_strong Free = false
is_strong Weak = false
is_strong Strong = true

-- a strongly guarded tag refuses at the bytes that it has accessed and that are not Cell
abbrev pub strong_refusal : Row → ℕ → Option Refusal
strong_refusal row byte =
    cond (is_strong row.guard && (state_at row byte).accessed && not (is_cell (state_at row byte).perm)) (Some StrongDealloc) None

-- the rows after a deallocation that no tag refuses
abbrev pub deallocated : List Row → ℕ → ℕ → List Row
deallocated rows size t = accessed rows t 0 size Write

-- the report of a deallocation, or none: the refused write comes first, and the strong guards are
-- looked for in the rows before the event
abbrev pub dealloc_report : List Row → ℕ → ℕ → Option Report
dealloc_report rows size t =
    option_or
    (report_of (refusal_at rows (access_event t 0 size Write)) OfFree size rows t)
    (report_of strong_refusal OfFree size rows t)
