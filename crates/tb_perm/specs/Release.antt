-- The accesses of a guarded tag at the end of its call: one at each byte that it has accessed and
-- that is not Cell, a write where it is Active and else a read. The tags below it do not see them.
use Rattle.std.specs.Prelude.{ℕ, Bool, cond, not, ◌&&◌, List, Option, Some, None, ◌==◌, find, option_and_then}
use Rattle.tb_perm.specs.declared.perm.State.{State}
use Rattle.tb_perm.specs.declared.perm.Perm.{Perm}
use Rattle.tb_perm.specs.declared.perm.Perm.TheVariants.{Cell, Reserved, Conflicted, ReservedIm, Active, Frozen, Disabled}
use Rattle.tb_perm.specs.declared.perm.Kind.{Kind}
use Rattle.tb_perm.specs.declared.perm.Kind.TheVariants.{Read, Write}
use Rattle.tb_perm.specs.declared.report.Access.TheVariants.{CallEnd as OfCallEnd}
use Rattle.tb_perm.specs.declared.report.Report.{Report}
use Rattle.tb_perm.specs.Rows.{Row, is_on_path, is_tag, state_at}
use Rattle.tb_perm.specs.Event.{Event, after, refusal_at}
use Rattle.tb_perm.specs.Choice.{report_of}

abbrev pub release_kind : Perm → Option Kind
release_kind Cell = None
release_kind Reserved = Some Read
release_kind Conflicted = Some Read
release_kind ReservedIm = Some Read
release_kind Active = Some Write
release_kind Frozen = Some Read
release_kind Disabled = Some Read

-- the access that a state asks for at the end of the call
abbrev pub released_kind : State → Option Kind
released_kind s = cond s.accessed (release_kind s.perm) None

-- the access at a byte
abbrev pub released_at : List Row → ℕ → ℕ → Option Kind
released_at rows t byte = option_and_then (λ row. released_kind (state_at row byte)) (find (is_tag t) rows)

-- the second tag is a strict descendant of the first
abbrev pub is_below : List Row → ℕ → ℕ → Bool
is_below rows t u = not (u == t) && is_on_path rows u t

abbrev pub release_event : List Row → ℕ → Event
release_event rows t = record { through = t; meets = λ u byte. cond (is_below rows t u) None (released_at rows t byte) }

-- the rows after a release that no tag refuses; the guard stays
abbrev pub released : List Row → ℕ → List Row
released rows t = after (release_event rows t) rows

-- the report of a release, or none where no tag refuses it
abbrev pub release_report : List Row → ℕ → ℕ → Option Report
release_report rows size t = report_of (refusal_at rows (release_event rows t)) OfCallEnd size rows t
