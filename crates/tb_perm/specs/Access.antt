-- An access through a tag, of one kind at the bytes of a range: every tag sees it.
use Rattle.std.specs.Prelude.{ℕ, cond, List, Option, Some, None}
use Rattle.tb_perm.specs.declared.perm.Kind.{Kind}
use Rattle.tb_perm.specs.declared.perm.Kind.TheVariants.{Read, Write}
use Rattle.tb_perm.specs.declared.report.Access.{Access}
use Rattle.tb_perm.specs.declared.report.Access.TheVariants.{Read as OfRead, Write as OfWrite}
use Rattle.tb_perm.specs.declared.report.Report.{Report}
use Rattle.tb_perm.specs.Rows.{Row}
use Rattle.tb_perm.specs.Event.{Event, is_within, after, refusal_at}
use Rattle.tb_perm.specs.Choice.{report_of}

abbrev pub access_event : ℕ → ℕ → ℕ → Kind → Event
access_event through lo hi kind =
    record { through = through; meets = λ u byte. cond (is_within lo hi byte) (Some kind) None }

-- the rows after an access that no tag refuses
abbrev pub accessed : List Row → ℕ → ℕ → ℕ → Kind → List Row
accessed rows through lo hi kind = after (access_event through lo hi kind) rows

-- how reports name an access of this kind
abbrev pub access_of : Kind → Access
access_of Read = OfRead
access_of Write = OfWrite

-- the report of an access, or none where no tag refuses it
abbrev pub access_report : List Row → ℕ → ℕ → ℕ → ℕ → Kind → Option Report
access_report rows size through lo hi kind =
    report_of (refusal_at rows (access_event through lo hi kind)) (access_of kind) size rows through
