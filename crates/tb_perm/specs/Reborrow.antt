-- The making of a tag: a read through its parent, and then its row.
use Rattle.std.specs.Prelude.{ℕ, ◌≤◌, ◌<◌, Bool, true, false, cond, not, ◌&&◌, List, [], ◌∷◌, ◌++◌, map, Option, Some, None}
use Rattle.std.specs.List.{list_any, range_with_len}
use Rattle.tb_perm.specs.declared.perm.Perm.{Perm}
use Rattle.tb_perm.specs.declared.perm.Perm.TheVariants.{Cell, Reserved, Conflicted, ReservedIm, Active, Frozen, Disabled}
use Rattle.tb_perm.specs.declared.perm.State.{State}
use Rattle.tb_perm.specs.declared.perm.Kind.TheVariants.{Read}
use Rattle.tb_perm.specs.declared.report.Access.TheVariants.{Reborrow as OfReborrow}
use Rattle.tb_perm.specs.declared.report.Report.{Report}
use Rattle.tb_perm.specs.declared.new_tag.NewTag.{NewTag}
use Rattle.tb_perm.specs.declared.new_tag.CellRange.{CellRange}
use Rattle.tb_perm.specs.Rows.{Row}
use Rattle.tb_perm.specs.Event.{Event, is_within, after, refusal_at}
use Rattle.tb_perm.specs.Choice.{report_of}

-- the ranges lie one after another between the two ends, and none is empty
abbrev pub AreCells : ℕ → ℕ → List CellRange → Type 0
AreCells lo hi [] = lo ≤ hi
AreCells lo hi (cell ∷ cells) = (lo ≤ cell.lo) × (cell.lo < cell.hi) × AreCells cell.hi hi cells

-- the byte lies in one of the ranges
abbrev pub is_in_cells : List CellRange → ℕ → Bool
is_in_cells cells byte = list_any (λ (cell : CellRange). is_within cell.lo cell.hi byte) cells

abbrev pub is_cell : Perm → Bool
is_cell Cell = true
is_cell Reserved = false
is_cell Conflicted = false
is_cell ReservedIm = false
is_cell Active = false
is_cell Frozen = false
is_cell Disabled = false

-- the new tag's permission at a byte
abbrev pub new_perm : NewTag → ℕ → Perm
new_perm new byte =
    cond (is_within new.lo new.hi byte) (cond (is_in_cells new.cells byte) Cell new.perm) new.outside

-- a byte starts accessed where it lies in the range and is not Cell
abbrev pub starts_accessed : NewTag → ℕ → Bool
starts_accessed new byte = is_within new.lo new.hi byte && not (is_cell (new_perm new byte))

abbrev pub new_state : NewTag → ℕ → State
new_state new byte = record { perm = new_perm new byte; accessed = starts_accessed new byte }

abbrev pub new_row : ℕ → NewTag → Row
new_row size new =
    record {
      tag = new.tag.0;
      parent = Some new.parent.0;
      guard = new.guard;
      made = new.made;
      states = map (new_state new) (range_with_len 0 size);
    }

-- the read through the parent, at the bytes that start accessed
abbrev pub reborrow_event : NewTag → Event
reborrow_event new =
    record { through = new.parent.0; meets = λ u byte. cond (starts_accessed new byte) (Some Read) None }

-- the earlier rows after a reborrow that no tag refuses
abbrev pub reborrowed_rows : List Row → NewTag → List Row
reborrowed_rows rows new = after (reborrow_event new) rows

-- all rows after it
abbrev pub reborrowed : List Row → ℕ → NewTag → List Row
reborrowed rows size new = reborrowed_rows rows new ++ new_row size new ∷ []

-- the report of a reborrow, or none where no tag refuses its read
abbrev pub reborrow_report : List Row → ℕ → NewTag → Option Report
reborrow_report rows size new =
    report_of (refusal_at rows (reborrow_event new)) OfReborrow size rows new.parent.0
