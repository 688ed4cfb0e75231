-- How the rows of a `PlainTree` meet an event.
use Rattle.std.specs.Prelude.{ℕ, Bool, false, cond, not, ◌&&◌, ◌==◌, List, Option, Some, None, is_some, IsSome, find, option_map, option_and_then, slice_index_or, filter_map}
use Rattle.std.specs.List.{list_any, range_with_len}
use Rattle.std.specs.Option.{option_or}
use Rattle.tb_perm.specs.declared.perm.Kind.{Kind}
use Rattle.tb_perm.specs.declared.perm.Rel.{Rel}
use Rattle.tb_perm.specs.declared.perm.Rel.TheVariants.{Local, Foreign}
use Rattle.tb_perm.specs.declared.perm.State.{State}
use Rattle.tb_perm.specs.declared.perm.Perm.TheVariants.{Disabled}
use Rattle.tb_perm.specs.declared.perm.Guard.{Guard}
use Rattle.tb_perm.specs.declared.report.Access.{Access}
use Rattle.tb_perm.specs.declared.report.Report.{Report}
use Rattle.tb_perm.specs.declared.report.Refusal.{Refusal}
use Rattle.tb_perm.specs.declared.report.Refusal.TheVariants.{StrongDealloc}
use Rattle.tb_perm.specs.Table.{is_guarded}
use Rattle.tb_perm.specs.Event.{moved_states, refusal_of}
use Rattle.tb_perm.specs.Reborrow.{is_cell}
use Rattle.tb_perm.specs.Deallocation.{is_strong}
use Rattle.tb_plain.specs.declared.row.PlainRow.{PlainRow}
use Rattle.tb_plain.specs.declared.sweep.Sweep.{Sweep}

-- the key is among them
abbrev pub contains : List ℕ → ℕ → Bool
contains keys key = list_any (λ k. k == key) keys

-- the kind of access that a tag meets at a byte
abbrev pub met : Sweep → ℕ → ℕ → Option Kind
met sweep tag byte = cond (contains sweep.hidden tag) None (slice_index_or sweep.kinds byte None)

abbrev pub rel_in : Sweep → ℕ → Rel
rel_in sweep tag = cond (contains sweep.path tag) Local Foreign

-- a row's state at a byte
abbrev pub plain_state : PlainRow → ℕ → State
plain_state row byte = slice_index_or row.states byte (record { perm = Disabled; accessed = false })

-- a row after the event
abbrev pub swept : Sweep → PlainRow → PlainRow
swept sweep row =
    record row { states = moved_states (met sweep row.tag.0) (is_guarded row.guard) (rel_in sweep row.tag.0) 0 row.states }

-- a strongly guarded tag refuses at a byte that it has accessed and that is not Cell
abbrev pub strong_in : Guard → State → Option Refusal
strong_in guard s = cond (is_strong guard && s.accessed && not (is_cell s.perm)) (Some StrongDealloc) None

-- why a row refuses at a byte, if it does
abbrev pub refusal_by : Sweep → PlainRow → ℕ → Option Refusal
refusal_by sweep row byte =
    cond sweep.strong (strong_in row.guard (plain_state row byte)) (refusal_of (met sweep row.tag.0 byte) (is_guarded row.guard) (rel_in sweep row.tag.0) (plain_state row byte))

abbrev pub refuses_by : Sweep → ℕ → PlainRow → Bool
refuses_by sweep byte row = is_some (refusal_by sweep row byte)

-- the row is the key's
abbrev pub is_plain : ℕ → PlainRow → Bool
is_plain key row = row.tag.0 == key

-- the key has a row
abbrev pub HasPlain : List PlainRow → ℕ → Type 0
HasPlain rows key = IsSome (find (is_plain key) rows)

-- the rows of the keys
abbrev pub rows_on : List ℕ → List PlainRow → List PlainRow
rows_on keys rows = filter_map (λ key. find (is_plain key) rows) keys

-- the least byte at which a row refuses
abbrev pub byte_by : Sweep → ℕ → List PlainRow → Option ℕ
byte_by sweep size rows = find (λ byte. list_any (refuses_by sweep byte) rows) (range_with_len 0 size)

-- the row to blame at a byte
abbrev pub row_by : Sweep → List PlainRow → ℕ → Option PlainRow
row_by sweep rows byte = option_or (find (refuses_by sweep byte) (rows_on sweep.path rows)) (find (refuses_by sweep byte) rows)

abbrev pub report_by : Access → ℕ → ℕ → PlainRow → Refusal → Report
report_by access through byte row refusal =
    record {
      refusal = refusal;
      access = access;
      through = record { 0 = through };
      byte = byte;
      tag = row.tag;
      perm = (plain_state row byte).perm;
      made = row.made;
    }

abbrev pub reported_at : Sweep → Access → List PlainRow → ℕ → ℕ → Option Report
reported_at sweep access rows through byte =
    option_and_then (λ row. option_map (report_by access through byte row) (refusal_by sweep row byte)) (row_by sweep rows byte)

-- the report of the event
abbrev pub reported : Sweep → Access → ℕ → List PlainRow → ℕ → Option Report
reported sweep access size rows through = option_and_then (reported_at sweep access rows through) (byte_by sweep size rows)
