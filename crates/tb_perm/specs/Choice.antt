-- Which refusal of an event is reported, where tags refuse it at some bytes.
use Rattle.std.specs.Prelude.{ℕ, Bool, List, Option, is_some, find, option_map, option_and_then}
use Rattle.std.specs.List.{list_any, range_with_len}
use Rattle.std.specs.Option.{option_or}
use Rattle.tb_perm.specs.declared.report.Access.{Access}
use Rattle.tb_perm.specs.declared.report.Report.{Report}
use Rattle.tb_perm.specs.declared.report.Refusal.{Refusal}
use Rattle.tb_perm.specs.Rows.{Row, path_to_root, state_at}

-- the row refuses at the byte
abbrev pub refuses : (Row → ℕ → Option Refusal) → ℕ → Row → Bool
refuses refusal byte row = is_some (refusal row byte)

-- the least byte at which some tag refuses
abbrev pub refused_byte : (Row → ℕ → Option Refusal) → ℕ → List Row → Option ℕ
refused_byte refusal size rows = find (λ byte. list_any (refuses refusal byte) rows) (range_with_len 0 size)

-- at that byte, the nearest tag on the path to the root that refuses, or else the least tag that does
abbrev pub refusing_row : (Row → ℕ → Option Refusal) → List Row → ℕ → ℕ → Option Row
refusing_row refusal rows through byte =
    option_or (find (refuses refusal byte) (path_to_root rows through)) (find (refuses refusal byte) rows)

-- the report on a row that refuses, with its permission before the event
abbrev pub report_on : Access → ℕ → ℕ → Row → Refusal → Report
report_on access through byte row refusal =
    record {
      refusal = refusal;
      access = access;
      through = record { 0 = through };
      byte = byte;
      tag = record { 0 = row.tag };
      perm = (state_at row byte).perm;
      made = row.made;
    }

-- the report at a byte
abbrev pub report_at : (Row → ℕ → Option Refusal) → Access → List Row → ℕ → ℕ → Option Report
report_at refusal access rows through byte =
    option_and_then
    (λ row. option_map (report_on access through byte row) (refusal row byte))
    (refusing_row refusal rows through byte)

-- the report of the event, or none where no tag refuses at any byte
abbrev pub report_of : (Row → ℕ → Option Refusal) → Access → ℕ → List Row → ℕ → Option Report
report_of refusal access size rows through =
    option_and_then (report_at refusal access rows through) (refused_byte refusal size rows)
