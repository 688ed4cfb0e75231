use Rattle.std.proofs.Common.{◌≡◌, map, drop}
use Rattle.std.specs.List.{AllByRecursion}
use Rattle.tb_types.specs.Folded.{types_in}
use Rattle.tb_types.specs.Extent.{nothing, laid}
use Rattle.tb_types.specs.Capped.{capped_row, IsSmallRow}
use Rattle.tb_types.specs.Known.{extent_at, IsWithin}
use Rattle.tb_types.proofs.known.row_of_fields.Given as goal

abbrev pub invariant-loop-field : goal.invariant-loop-field
invariant-loop-field l = record {
  within : AllByRecursion (IsWithin l.known) (types_in (drop l.field-index l.fields));
  small : IsSmallRow l.row;
  told : capped_row (laid l.row (map (extent_at l.known) (types_in (drop l.field-index l.fields)))) ≡ capped_row (laid nothing (map (extent_at l.known) (types_in l.fields)));
}
