use Rattle.std.proofs.Common.{◌≡◌, map, drop}
use Rattle.std.specs.List.{AllByRecursion}
use Rattle.tb_types.specs.Extent.{nothing, laid}
use Rattle.tb_types.specs.Capped.{capped_row, IsSmallRow}
use Rattle.tb_types.specs.Known.{extent_at, IsWithin}
use Rattle.tb_types.proofs.known.row_of_parts.Given as goal

abbrev pub invariant-loop-part : goal.invariant-loop-part
invariant-loop-part l = record {
  within : AllByRecursion (IsWithin l.known) (drop l.part-index l.parts);
  small : IsSmallRow l.row;
  told : capped_row (laid l.row (map (extent_at l.known) (drop l.part-index l.parts))) ≡ capped_row (laid nothing (map (extent_at l.known) (l.parts)));
}
