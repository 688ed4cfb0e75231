use Rattle.std.proofs.Common.{◌≡◌, ◌≤◌, ◌++◌, true, map, drop}
use Rattle.std.specs.List.{AllByRecursion}
use Rattle.tb_types.specs.Table.{IsType, shape_at}
use Rattle.tb_types.specs.Pieces.{side_by_side}
use Rattle.tb_types.specs.Extent.{nothing, laid, extent_of, fits}
use Rattle.tb_layout.specs.Layout.{places}
use Rattle.tb_layout.proofs.offsets.offsets_of.Given as goal

abbrev pub invariant-loop-place : goal.invariant-loop-place
invariant-loop-place l = record {
  types : AllByRecursion (IsType l.types) (drop l.place (side_by_side l.types (shape_at l.types l.ty)));
  layouts : AllByRecursion (λ part. fits l.types part ≡ true) (drop l.place (side_by_side l.types (shape_at l.types l.ty)));
  room : (laid (record nothing { end = l.end }) (map (extent_of l.types) (drop l.place (side_by_side l.types (shape_at l.types l.ty))))).end ≤ 1048576;
  offsets : l.offsets.items ++ places l.end (map (extent_of l.types) (drop l.place (side_by_side l.types (shape_at l.types l.ty)))) ≡ places 0 (map (extent_of l.types) (side_by_side l.types (shape_at l.types l.ty)));
}
