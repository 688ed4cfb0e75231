-- What has to hold of parts for their offsets to be worked out.
use Rattle.std.specs.Prelude.{◌≡◌, ℕ, ◌+◌, ◌≤◌, true, List, map}
use Rattle.std.specs.List.{AllByRecursion}
use Rattle.tb_types.specs.declared.shape.Ty.{Ty}
use Rattle.tb_types.specs.Table.{TypeTable, IsType}
use Rattle.tb_types.specs.Extent.{nothing, laid, extent_of, fits}

-- each part is within the limits, and so are all together
pub record AreLaidOut (types : TypeTable) (parts : List Ty) : Type 0 where
  pub each : AllByRecursion (λ part. fits types part ≡ true) parts
  pub room : (laid nothing (map (extent_of types) parts)).end ≤ 1048576

-- parts that are laid from an end on behind a place are within the limits, have fewer levels, and end in time
pub record AreRoomy (table : TypeTable) (at left end : ℕ) (parts : List Ty) : Type 0 where
  pub types : AllByRecursion (IsType table) parts
  pub each : AllByRecursion (λ part. fits table part ≡ true) parts
  pub levels : AllByRecursion (λ part. (extent_of table part).levels + 1 ≤ left) parts
  pub room : at + (laid (record nothing { end = end }) (map (extent_of table) parts)).end ≤ 1048576
