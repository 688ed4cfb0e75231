-- What is true of the fields of every `Types`.
use Rattle.std.specs.Prelude.{◌^◌, ◌≤◌, List, length}
use Rattle.tb_types.specs.declared.shape.TyShape.{TyShape}
use Rattle.tb_types.specs.declared.item.Item.{Item}
use Rattle.tb_types.specs.declared.known.Known.{Known}
use Rattle.tb_types.specs.Table.{TypeTable}
use Rattle.tb_types.specs.Sound.{AreTypes, AreKnown}

abbrev pub table_of : List TyShape → List Item → TypeTable
table_of shapes items = record { shapes = shapes; items = items }

pub record IsKeptSound (shapes : List TyShape) (items : List Item) (known : List Known) : Type 0 where
  pub sound : AreTypes (table_of shapes items)
  pub known_are : AreKnown (table_of shapes items) known
  -- a number fits
  pub few : length shapes ≤ 2 ^ 31
