-- Types that are made.
use Rattle.std.specs.Prelude.{Bool, ◌&&◌, true, nat_lt, List, [], ◌∷◌, length}
use Rattle.tb_types.specs.declared.shape.Ty.{Ty}
use Rattle.tb_types.specs.declared.shape.TyShape.{TyShape}
use Rattle.tb_types.specs.Table.{TypeTable, with_shape, place_of}

-- the type of a shape, and the table that has it
abbrev pub made : TypeTable → TyShape → Ty × TypeTable
made types shape = (place_of types shape, with_shape types shape)

-- each number is one of a type
abbrev pub is_type : TypeTable → Ty → Bool
is_type types ty = nat_lt ty.0 (length types.shapes)

abbrev pub are_types : TypeTable → List Ty → Bool
are_types types [] = true
are_types types (ty ∷ list) = is_type types ty && are_types types list
