-- What a type is made around, the types of its parts or fields, and the type of a shape.
use Rattle.std.specs.Prelude.{ℕ, List, [], Option, Some, None, slice_get, if◌then◌else◌}
use Rattle.std.specs.List.{list_any}
use Rattle.tb_types.specs.declared.shape.Ty.{Ty}
use Rattle.tb_types.specs.declared.shape.TyShape.{TyShape}
use Rattle.tb_types.specs.declared.shape.TyShape.TheVariants.{Tuple, Array, Struct, Ref, Raw, Boxed, Cell, UnsafeCell, Slice}
use Rattle.tb_types.specs.Shapes.{shape_eq}
use Rattle.tb_types.specs.Table.{TypeTable, shape_at, fields_at, place_of}
use Rattle.tb_types.specs.Folded.{types_of}

-- what a box, cell, array, slice, reference or raw pointer is made around
abbrev pub made_around : Option TyShape → Option Ty
made_around (Some (Array part n)) = Some part
made_around (Some (Ref mutable to)) = Some to
made_around (Some (Raw mutable to)) = Some to
made_around (Some (Boxed part)) = Some part
made_around (Some (Cell part)) = Some part
made_around (Some (UnsafeCell part)) = Some part
made_around (Some (Slice part)) = Some part
made_around shape = None

abbrev pub content : TypeTable → Ty → Option Ty
content types ty = made_around (shape_at types ty)

-- the types of the parts of a tuple, and of the fields of a struct
abbrev pub side_by_side : TypeTable → Option TyShape → List Ty
side_by_side types (Some (Tuple parts)) = parts
side_by_side types (Some (Struct item)) = types_of (fields_at types item)
side_by_side types shape = []

abbrev pub part : TypeTable → Ty → ℕ → Option Ty
part types ty at = slice_get (side_by_side types (shape_at types ty)) at

-- the type of a shape, if it has one
abbrev pub find : TypeTable → TyShape → Option Ty
find types shape = if list_any (shape_eq shape) types.shapes then Some (place_of types shape) else None
