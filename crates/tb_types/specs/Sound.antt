-- What is true of the types of every `Types`.
use Rattle.std.specs.Prelude.{◌≡◌, ℕ, true, List, length, Some, slice_get, IfSome}
use Rattle.std.specs.List.{AllByRecursion, IsDistinct}
use Rattle.tb_types.specs.declared.shape.Ty.{Ty}
use Rattle.tb_types.specs.declared.shape.TyShape.{TyShape}
use Rattle.tb_types.specs.declared.item.Field.{Field}
use Rattle.tb_types.specs.declared.known.Known.{Known}
use Rattle.tb_types.specs.Shapes.{shape_eq}
use Rattle.tb_types.specs.Table.{TypeTable, IsType, IsDeclared, shape_at, fields_at, AreNamed, item_named}
use Rattle.tb_types.specs.Folded.{folded_at, depth_of, fits_by}
use Rattle.tb_types.specs.Facts.{is_complete}
use Rattle.tb_types.specs.Known.{known_of}

-- a field has a type in which each struct is defined
pub record IsField (types : TypeTable) (field : Field) : Type 0 where
  pub is_type : IsType types field.ty
  pub complete : is_complete types field.ty ≡ true

pub record AreTypes (types : TypeTable) : Type 0 where
  -- no shape has two numbers
  pub one_number : IsDistinct shape_eq types.shapes
  -- a shape names types of lesser numbers, and a declared struct
  pub names : AreNamed types.shapes
  pub declared : (ty : Ty) (shape : TyShape) → shape_at types ty ≡ Some shape → IfSome (item_named shape) (IsDeclared types)
  -- the structs that lie in a field, other than behind a reference or raw pointer, are defined
  pub fields : (item : ℕ) (fields : List Field) → fields_at types item ≡ Some fields → AllByRecursion (IsField types) fields
  -- and were so before, so that each type comes to an end
  pub ends : (ty : Ty) → IsType types ty → folded_at fits_by types (depth_of types) ty ≡ true

-- what is kept is that of the types, in the order of their numbers
pub record AreKnown (types : TypeTable) (known : List Known) : Type 0 where
  pub len : length known ≡ length types.shapes
  pub each : (ty : Ty) → IsType types ty → slice_get known ty.0 ≡ Some (known_of types ty)
