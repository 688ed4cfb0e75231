-- The kinds of types.
use Rattle.std.specs.Prelude.{Bool, true, false, Option, None, Some}
use Rattle.tb_types.specs.declared.shape.Ty.{Ty}
use Rattle.tb_types.specs.declared.shape.TyShape.{TyShape}
use Rattle.tb_types.specs.declared.shape.TyShape.TheVariants as shape
use Rattle.tb_types.specs.Table.{TypeTable, shape_at}
use Rattle.tb_rules.specs.declared.type_kind.TypeKind.{TypeKind}
use Rattle.tb_rules.specs.declared.type_kind.TypeKind.TheVariants as kind

-- what a shape is, without the parts of a tuple
abbrev pub kind_in : TyShape → TypeKind
kind_in (shape.Int k) = kind.Int k
kind_in shape.Bool = kind.Bool
kind_in shape.Char = kind.Char
kind_in shape.Unit = kind.Unit
kind_in (shape.Tuple parts) = kind.Tuple
kind_in (shape.Array part n) = kind.Array part n
kind_in (shape.Struct item) = kind.Struct item
kind_in (shape.Ref mutable to) = kind.Ref mutable to
kind_in (shape.Raw mutable to) = kind.Raw mutable to
kind_in (shape.Boxed part) = kind.Boxed part
kind_in (shape.Cell part) = kind.Cell part
kind_in (shape.UnsafeCell part) = kind.UnsafeCell part
kind_in (shape.Slice part) = kind.Slice part

abbrev pub kind_found : Option TyShape → TypeKind
kind_found None = kind.Missing
kind_found (Some found) = kind_in found

-- the kind of a type
abbrev pub kind_at : TypeTable → Ty → TypeKind
kind_at types ty = kind_found (shape_at types ty)

abbrev pub is_slice : TypeKind → Bool
is_slice (kind.Slice part) = true
is_slice other = false
