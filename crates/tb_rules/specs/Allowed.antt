-- Which types may stand where a value has them.
use Rattle.std.specs.Prelude.{Bool, true, not, ◌&&◌, ◌||◌, if◌then◌else◌, List, [], ◌∷◌, Option, Some, None}
use Rattle.tb_perm.specs.declared.code.Code.{Code}
use Rattle.tb_perm.specs.declared.code.Code.TheVariants.{TypeNotAllowedHere, TypeTooLarge}
use Rattle.tb_types.specs.declared.shape.Ty.{Ty}
use Rattle.tb_types.specs.Table.{TypeTable, shape_at}
use Rattle.tb_types.specs.Pieces.{side_by_side}
use Rattle.tb_types.specs.Facts.{is_copy, owns_box}
use Rattle.tb_types.specs.Extent.{fits}
use Rattle.tb_rules.specs.declared.type_kind.TypeKind.{TypeKind}
use Rattle.tb_rules.specs.declared.type_kind.TypeKind.TheVariants.{Array, Boxed, Cell, UnsafeCell, Slice, Tuple, Struct}
use Rattle.tb_rules.specs.Kinds.{kind_at, is_slice}
use Rattle.tb_rules.specs.Made.{is_type}

abbrev pub is_copied : TypeTable → Ty → Bool
is_copied types ty = is_type types ty && is_copy types ty

abbrev pub is_owner : TypeTable → Ty → Bool
is_owner types ty = is_type types ty && owns_box types ty

-- a slice lies directly behind a reference or raw pointer alone
abbrev pub is_part : TypeTable → Ty → Bool
is_part types ty = not (is_slice (kind_at types ty))

abbrev pub is_part_if : TypeTable → Option Ty → Bool
is_part_if types None = true
is_part_if types (Some ty) = is_part types ty

abbrev pub is_copied_if : TypeTable → Option Ty → Bool
is_copied_if types None = true
is_copied_if types (Some ty) = is_copied types ty

abbrev pub are_parts : TypeTable → List Ty → Bool
are_parts types [] = true
are_parts types (part ∷ parts) = is_part types part && are_parts types parts

abbrev pub are_copied : TypeTable → List Ty → Bool
are_copied types [] = true
are_copied types (part ∷ parts) = is_copied types part && are_copied types parts

-- no `Box` lies in the elements of an array or in a cell
abbrev pub is_element : TypeTable → Ty → Bool
is_element types ty = is_part types ty && not (is_owner types ty)

-- a struct that derives `Copy` has parts that are `Copy`
abbrev pub is_struct : TypeTable → Ty → List Ty → Bool
is_struct types ty parts = are_parts types parts && (not (is_copied types ty) || are_copied types parts)

abbrev pub is_allowed : TypeTable → Ty → List Ty → TypeKind → Bool
is_allowed types ty parts (Array part n) = is_element types part
is_allowed types ty parts (Cell part) = is_element types part && is_copied types part
is_allowed types ty parts (UnsafeCell part) = is_element types part
is_allowed types ty parts (Boxed part) = is_part types part
is_allowed types ty parts (Slice part) = is_part types part
is_allowed types ty parts Tuple = are_parts types parts
is_allowed types ty parts (Struct item) = is_struct types ty parts
is_allowed types ty parts kind = true

abbrev pub is_small : TypeTable → Ty → Bool
is_small types ty = is_type types ty && fits types ty

-- what forbids that a value has the type: what lies in it, or else its size
abbrev pub type_fault : TypeTable → Ty → Option Code
type_fault types ty = if is_allowed types ty (side_by_side types (shape_at types ty)) (kind_at types ty) then (if is_small types ty then None else Some TypeTooLarge) else Some TypeNotAllowedHere
