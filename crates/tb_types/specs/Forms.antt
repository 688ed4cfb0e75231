-- The types in the rows of the table of built-in calls.
use Rattle.std.specs.Prelude.{zero, Bool, true, false, not, ◌&&◌, List, [], ◌∷◌, Option, Some, None}
use Rattle.tb_types.specs.declared.shape.Ty.{Ty}
use Rattle.tb_types.specs.declared.shape.IntKind.{IntKind}
use Rattle.tb_types.specs.declared.shape.IntKind.TheVariants.{Usize, U8}
use Rattle.tb_types.specs.declared.shape.TyShape.{TyShape}
use Rattle.tb_types.specs.declared.shape.TyShape.TheVariants.{Int as IntShape, Bool as BoolShape, Unit as UnitShape, Array as ArrayShape, Struct as StructShape, Ref as RefShape, Raw as RawShape, Boxed as BoxedShape, Cell as CellShape, UnsafeCell as UnsafeCellShape, Slice as SliceShape}
use Rattle.tb_types.specs.contracts.shape.IntKindPartialEq.TheImpl as kind_law
use Rattle.tb_types.specs.declared.item.Field.{Field}
use Rattle.tb_types.specs.declared.form.Around.{Around}
use Rattle.tb_types.specs.declared.form.Around.TheVariants.{Boxed, Cell, UnsafeCell, Slice, Elements, Ref, Raw}
use Rattle.tb_types.specs.declared.form.Form.{Form}
use Rattle.tb_types.specs.declared.form.Form.TheVariants.{T, Of, Within, Unit, Bool as OfBool, Int, BytePointer, Thin, Layout}
use Rattle.tb_types.specs.Same.{ty_eq}
use Rattle.tb_types.specs.Table.{TypeTable, shape_at, fields_at}

-- what a shape of a kind is made around; none where it is of another kind
abbrev pub content_of : TyShape → Around → Option Ty
content_of (BoxedShape part) Boxed = Some part
content_of (CellShape part) Cell = Some part
content_of (UnsafeCellShape part) UnsafeCell = Some part
content_of (SliceShape part) Slice = Some part
content_of (SliceShape part) Elements = Some part
content_of (ArrayShape part n) Elements = Some part
content_of (RefShape true to) (Ref true) = Some to
content_of (RefShape false to) (Ref false) = Some to
content_of (RawShape true to) (Raw true) = Some to
content_of (RawShape false to) (Raw false) = Some to
content_of shape around = None

-- what a type that may be there is made around
abbrev pub content_in : Option TyShape → Around → Option Ty
content_in None around = None
content_in (Some shape) around = content_of shape around

abbrev pub held : TypeTable → Around → Option Ty → Option Ty
held types around None = None
held types around (Some ty) = content_in (shape_at types ty) around

abbrev pub is_ty : Ty → Option Ty → Bool
is_ty ty None = false
is_ty ty (Some found) = ty_eq found ty

abbrev pub kind_eq : IntKind → IntKind → Bool
kind_eq = (kind_law.ghosts).eq

-- the shape is that of a type without parts
abbrev pub is_int : IntKind → Option TyShape → Bool
is_int kind (Some (IntShape found)) = kind_eq found kind
is_int kind shape = false

abbrev pub is_bool : Option TyShape → Bool
is_bool (Some BoolShape) = true
is_bool shape = false

abbrev pub is_unit : Option TyShape → Bool
is_unit (Some UnitShape) = true
is_unit shape = false

abbrev pub is_slice : Option TyShape → Bool
is_slice (Some (SliceShape part)) = true
is_slice shape = false

-- a pointer to bytes
abbrev pub is_byte : TypeTable → Option Ty → Bool
is_byte types None = false
is_byte types (Some ty) = is_int U8 (shape_at types ty)

-- a type of known size, as far as its own shape says
abbrev pub is_thin : TypeTable → Option Ty → Bool
is_thin types None = false
is_thin types (Some ty) = not (is_slice (shape_at types ty))

-- two fields of type `usize`
abbrev pub are_sizes : TypeTable → Option (List Field) → Bool
are_sizes types (Some (size ∷ align ∷ [])) = is_int Usize (shape_at types size.ty) && is_int Usize (shape_at types align.ty)
are_sizes types fields = false

-- struct 0, where that is the one of layouts
abbrev pub is_layout : TypeTable → Option TyShape → Bool
is_layout types (Some (StructShape zero)) = are_sizes types (fields_at types 0)
is_layout types shape = false

-- the type is of the form, for this T
abbrev pub is_form : TypeTable → Form → Ty → Ty → Bool
is_form types T t ty = ty_eq ty t
is_form types (Of around) t ty = is_ty t (held types around (Some ty))
is_form types (Within outer inner) t ty = is_ty t (held types inner (held types outer (Some ty)))
is_form types Unit t ty = is_unit (shape_at types ty)
is_form types OfBool t ty = is_bool (shape_at types ty)
is_form types (Int kind) t ty = is_int kind (shape_at types ty)
is_form types BytePointer t ty = is_byte types (held types (Raw true) (Some ty))
is_form types (Thin mutable) t ty = is_thin types (held types (Raw mutable) (Some ty))
is_form types Layout t ty = is_layout types (shape_at types ty)
