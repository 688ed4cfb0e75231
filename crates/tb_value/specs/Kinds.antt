-- What a scalar type holds, apart from the types that it names: an integer, a truth value, a character or a pointer.
use Rattle.std.specs.Prelude.{ℕ, Bool, true, false, cond, Option, Some, None}
use Rattle.tb_types.specs.declared.shape.Ty.{Ty}
use Rattle.tb_types.specs.declared.shape.TyShape.{TyShape}
use Rattle.tb_types.specs.declared.shape.TyShape.TheVariants.{Int as IntShape, Bool as BoolShape, Char as CharShape, Ref as RefShape, Raw as RawShape, Boxed as BoxedShape, Slice as SliceShape}
use Rattle.tb_types.specs.Table.{TypeTable, shape_at}
use Rattle.tb_types.specs.Extent.{int_bytes}
use Rattle.tb_layout.specs.declared.leaf.LeafShape.{LeafShape}
use Rattle.tb_layout.specs.declared.leaf.LeafShape.TheVariants.{Int as IntLeaf, Bool as BoolLeaf, Char as CharLeaf, Ref as RefLeaf, Raw as RawLeaf, Boxed as BoxedLeaf}
use Rattle.tb_value.specs.declared.kind.ScalarKind.{ScalarKind}
use Rattle.tb_value.specs.declared.kind.ScalarKind.TheVariants.{Int, Bool as BoolKind, Char, Thin, Wide}

-- the shape is that of a slice
abbrev pub is_slice : Option TyShape → Bool
is_slice (Some (SliceShape part)) = true
is_slice shape = false

-- a pointer to a slice is an address and a length, any other an address; `null` says whether the address may be 0
abbrev pub pointer_kind : TypeTable → Ty → Bool → ScalarKind
pointer_kind types to null = cond (is_slice (shape_at types to)) (Wide null) (Thin null)

-- what a leaf holds; only a raw pointer may be null
abbrev pub kind_of : TypeTable → LeafShape → ScalarKind
kind_of types (IntLeaf kind) = Int kind
kind_of types BoolLeaf = BoolKind
kind_of types CharLeaf = Char
kind_of types (RefLeaf mutable to) = pointer_kind types to false
kind_of types (RawLeaf mutable to) = pointer_kind types to true
kind_of types (BoxedLeaf part) = Thin false

-- what a type of a shape holds, where it is scalar
abbrev pub kind_in : TypeTable → Option TyShape → Option ScalarKind
kind_in types (Some (IntShape kind)) = Some (Int kind)
kind_in types (Some BoolShape) = Some BoolKind
kind_in types (Some CharShape) = Some Char
kind_in types (Some (RefShape mutable to)) = Some (pointer_kind types to false)
kind_in types (Some (RawShape mutable to)) = Some (pointer_kind types to true)
kind_in types (Some (BoxedShape part)) = Some (Thin false)
kind_in types shape = None

abbrev pub kind_at : TypeTable → Ty → Option ScalarKind
kind_at types ty = kind_in types (shape_at types ty)

-- how many bytes it takes
abbrev pub width : ScalarKind → ℕ
width (Int kind) = int_bytes kind
width BoolKind = 1
width Char = 4
width (Thin null) = 8
width (Wide null) = 16
