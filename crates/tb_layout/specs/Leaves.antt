-- The leaves of a type, each with the byte at which it begins: scalars, references, raw pointers and boxes.
use Rattle.std.specs.Prelude.{ℕ, zero, suc, ◌+◌, Bool, true, false, List, [], ◌∷◌, ◌++◌, map}
use Rattle.tb_types.specs.declared.shape.Ty.{Ty}
use Rattle.tb_types.specs.declared.shape.TyShape.{TyShape}
use Rattle.tb_types.specs.declared.shape.TyShape.TheVariants.{Int, Bool as BoolShape, Char, Unit, Tuple, Array, Struct, Ref, Raw, Boxed, Cell, UnsafeCell, Slice}
use Rattle.tb_types.specs.Table.{TypeTable}
use Rattle.tb_types.specs.Folded.{Node, folded}
use Rattle.tb_types.specs.Extent.{rounded, extent_of}
use Rattle.tb_layout.specs.declared.leaf.Leaf.{Leaf}
use Rattle.tb_layout.specs.declared.leaf.LeafShape.{LeafShape}
use Rattle.tb_layout.specs.declared.leaf.LeafShape.TheVariants.{Int as IntLeaf, Bool as BoolLeaf, Char as CharLeaf, Ref as RefLeaf, Raw as RawLeaf, Boxed as BoxedLeaf}

-- each leaf so many bytes further
abbrev pub moved : ℕ → List Leaf → List Leaf
moved by leaves = map (λ (leaf : Leaf). record leaf { at = by + leaf.at }) leaves

-- those of parts that are laid one behind another from an end on
abbrev pub leaves_from : TypeTable → ℕ → List Ty → List (List Leaf) → List Leaf
leaves_from types end (part ∷ parts) (leaves ∷ rest) = moved (rounded end (extent_of types part).align) leaves ++ leaves_from types (rounded end (extent_of types part).align + (extent_of types part).size) parts rest
leaves_from types end parts rest = []

-- those of elements of a size
abbrev pub repeated_leaves : ℕ → ℕ → List Leaf → List Leaf
repeated_leaves zero size leaves = []
repeated_leaves (suc n) size leaves = leaves ++ moved size (repeated_leaves n size leaves)

abbrev pub size_of : TypeTable → List Ty → ℕ
size_of types [] = 0
size_of types (part ∷ parts) = (extent_of types part).size

abbrev pub first_leaves : List (List Leaf) → List Leaf
first_leaves [] = []
first_leaves (leaves ∷ rest) = leaves

-- a retag stands at a reference or box
abbrev pub stands : Bool → LeafShape → Bool
stands true shape = true
stands false (RefLeaf mutable to) = true
stands false (BoxedLeaf part) = true
stands false shape = false

abbrev pub leaf_if : Bool → LeafShape → List Leaf
leaf_if true shape = record { at = 0; shape = shape } ∷ []
leaf_if false shape = []

abbrev pub if_all : Bool → List Leaf → List Leaf
if_all true leaves = leaves
if_all false leaves = []

-- by shape; all leaves, or those alone at which a retag stands: references and boxes that lie in no array and no cell
abbrev pub leaves_in : Bool → TypeTable → TyShape → List Ty → List (List Leaf) → List Leaf
leaves_in all types (Int kind) parts below = leaf_if (stands all (IntLeaf kind)) (IntLeaf kind)
leaves_in all types BoolShape parts below = leaf_if (stands all BoolLeaf) BoolLeaf
leaves_in all types Char parts below = leaf_if (stands all CharLeaf) CharLeaf
leaves_in all types Unit parts below = []
leaves_in all types (Tuple those) parts below = leaves_from types 0 parts below
leaves_in all types (Array part n) parts below = if_all all (repeated_leaves n (size_of types parts) (first_leaves below))
leaves_in all types (Struct item) parts below = leaves_from types 0 parts below
leaves_in all types (Ref mutable to) parts below = leaf_if (stands all (RefLeaf mutable to)) (RefLeaf mutable to)
leaves_in all types (Raw mutable to) parts below = leaf_if (stands all (RawLeaf mutable to)) (RawLeaf mutable to)
leaves_in all types (Boxed part) parts below = leaf_if (stands all (BoxedLeaf part)) (BoxedLeaf part)
leaves_in all types (Cell part) parts below = if_all all (first_leaves below)
leaves_in all types (UnsafeCell part) parts below = if_all all (first_leaves below)
leaves_in all types (Slice part) parts below = []

abbrev pub leaves_by : Bool → TypeTable → Node → List (List Leaf) → List Leaf
leaves_by all types node below = leaves_in all types node.shape node.parts below

abbrev pub leaves_of : Bool → TypeTable → Ty → List Leaf
leaves_of all types ty = folded (leaves_by all types) types ty
