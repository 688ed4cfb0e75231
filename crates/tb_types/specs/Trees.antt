-- The meaning of a type apart from its number: a tree of shapes, in which a struct is a leaf.
use Rattle.std.specs.Prelude.{◌≡◌, ℕ, suc, zero, Bool, true, false, ◌&&◌, List, [], ◌∷◌, Option, Some, None, slice_get}
use Rattle.tb_types.specs.declared.shape.Ty.{Ty}
use Rattle.tb_types.specs.declared.shape.IntKind.{IntKind}
use Rattle.tb_types.specs.declared.shape.TyShape.{TyShape}
use Rattle.tb_types.specs.declared.shape.TyShape.TheVariants.{Int, Bool as BoolShape, Char, Unit, Tuple, Array, Struct, Ref, Raw, Boxed, Cell, UnsafeCell, Slice}
use Rattle.tb_types.specs.Table.{TypeTable}

mutual
  pub data TypeTree : Type 0 where
    IntTree : IntKind → TypeTree
    BoolTree : TypeTree
    CharTree : TypeTree
    UnitTree : TypeTree
    TupleTree : TypeTrees → TypeTree
    ArrayTree : TypeTree → ℕ → TypeTree
    StructTree : ℕ → TypeTree
    RefTree : Bool → TypeTree → TypeTree
    RawTree : Bool → TypeTree → TypeTree
    BoxedTree : TypeTree → TypeTree
    CellTree : TypeTree → TypeTree
    UnsafeCellTree : TypeTree → TypeTree
    SliceTree : TypeTree → TypeTree

  pub data TypeTrees : Type 0 where
    NoTrees : TypeTrees
    MoreTrees : TypeTree → TypeTrees → TypeTrees

abbrev pub trees_by : (Ty → TypeTree) → List Ty → TypeTrees
trees_by tree [] = NoTrees
trees_by tree (part ∷ parts) = MoreTrees (tree part) (trees_by tree parts)

-- the tree of a shape, from those of the types that it names
abbrev pub tree_in : TyShape → (Ty → TypeTree) → TypeTree
tree_in (Int kind) tree = IntTree kind
tree_in BoolShape tree = BoolTree
tree_in Char tree = CharTree
tree_in Unit tree = UnitTree
tree_in (Tuple parts) tree = TupleTree (trees_by tree parts)
tree_in (Array part n) tree = ArrayTree (tree part) n
tree_in (Struct item) tree = StructTree item
tree_in (Ref mutable to) tree = RefTree mutable (tree to)
tree_in (Raw mutable to) tree = RawTree mutable (tree to)
tree_in (Boxed part) tree = BoxedTree (tree part)
tree_in (Cell part) tree = CellTree (tree part)
tree_in (UnsafeCell part) tree = UnsafeCellTree (tree part)
tree_in (Slice part) tree = SliceTree (tree part)

-- a number that is no type counts as `()`
abbrev pub tree_found : Option TyShape → (Ty → TypeTree) → TypeTree
tree_found None tree = UnitTree
tree_found (Some shape) tree = tree_in shape tree

-- going down so many times
unfoldable pub tree_at : List TyShape → ℕ → Ty → TypeTree
tree_at shapes zero ty = UnitTree
tree_at shapes (suc depth) ty = tree_found (slice_get shapes ty.0) (tree_at shapes depth)

-- the tree of a type; each type names types of lesser numbers alone
unfoldable pub tree_among : List TyShape → Ty → TypeTree
tree_among shapes ty = tree_at shapes (suc ty.0) ty

abbrev pub tree_of : TypeTable → Ty → TypeTree
tree_of types ty = tree_among types.shapes ty

-- two types, each of a table, that mean the same
abbrev pub IsSameType : TypeTable → Ty → TypeTable → Ty → Type 0
IsSameType one a other b = tree_of one a ≡ tree_of other b

-- `[T]` stands in the tree directly behind a reference or raw pointer alone
abbrev mutual
  pub is_plain : TypeTree → Bool
  is_plain (IntTree kind) = true
  is_plain BoolTree = true
  is_plain CharTree = true
  is_plain UnitTree = true
  is_plain (TupleTree parts) = are_plain parts
  is_plain (ArrayTree part n) = is_plain part
  is_plain (StructTree item) = true
  is_plain (RefTree mutable (SliceTree part)) = is_plain part
  is_plain (RefTree mutable to) = is_plain to
  is_plain (RawTree mutable (SliceTree part)) = is_plain part
  is_plain (RawTree mutable to) = is_plain to
  is_plain (BoxedTree part) = is_plain part
  is_plain (CellTree part) = is_plain part
  is_plain (UnsafeCellTree part) = is_plain part
  is_plain (SliceTree part) = false

  pub are_plain : TypeTrees → Bool
  are_plain NoTrees = true
  are_plain (MoreTrees part parts) = is_plain part && are_plain parts

-- a reference or raw pointer to it is plain
abbrev pub is_pointee : TypeTree → Bool
is_pointee (SliceTree part) = is_plain part
is_pointee to = is_plain to
