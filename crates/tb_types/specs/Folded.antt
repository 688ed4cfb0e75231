-- Going over a type: its value by its shape and by the values of what lies in it, other than behind a reference or raw pointer.
use Rattle.std.specs.Prelude.{ℕ, suc, zero, ◌*◌, ◌^◌, Bool, true, ◌&&◌, List, [], ◌∷◌, length, map, Option, Some, None, is_some, slice_get, ◌==◌, if◌then◌else◌}
use Rattle.std.specs.List.{list_all}
use Rattle.tb_types.specs.declared.shape.Ty.{Ty}
use Rattle.tb_types.specs.declared.shape.TyShape.{TyShape}
use Rattle.tb_types.specs.declared.shape.TyShape.TheVariants.{Unit, Tuple, Array, Struct, Boxed, Cell, UnsafeCell, Slice}
use Rattle.tb_types.specs.declared.item.Field.{Field}
use Rattle.tb_types.specs.declared.item.Item.{Item}
use Rattle.tb_types.specs.Table.{TypeTable, shape_at, fields_of}
use Rattle.tb_types.specs.Trees.{TypeTree, tree_in, tree_of}

-- a type's shape, the struct that it names, the types of what lies in it directly, and its tree
pub record Node : Type 0 where
  pub shape : TyShape
  pub item : Option Item
  pub parts : List Ty
  pub tree : TypeTree

abbrev pub types_in : List Field → List Ty
types_in fields = map (λ (field : Field). field.ty) fields

abbrev pub types_of : Option (List Field) → List Ty
types_of None = []
types_of (Some fields) = types_in fields

abbrev pub parts_in : TyShape → Option Item → List Ty
parts_in (Tuple parts) item = parts
parts_in (Array part n) item = part ∷ []
parts_in (Struct number) item = types_of (fields_of item)
parts_in (Boxed part) item = part ∷ []
parts_in (Cell part) item = part ∷ []
parts_in (UnsafeCell part) item = part ∷ []
parts_in (Slice part) item = part ∷ []
parts_in shape item = []

abbrev pub item_in : List Item → TyShape → Option Item
item_in items (Struct number) = slice_get items number
item_in items shape = None

abbrev pub node_in : TypeTable → TyShape → Node
node_in types shape = record { shape = shape; item = item_in types.items shape; parts = parts_in shape (item_in types.items shape); tree = tree_in shape (tree_of types) }

-- a number that is no type counts as `()`
abbrev pub node_by : TypeTable → Option TyShape → Node
node_by types None = node_in types Unit
node_by types (Some shape) = node_in types shape

abbrev pub node_of : TypeTable → Ty → Node
node_of types ty = node_by types (shape_at types ty)

-- going down as deep as the number says
unfoldable pub folded_at : {A : Type 0} → (Node → List A → A) → TypeTable → ℕ → Ty → A
folded_at step types zero ty = step (node_of types ty) []
folded_at step types (suc depth) ty = step (node_of types ty) (map (folded_at step types depth) (node_of types ty).parts)

-- how many structs are defined
abbrev pub defined_in : List Item → ℕ
defined_in [] = 0
defined_in (item ∷ items) = if is_some item.fields then suc (defined_in items) else defined_in items

-- No type goes deeper: a struct lies in no other that was defined before it, so a definition at most triples the depth.
unfoldable pub depth_of : TypeTable → ℕ
depth_of types = 3 ^ defined_in types.items * length types.shapes

-- the value of a type
unfoldable pub folded : {A : Type 0} → (Node → List A → A) → TypeTable → Ty → A
folded step types ty = folded_at step types (depth_of types) ty

-- nothing is left below
abbrev pub fits_by : Node → List Bool → Bool
fits_by node below = (length node.parts == length below) && list_all (λ b. b) below

-- each struct in it is defined
abbrev pub is_known : TyShape → Option Item → Bool
is_known (Struct number) item = is_some (fields_of item)
is_known shape item = true
