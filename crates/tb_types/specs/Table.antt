-- Types as contracts see them: the shapes, each at the number of its type, and the declared structs, each at its number.
use Rattle.std.specs.Prelude.{◌≡◌, ℕ, ◌<◌, Bool, List, [], ◌∷◌, ◌++◌, length, Option, Some, None, is_some, slice_get, slice_set, if◌then◌else◌}
use Rattle.std.specs.List.{AllByRecursion, list_any, position_or_len}
use Rattle.tb_types.specs.declared.shape.Ty.{Ty}
use Rattle.tb_types.specs.declared.shape.TyShape.{TyShape}
use Rattle.tb_types.specs.declared.shape.TyShape.TheVariants.{Tuple, Array, Struct, Ref, Raw, Boxed, Cell, UnsafeCell, Slice}
use Rattle.tb_types.specs.declared.item.Field.{Field}
use Rattle.tb_types.specs.declared.item.Item.{Item}
use Rattle.tb_types.specs.Shapes.{shape_eq}

pub record TypeTable : Type 0 where
  pub shapes : List TyShape
  pub items : List Item

-- the number is one of a type, and of a declared struct
abbrev pub IsType : TypeTable → Ty → Type 0
IsType types ty = ty.0 < length types.shapes

abbrev pub IsDeclared : TypeTable → ℕ → Type 0
IsDeclared types item = item < length types.items

-- the shape of a type, and a declared struct
abbrev pub shape_at : TypeTable → Ty → Option TyShape
shape_at types ty = slice_get types.shapes ty.0

abbrev pub item_at : TypeTable → ℕ → Option Item
item_at types item = slice_get types.items item

-- the fields of a struct that may be declared; none before it is defined
abbrev pub fields_of : Option Item → Option (List Field)
fields_of None = None
fields_of (Some item) = item.fields

abbrev pub fields_at : TypeTable → ℕ → Option (List Field)
fields_at types item = fields_of (item_at types item)

abbrev pub is_defined : TypeTable → ℕ → Bool
is_defined types item = is_some (fields_at types item)

-- the types that a shape names
abbrev pub named_in : TyShape → List Ty
named_in (Tuple parts) = parts
named_in (Array part n) = part ∷ []
named_in (Ref mutable to) = to ∷ []
named_in (Raw mutable to) = to ∷ []
named_in (Boxed part) = part ∷ []
named_in (Cell part) = part ∷ []
named_in (UnsafeCell part) = part ∷ []
named_in (Slice part) = part ∷ []
named_in shape = []

-- each shape names types of lesser numbers
abbrev pub AreNamed : List TyShape → Type 0
AreNamed shapes = (ty : Ty) (shape : TyShape) → slice_get shapes ty.0 ≡ Some shape → AllByRecursion (λ (part : Ty). part.0 < ty.0) (named_in shape)

-- the number of the struct that a shape names
abbrev pub item_named : TyShape → Option ℕ
item_named (Struct item) = Some item
item_named shape = None

-- the shapes with one more, at the end unless it is there, and its place among them
abbrev pub with_shape : TypeTable → TyShape → TypeTable
with_shape types shape = record types { shapes = if list_any (shape_eq shape) types.shapes then types.shapes else types.shapes ++ shape ∷ [] }

abbrev pub place_of : TypeTable → TyShape → Ty
place_of types shape = record { 0 = position_or_len (shape_eq shape) types.shapes }

-- one more struct, without fields yet
abbrev pub with_item : TypeTable → List ℕ → Bool → TypeTable
with_item types name copy = record types { items = types.items ++ record { name = name; copy = copy; fields = None } ∷ [] }

-- the struct with these fields
abbrev pub defining : TypeTable → ℕ → List Field → Option Item → TypeTable
defining types number fields None = types
defining types number fields (Some item) = record types { items = slice_set types.items number (record item { fields = Some fields }) }

abbrev pub with_fields : TypeTable → ℕ → List Field → TypeTable
with_fields types number fields = defining types number fields (item_at types number)

-- the struct keeps its name and whether it is Copy, and its fields once it has them
pub record IsKept (old new : Item) : Type 0 where
  pub name : new.name ≡ old.name
  pub copy : new.copy ≡ old.copy
  pub fields : (fields : List Field) → old.fields ≡ Some fields → new.fields ≡ Some fields

-- what a number means in the old types it means in the new ones
pub record Extends (old new : TypeTable) : Type 0 where
  pub shapes : (ty : Ty) (shape : TyShape) → shape_at old ty ≡ Some shape → shape_at new ty ≡ Some shape
  pub items : (number : ℕ) (item : Item) → item_at old number ≡ Some item → (now : Item) × (item_at new number ≡ Some now) × IsKept item now
