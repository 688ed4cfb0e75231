-- A table of types in which the structs of a file get their fields.
use Rattle.std.specs.Prelude.{◌≡◌, ℕ, true, false, List, ◌++◌, length, Option, Some, None, Result, Ok, Err, ⊤}
use Rattle.std.specs.Option.{option_map}
use Rattle.std.specs.List.{AllByRecursion}
use Rattle.std.specs.declared.vec.Vec.{Vec}
use Rattle.std.specs.declared.alloc.Global.{Global}
use Rattle.tb_types.specs.declared.shape.Ty.{Ty}
use Rattle.tb_types.specs.declared.item.Field.{Field as TypeField}
use Rattle.tb_types.specs.declared.item.Item.{Item as TypeItem}
use Rattle.tb_types.specs.Table.{TypeTable, IsType, IsDeclared, item_at, fields_at, is_defined, IsKept}
use Rattle.tb_types.specs.Trees.{TypeTree, tree_of}
use Rattle.tb_ast.specs.declared.item.Item.{Item}
use Rattle.tb_ast.specs.declared.item.Struct.{Struct}
use Rattle.tb_lookup.specs.declared.file.Entry.{Entry}
use Rattle.tb_written.specs.Kept.{Keeps}
use Rattle.tb_structs.specs.Structs.{declared_items, layout_types, with_items}
use Rattle.tb_order.specs.Graph.{Graph, graph_of, is_among}
use Rattle.tb_order.specs.Answer.{HasNoCircle}
use Rattle.tb_fields.specs.declared.error.FieldError.{FieldError}
use Rattle.tb_fields.specs.declared.error.FieldError.TheVariants.{HoldsItself, Memory}
use Rattle.tb_fields.specs.Fields.{FieldOf, told_fields, struct_at, written_fields, held_by, struct_graph, IsFirstCircle}

-- a type means what it meant, and a struct keeps its name, whether it is Copy, and its fields once it has them
pub record Grows (old new : TypeTable) : Type 0 where
  pub types : (ty : Ty) → IsType old ty → IsType new ty
  pub trees : (ty : Ty) → IsType old ty → tree_of new ty ≡ tree_of old ty
  pub items : (number : ℕ) (item : TypeItem) → item_at old number ≡ Some item → (now : TypeItem) × (item_at new number ≡ Some now) × IsKept item now

-- the type of a field
pub record IsMade (old new : TypeTable) (ty : Ty) (tree : TypeTree) : Type 0 where
  pub kept : Keeps old new
  pub is_type : IsType new ty
  pub means : tree_of new ty ≡ tree

abbrev pub AreTyped : TypeTable → List TypeField → Type 0
AreTyped types fields = AllByRecursion (λ (field : TypeField). IsType types field.ty) fields

-- fields, and then these
pub record AreMade (old new : TypeTable) (before after : List TypeField) (more : List FieldOf) : Type 0 where
  pub kept : Keeps old new
  pub typed : AreTyped new after
  pub mean : told_fields new after ≡ told_fields old before ++ more

-- the fields so far, and those that are still to come, are all of these
pub record AreMadeBefore (old new : TypeTable) (fields : List TypeField) (rest all : List FieldOf) : Type 0 where
  pub kept : Keeps old new
  pub typed : AreTyped new fields
  pub mean : told_fields new fields ++ rest ≡ all

-- the structs that lie in a struct, each a declared one
pub record IsRow (old new : TypeTable) (row held : List ℕ) : Type 0 where
  pub kept : Keeps old new
  pub is : row ≡ held
  pub below : AllByRecursion (IsDeclared new) row

abbrev pub AreBelow : TypeTable → List (Vec ℕ Global) → Type 0
AreBelow types rows = AllByRecursion (λ (row : Vec ℕ Global). AllByRecursion (IsDeclared types) row.items) rows

-- rows of a graph, and then these
pub record AreRows (old new : TypeTable) (before after : List (Vec ℕ Global)) (more : Graph) : Type 0 where
  pub kept : Keeps old new
  pub below : AreBelow new after
  pub are : graph_of after ≡ graph_of before ++ more

-- the rows so far, and those that are still to come, are all of these
pub record AreRowsBefore (old new : TypeTable) (rows : List (Vec ℕ Global)) (rest all : Graph) : Type 0 where
  pub kept : Keeps old new
  pub below : AreBelow new rows
  pub are : graph_of rows ++ rest ≡ all

-- each of these structs is defined
abbrev pub AreHeld : TypeTable → List ℕ → Type 0
AreHeld types numbers = AllByRecursion (λ number. is_defined types number ≡ true) numbers

-- the struct of this number has the fields that are written
abbrev pub HasFields : List Entry → TypeTable → ℕ → Struct → Type 0
HasFields file types number one = option_map (told_fields types) (fields_at types number) ≡ Some (written_fields file one.fields)

-- one struct gets its fields, and all else stays
pub record Defines (file : List Entry) (old new : TypeTable) (number : ℕ) (one : Struct) : Type 0 where
  pub grows : Grows old new
  pub count : length new.items ≡ length old.items
  pub fields : HasFields file new number one
  pub others : (other : ℕ) → (other ≡ number → ⊥) → fields_at new other ≡ fields_at old other

-- a struct that has no fields yet, and may get them
abbrev pub IsReady : List Entry → TypeTable → ℕ → Option Struct → Type 0
IsReady file types number None = ⊤
IsReady file types number (Some one) = (fields_at types number ≡ None) × AreHeld types (held_by file one)

-- and gets them
abbrev pub DefinesIf : List Entry → TypeTable → TypeTable → ℕ → Option Struct → Type 0
DefinesIf file old new number None = new ≡ old
DefinesIf file old new number (Some one) = Defines file old new number one

-- the structs of these numbers have their fields, and the others have none yet
pub record AreDefined (file : List Entry) (start types : TypeTable) (structs : List Struct) (done : List ℕ) : Type 0 where
  pub grows : Grows start types
  pub count : length types.items ≡ length start.items
  pub layout : is_defined types 0 ≡ true
  pub held : (number : ℕ) → is_among number done ≡ true → is_defined types number ≡ true
  pub fields : (number : ℕ) (one : Struct) → is_among number done ≡ true → struct_at structs number ≡ Some one → HasFields file types number one
  pub blank : (number : ℕ) (one : Struct) → is_among number done ≡ false → struct_at structs number ≡ Some one → fields_at types number ≡ None

-- the structs of a file are declared, after `Layout`
abbrev pub AreBlank : TypeTable → List Item → Type 0
AreBlank types items = types.items ≡ (with_items layout_types (declared_items items)).items

-- every struct of a file has its fields
pub record HaveFields (file : List Entry) (old new : TypeTable) (structs : List Struct) : Type 0 where
  pub grows : Grows old new
  pub fields : (number : ℕ) (one : Struct) → struct_at structs number ≡ Some one → HasFields file new number one

-- no struct holds itself, and this holds; or the name of the first that does
abbrev pub Completes : {A : Type 0} → List Entry → List Struct → Result A FieldError → Type 0 → Type 0
Completes file structs (Ok x) P = HasNoCircle (struct_graph file structs) × P
Completes file structs (Err (HoldsItself span)) P = IsFirstCircle file structs span
Completes file structs (Err Memory) P = ⊤
