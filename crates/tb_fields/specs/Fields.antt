-- The structs of a file, the fields that they are to have, and which structs hold which.
use Rattle.std.specs.Prelude.{◌≡◌, ℕ, suc, zero, List, [], ◌∷◌, ◌++◌, map, Option, Some, None, slice_get}
use Rattle.std.specs.Option.{option_map}
use Rattle.std.specs.Borrow.{Bor}
use Rattle.tb_perm.specs.declared.span.Span.{Span}
use Rattle.tb_types.specs.Table.{TypeTable}
use Rattle.tb_types.specs.Trees.{TypeTree, UnitTree, tree_of}
use Rattle.tb_types.specs.declared.item.Field.{Field as TypeField}
use Rattle.tb_ast.specs.declared.item.Item.{Item}
use Rattle.tb_ast.specs.declared.item.ItemKind.{ItemKind}
use Rattle.tb_ast.specs.declared.item.ItemKind.TheVariants as item
use Rattle.tb_ast.specs.declared.item.Struct.{Struct}
use Rattle.tb_ast.specs.declared.item.Field.{Field}
use Rattle.tb_names.specs.Names.{name_of}
use Rattle.tb_order.specs.Graph.{Graph}
use Rattle.tb_order.specs.Answer.{IsLeastCircle}
use Rattle.tb_lookup.specs.declared.file.Entry.{Entry}
use Rattle.tb_written.specs.Written.{Tree, written}
use Rattle.tb_structs.specs.Structs.{shown}
use Rattle.tb_fields.specs.Held.{structs_in}

-- the structs in the order of the text
abbrev pub structs_by : ItemKind → List Struct
structs_by (item.Struct struct_item) = struct_item ∷ []
structs_by kind = []

abbrev pub structs_of : List Item → List Struct
structs_of [] = []
structs_of (one ∷ items) = structs_by one.kind ++ structs_of items

-- the structs that are lent
abbrev pub told_structs : List (Bor Struct) → List Struct
told_structs structs = map (λ (one : Bor Struct). one.now) structs

-- the struct of a number: 0 is `Layout`, and those of the file are counted from 1
abbrev pub struct_at : List Struct → ℕ → Option Struct
struct_at structs zero = None
struct_at structs (suc number) = slice_get structs number

-- a field: its name, and the tree of its type
pub record FieldOf : Type 0 where
  pub name : List ℕ
  pub tree : TypeTree

abbrev pub told_field : TypeTable → TypeField → FieldOf
told_field types field = record { name = field.name; tree = tree_of types field.ty }

abbrev pub told_fields : TypeTable → List TypeField → List FieldOf
told_fields types fields = map (told_field types) fields

-- A struct has no type parameters, on which the type of a field could depend; one that did would count as `()`.
abbrev pub or_unit : Tree → TypeTree
or_unit None = UnitTree
or_unit (Some tree) = tree

-- the structs that lie in fields
abbrev pub held_in : List FieldOf → List ℕ
held_in [] = []
held_in (field ∷ fields) = structs_in field.tree ++ held_in fields

module _ (file : List Entry) where
  abbrev pub written_field : Field → FieldOf
  written_field field = record { name = shown (name_of field.name); tree = or_unit (written file [] field.ty) }

  abbrev pub written_fields : List Field → List FieldOf
  written_fields fields = map written_field fields

  abbrev pub held_by : Struct → List ℕ
  held_by one = held_in (written_fields one.fields)

  -- which structs each holds, by their numbers; `Layout` holds none
  abbrev pub struct_graph : List Struct → Graph
  struct_graph structs = [] ∷ map held_by structs

  -- the name of the first struct that holds itself, as a whole or in parts
  pub record IsFirstCircle (structs : List Struct) (span : Span) : Type 0 where
    pub number : ℕ
    pub least : IsLeastCircle (struct_graph structs) number
    pub place : option_map (λ (one : Struct). one.name.span) (struct_at structs number) ≡ Some span
