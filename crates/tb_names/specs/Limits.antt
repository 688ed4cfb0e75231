-- The limits of a file: 4,096 items; for each item 256 fields, 64 parameters, 12 type parameters, and 12 parts of a tuple or its type.
use Rattle.std.specs.Prelude.{ℕ, ◌+◌, Bool, false, ◌||◌, nat_lt, nat_le, if◌then◌else◌, List, [], ◌∷◌, length, Option, Some, None}
use Rattle.std.specs.List.{list_any}
use Rattle.tb_perm.specs.declared.span.Span.{Span}
use Rattle.tb_ast.specs.declared.leaf.Ident.{Ident}
use Rattle.tb_ast.specs.declared.item.Item.{Item}
use Rattle.tb_ast.specs.declared.item.ItemKind.{ItemKind}
use Rattle.tb_ast.specs.declared.item.ItemKind.TheVariants as item
use Rattle.tb_ast.specs.declared.item.Generics.{Generics}
use Rattle.tb_ast.specs.declared.item.GenericParameter.{GenericParameter}
use Rattle.tb_ast.specs.declared.item.GenericParameter.TheVariants as generic
use Rattle.tb_outline.specs.Outlines.{StepOf, item_outline}

-- a tuple or its type of more than twelve parts
abbrev pub is_wide : StepOf → Bool
is_wide (StepOf.Parted count) = nat_lt 12 count
is_wide step = false

-- the type parameters; lifetimes are none
abbrev pub type_parameters : List GenericParameter → List Ident
type_parameters [] = []
type_parameters (generic.Lifetime name ∷ parameters) = type_parameters parameters
type_parameters (generic.Named name bounds ∷ parameters) = name ∷ type_parameters parameters

abbrev pub type_parameters_of : Option Generics → List Ident
type_parameters_of None = []
type_parameters_of (Some generics) = type_parameters generics.parameters

-- too many fields; too many parameters or type parameters
abbrev pub is_long : ItemKind → Bool
is_long (item.Struct struct_item) = nat_lt 256 (length struct_item.fields)
is_long (item.Function function) = nat_lt 64 (length function.parameters) || nat_lt 12 (length (type_parameters_of function.generics))
is_long kind = false

abbrev pub passes_limit : Item → Bool
passes_limit item = is_long item.kind || list_any is_wide (item_outline item)

-- where an item is named: by its name, or by its first word
abbrev pub item_place : ItemKind → Span
item_place (item.Use use_item) = use_item.use_keyword
item_place (item.Struct struct_item) = struct_item.name.span
item_place (item.Function function) = function.name.span
item_place (item.Extern block) = block.extern_keyword

-- the items that pass a limit, in the order of the text; the first has this number, from 0
abbrev pub limits_from : ℕ → List Item → List Span
limits_from number [] = []
limits_from number (item ∷ items) = if nat_le 4096 number || passes_limit item then item_place item.kind ∷ limits_from (number + 1) items else limits_from (number + 1) items

abbrev pub limit_faults : List Item → List Span
limit_faults items = limits_from 0 items
