-- The structs that are declared for a file: `Layout` first, and then those of the file.
use Rattle.std.specs.Prelude.{ℕ, Bool, true, false, if◌then◌else◌, List, [], ◌∷◌, ◌++◌, Option, Some, None, codes}
use Rattle.std.specs.List.{list_any}
use Rattle.std.specs.Str.{bytes_eq, is_utf8}
use Rattle.tb_ast.specs.declared.leaf.Ident.{Ident}
use Rattle.tb_ast.specs.declared.item.Attribute.{Attribute}
use Rattle.tb_ast.specs.declared.item.Meta.{Meta}
use Rattle.tb_ast.specs.declared.item.Meta.TheVariants as meta
use Rattle.tb_ast.specs.declared.item.Item.{Item}
use Rattle.tb_ast.specs.declared.item.ItemKind.{ItemKind}
use Rattle.tb_ast.specs.declared.item.ItemKind.TheVariants as item
use Rattle.tb_names.specs.Names.{name_of}
use Rattle.tb_types.specs.declared.item.Item.{Item as TypeItem}
use Rattle.tb_types.specs.declared.item.Field.{Field}
use Rattle.tb_types.specs.declared.shape.Ty.{Ty}
use Rattle.tb_types.specs.declared.shape.TyShape.TheVariants.{Int}
use Rattle.tb_types.specs.declared.shape.IntKind.TheVariants.{Usize}
use Rattle.tb_types.specs.Table.{TypeTable}

-- the name as a text; bytes that are none, which no source has, count as the empty text
abbrev pub shown : List ℕ → List ℕ
shown name = if is_utf8 name then name else []

-- a struct is Copy where it derives it (Rust Reference, "Derive")
abbrev pub names_copy : List Ident → Bool
names_copy idents = list_any (λ (ident : Ident). bytes_eq (name_of ident) (codes "Copy")) idents

abbrev pub meta_copies : Meta → Bool
meta_copies (meta.Derive list) = names_copy list.names
meta_copies (meta.Allow list) = false
meta_copies (meta.Repr repr) = false

abbrev pub derives_copy : List Attribute → Bool
derives_copy attributes = list_any (λ (attribute : Attribute). meta_copies attribute.meta) attributes

-- the struct of an item, before it has fields
abbrev pub items_by : Bool → ItemKind → List TypeItem
items_by copy (item.Struct struct_item) = record { name = shown (name_of struct_item.name); copy = copy; fields = None } ∷ []
items_by copy kind = []

abbrev pub declared_by : Item → List TypeItem
declared_by one = items_by (derives_copy one.attributes) one.kind

abbrev pub declared_items : List Item → List TypeItem
declared_items [] = []
declared_items (one ∷ items) = declared_by one ++ declared_items items

abbrev pub with_items : TypeTable → List TypeItem → TypeTable
with_items types items = record types { items = types.items ++ items }

-- `Layout` is Copy, and has a size and an alignment, which no program can name
abbrev pub nameless : Ty → Field
nameless ty = record { name = []; ty = ty }

abbrev pub layout_fields : Ty → List Field
layout_fields ty = nameless ty ∷ nameless ty ∷ []

abbrev pub layout_types : TypeTable
layout_types = record { shapes = Int Usize ∷ []; items = record { name = codes "Layout"; copy = true; fields = Some (layout_fields (record { 0 = 0 })) } ∷ [] }
