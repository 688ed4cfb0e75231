-- The names that a file gives to its structs and functions, in the order of the text.
use Rattle.std.specs.Prelude.{◌≡◌, ℕ, ◌+◌, if◌then◌else◌, List, [], ◌∷◌, ◌++◌, map, Option, Some, None}
use Rattle.std.specs.Str.{bytes_eq}
use Rattle.indexmap.specs.IndexMap.{IndexMap, get}
use Rattle.tb_ast.specs.declared.leaf.Ident.{Ident}
use Rattle.tb_ast.specs.declared.item.Item.{Item}
use Rattle.tb_ast.specs.declared.item.ItemKind.{ItemKind}
use Rattle.tb_ast.specs.declared.item.ItemKind.TheVariants as item
use Rattle.tb_names.specs.Names.{name_of}
use Rattle.tb_names.specs.Repeats.{foreign_names}
use Rattle.tb_lookup.specs.declared.file.Entry.{Entry}
use Rattle.tb_lookup.specs.declared.file.Counts.{Counts}
use Rattle.tb_lookup.specs.declared.file.Named.{Named}
use Rattle.tb_lookup.specs.declared.file.Named.TheVariants.{Struct, Function, Getchar}

abbrev pub entry : Ident → Named → Entry
entry ident named = record { name = name_of ident; named = named }

abbrev pub getchar_entry : Ident → Entry
getchar_entry ident = entry ident Getchar

-- the names that an item gives, where so many structs and functions have numbers
abbrev pub item_entries : Counts → ItemKind → List Entry
item_entries counts (item.Use use_item) = []
item_entries counts (item.Struct struct_item) = entry struct_item.name (Struct counts.structs) ∷ []
item_entries counts (item.Function function) = entry function.name (Function counts.functions) ∷ []
item_entries counts (item.Extern block) = map getchar_entry (foreign_names block.functions)

abbrev pub counted : Counts → ItemKind → Counts
counted counts (item.Struct struct_item) = record counts { structs = counts.structs + 1 }
counted counts (item.Function function) = record counts { functions = counts.functions + 1 }
counted counts kind = counts

abbrev pub entries_from : Counts → List Item → List Entry
entries_from counts [] = []
entries_from counts (one ∷ items) = item_entries counts one.kind ++ entries_from (counted counts one.kind) items

-- the structs of a file are counted from 1, its functions from 0
abbrev pub first_counts : Counts
first_counts = record { structs = 1; functions = 0 }

abbrev pub file_names : List Item → List Entry
file_names items = entries_from first_counts items

-- what a name stands for: the last entry has it
abbrev pub or_named : Option Named → Option Named → Option Named
or_named None other = other
or_named (Some named) other = Some named

abbrev pub named_in : List Entry → List ℕ → Option Named
named_in [] name = None
named_in (entry ∷ entries) name = or_named (named_in entries name) (if bytes_eq entry.name name then Some entry.named else None)

-- the map finds what the entries say
abbrev pub IsIndex : {S : Type 0} → List Entry → IndexMap (List ℕ) Named S → Type 0
IsIndex entries map = (name : List ℕ) → get bytes_eq map name ≡ named_in entries name
