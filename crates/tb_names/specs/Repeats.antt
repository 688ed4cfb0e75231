-- Names that are given twice: items among themselves and with the built-in ones, the fields of a struct, the parameters and the type parameters of a function.
use Rattle.std.specs.Prelude.{ℕ, if◌then◌else◌, List, [], ◌∷◌, ◌++◌, map, codes}
use Rattle.std.specs.Str.{bytes_eq}
use Rattle.tb_perm.specs.declared.span.Span.{Span}
use Rattle.tb_ast.specs.declared.leaf.Ident.{Ident}
use Rattle.tb_ast.specs.declared.item.Item.{Item}
use Rattle.tb_ast.specs.declared.item.ItemKind.{ItemKind}
use Rattle.tb_ast.specs.declared.item.ItemKind.TheVariants as item
use Rattle.tb_ast.specs.declared.item.Field.{Field}
use Rattle.tb_ast.specs.declared.item.Parameter.{Parameter}
use Rattle.tb_ast.specs.declared.item.ForeignFunction.{ForeignFunction}
use Rattle.tb_names.specs.Names.{name_of, names_of, is_among}
use Rattle.tb_names.specs.Limits.{type_parameters_of}

-- the names that no item may have, since they are built in
abbrev pub built_in : List (List ℕ)
built_in = codes "drop" ∷ codes "size_of" ∷ codes "align_of" ∷ codes "Box" ∷ codes "Cell" ∷ codes "UnsafeCell" ∷ codes "i8" ∷ codes "i16" ∷ codes "i32" ∷ codes "i64" ∷ codes "isize" ∷ codes "u8" ∷ codes "u16" ∷ codes "u32" ∷ codes "u64" ∷ codes "usize" ∷ codes "bool" ∷ codes "char" ∷ []

-- the names, with one more that is not among them yet
abbrev pub with_name : List (List ℕ) → List ℕ → List (List ℕ)
with_name names name = if is_among names name then names else names ++ name ∷ []

abbrev pub with_all : List (List ℕ) → List (List ℕ) → List (List ℕ)
with_all names [] = names
with_all names (name ∷ more) = with_all (with_name names name) more

abbrev pub with_names : List (List ℕ) → List Ident → List (List ℕ)
with_names names idents = with_all names (names_of idents)

-- those that have a name that stands before: among these names, or earlier in the list
abbrev pub repeats : List (List ℕ) → List Ident → List Span
repeats names [] = []
repeats names (ident ∷ idents) = if is_among names (name_of ident) then ident.span ∷ repeats names idents else repeats (names ++ name_of ident ∷ []) idents

abbrev pub field_names : List Field → List Ident
field_names fields = map (λ (field : Field). field.name) fields

abbrev pub parameter_names : List Parameter → List Ident
parameter_names parameters = map (λ (parameter : Parameter). parameter.name) parameters

-- of the functions outside only `getchar` is known
abbrev pub foreign_names : List ForeignFunction → List Ident
foreign_names [] = []
foreign_names (function ∷ functions) = if bytes_eq (name_of function.name) (codes "getchar") then function.name ∷ foreign_names functions else foreign_names functions

-- the names that an item gives in the file
abbrev pub given_names : ItemKind → List Ident
given_names (item.Use use_item) = []
given_names (item.Struct struct_item) = struct_item.name ∷ []
given_names (item.Function function) = function.name ∷ []
given_names (item.Extern block) = foreign_names block.functions

-- the repeats among the names within an item
abbrev pub inner_repeats : ItemKind → List Span
inner_repeats (item.Struct struct_item) = repeats [] (field_names struct_item.fields)
inner_repeats (item.Function function) = repeats [] (type_parameters_of function.generics) ++ repeats [] (parameter_names function.parameters)
inner_repeats kind = []

-- the repeats in items, behind others that gave these names
abbrev pub repeats_from : List (List ℕ) → List Item → List Span
repeats_from names [] = []
repeats_from names (item ∷ items) = repeats names (given_names item.kind) ++ (inner_repeats item.kind ++ repeats_from (with_names names (given_names item.kind)) items)

abbrev pub repeat_faults : List Item → List Span
repeat_faults items = repeats_from built_in items
