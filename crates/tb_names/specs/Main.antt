-- The function `main`: without parameters, type parameters and result.
use Rattle.std.specs.Prelude.{ℕ, Bool, true, false, ◌&&◌, if◌then◌else◌, List, [], ◌∷◌, Option, Some, None, is_none, codes}
use Rattle.std.specs.Str.{bytes_eq}
use Rattle.tb_perm.specs.declared.span.Span.{Span}
use Rattle.tb_ast.specs.declared.item.Item.{Item}
use Rattle.tb_ast.specs.declared.item.ItemKind.{ItemKind}
use Rattle.tb_ast.specs.declared.item.ItemKind.TheVariants as item
use Rattle.tb_ast.specs.declared.item.Function.{Function}
use Rattle.tb_ast.specs.declared.item.Tree.{Tree}
use Rattle.tb_names.specs.Names.{name_of}
use Rattle.tb_names.specs.Limits.{type_parameters_of}

abbrev pub is_empty : {A : Type 0} → List A → Bool
is_empty [] = true
is_empty (x ∷ xs) = false

-- neither parameters, type parameters nor a result
abbrev pub is_plain : Function → Bool
is_plain function = is_empty function.parameters && (is_empty (type_parameters_of function.generics) && is_none function.result)

-- where the function is named, unless it is plain
abbrev pub main_place : Function → Option Span
main_place function = if is_plain function then None else Some function.name.span

-- what an item says of `main`, before the rest of the file
abbrev pub main_by : ItemKind → Option Span → Option Span
main_by (item.Function function) rest = if bytes_eq (name_of function.name) (codes "main") then main_place function else rest
main_by kind rest = rest

-- the same of the first function called `main`; without one, nothing at the end of the text
abbrev pub main_in : ℕ → List Item → Option Span
main_in end [] = Some (record { lo = end; hi = end })
main_in end (one ∷ items) = main_by one.kind (main_in end items)

abbrev pub main_fault : Tree → Option Span
main_fault tree = main_in tree.end tree.items
