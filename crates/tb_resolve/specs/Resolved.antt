-- What the names of a file mean, or its first fault.
use Rattle.std.specs.Prelude.{◌≡◌, ℕ, List, Option, Some, None, Result, Ok, Err, ⊤}
use Rattle.std.specs.Option.{option_map}
use Rattle.std.specs.List.{AllByRecursion}
use Rattle.tb_perm.specs.declared.span.Span.{Span}
use Rattle.tb_perm.specs.declared.code.Code.{Code}
use Rattle.tb_perm.specs.declared.code.Code.TheVariants.{NoMainFunction, UnknownName, NameGivenTwice, TypeHoldsItself, TooManyParts}
use Rattle.tb_types.specs.Table.{fields_at}
use Rattle.tb_ast.specs.declared.item.Item.{Item}
use Rattle.tb_ast.specs.declared.item.Struct.{Struct}
use Rattle.tb_ast.specs.declared.item.Tree.{Tree}
use Rattle.tb_names.specs.Names.{first_of}
use Rattle.tb_names.specs.Limits.{limit_faults}
use Rattle.tb_names.specs.Repeats.{repeat_faults}
use Rattle.tb_names.specs.Main.{main_fault}
use Rattle.tb_order.specs.Graph.{Graph}
use Rattle.tb_order.specs.Answer.{HasNoCircle}
use Rattle.tb_lookup.specs.Files.{file_names}
use Rattle.tb_structs.specs.Structs.{with_items, layout_types, declared_items}
use Rattle.tb_fields.specs.Fields.{structs_of, struct_at, struct_graph, told_fields, IsFirstCircle}
use Rattle.tb_fields.specs.Defined.{Grows, HasFields}
use Rattle.tb_signatures.specs.Signatures.{IsTyped, told_signatures, signatures_in}
use Rattle.tb_resolve.specs.declared.error.NameError.{NameError}
use Rattle.tb_resolve.specs.declared.error.NameError.TheVariants.{Refused, Memory}
use Rattle.tb_resolve.specs.declared.names.Names.{Names}
use Rattle.tb_resolve.specs.Meanings.{meanings_in, unknown_faults, AreMeant, told_lists}

-- a fault: its code, and where it stands
pub record Fault : Type 0 where
  pub code : Code
  pub span : Span

abbrev pub fault : Code → Span → Fault
fault code span = record { code = code; span = span }

-- the first of faults of one code, if there is one
abbrev pub coded : Code → Option Span → Option Fault
coded code found = option_map (fault code) found

abbrev pub or_fault : Option Fault → Option Fault → Option Fault
or_fault None other = other
or_fault (Some first) other = Some first

-- a limit that is passed, and else a name that is given twice
abbrev pub given_fault : List Item → Option Fault
given_fault items = or_fault (coded TooManyParts (first_of (limit_faults items))) (coded NameGivenTwice (first_of (repeat_faults items)))

-- and else a name that is unknown
abbrev pub early_fault : List Item → Option Fault
early_fault items = or_fault (given_fault items) (coded UnknownName (first_of (unknown_faults items)))

-- which struct of the file holds which
abbrev pub graph_in : List Item → Graph
graph_in items = struct_graph (file_names items) (structs_of items)

-- The first fault of a file: then come structs that hold themselves, and then `main`.
pub data IsRefused (tree : Tree) : Fault → Type 0 where
  Early : (found : Fault) → early_fault tree.items ≡ Some found → IsRefused tree found
  Circle : (span : Span) → early_fault tree.items ≡ None → IsFirstCircle (file_names tree.items) (structs_of tree.items) span → IsRefused tree (fault TypeHoldsItself span)
  Main : (span : Span) → early_fault tree.items ≡ None → HasNoCircle (graph_in tree.items) → main_fault tree ≡ Some span → IsRefused tree (fault NoMainFunction span)

-- a file without a fault
pub record IsAccepted (tree : Tree) : Type 0 where
  pub early : early_fault tree.items ≡ None
  pub circle : HasNoCircle (graph_in tree.items)
  pub main : main_fault tree ≡ None

-- Its structs are `Layout` and those of the file, with their names, and Copy where they derive it; they have the fields that are written. The mentions mean what they mean among the names of the file.
pub record AreNames (items : List Item) (names : Names) : Type 0 where
  pub structs : Grows (with_items layout_types (declared_items items)) names.types
  pub fields : (number : ℕ) (one : Struct) → struct_at (structs_of items) number ≡ Some one → HasFields (file_names items) names.types number one
  pub meant : AllByRecursion (AreMeant names.types) names.meanings.items
  pub means : told_lists names.types names.meanings.items ≡ meanings_in (file_names items) items
  pub typed : AllByRecursion (IsTyped names.types) names.functions.items
  pub functions : told_signatures names.types names.functions.items ≡ signatures_in (file_names items) items

-- the answer of a file
abbrev pub Resolves : Tree → Result Names NameError → Type 0
Resolves tree (Ok names) = IsAccepted tree × AreNames tree.items names
Resolves tree (Err (Refused code span)) = IsRefused tree (fault code span)
Resolves tree (Err Memory) = ⊤

-- names of a file that mean the same
pub record MeanSame (items : List Item) (one other : Names) : Type 0 where
  pub fields : (number : ℕ) (struct_item : Struct) → struct_at (structs_of items) number ≡ Some struct_item → option_map (told_fields one.types) (fields_at one.types number) ≡ option_map (told_fields other.types) (fields_at other.types number)
  pub meanings : told_lists one.types one.meanings.items ≡ told_lists other.types other.meanings.items
  pub functions : told_signatures one.types one.functions.items ≡ told_signatures other.types other.functions.items

-- no such fault, and this; or it
abbrev pub Passes : {A : Type 0} → Result A NameError → Option Fault → (A → Type 0) → Type 0
Passes (Ok x) found P = (found ≡ None) × P x
Passes (Err (Refused code span)) found P = found ≡ Some (fault code span)
Passes (Err Memory) found P = ⊤

-- no struct holds itself, and this; or the first that does
abbrev pub PassesCircle : {A : Type 0} → Result A NameError → List Item → Type 0 → Type 0
PassesCircle (Ok x) items P = HasNoCircle (graph_in items) × P
PassesCircle (Err (Refused code span)) items P = (code ≡ TypeHoldsItself) × IsFirstCircle (file_names items) (structs_of items) span
PassesCircle (Err Memory) items P = ⊤
