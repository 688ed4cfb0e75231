-- The heads of the functions of a file, in the order of the text.
use Rattle.std.specs.Prelude.{◌≡◌, ℕ, Bool, List, [], ◌∷◌, ◌++◌, length, map, Option, Some, None, is_some}
use Rattle.std.specs.List.{AllByRecursion}
use Rattle.tb_types.specs.Table.{TypeTable}
use Rattle.tb_types.specs.Trees.{UnitTree}
use Rattle.tb_ast.specs.declared.item.Item.{Item}
use Rattle.tb_ast.specs.declared.item.ItemKind.{ItemKind}
use Rattle.tb_ast.specs.declared.item.ItemKind.TheVariants as item
use Rattle.tb_ast.specs.declared.item.Function.{Function}
use Rattle.tb_ast.specs.declared.item.Parameter.{Parameter}
use Rattle.tb_ast.specs.declared.item.ResultType.{ResultType}
use Rattle.tb_names.specs.Names.{name_of, names_of}
use Rattle.tb_names.specs.Limits.{type_parameters_of}
use Rattle.tb_lookup.specs.declared.file.Entry.{Entry}
use Rattle.tb_lookup.specs.Paths.{Words}
use Rattle.tb_written.specs.Written.{Tree, written}
use Rattle.tb_written.specs.Kept.{Keeps, IsTypeIf, tree_if, trees_if}
use Rattle.tb_signatures.specs.declared.signature.Signature.{Signature}

-- a function's name, the types of its parameters and of its result, whether calls need `unsafe`, and how many type parameters it has; a type is none where it depends on one
pub record SignatureOf : Type 0 where
  pub name : List ℕ
  pub parameters : List Tree
  pub output : Tree
  pub needs_unsafe : Bool
  pub generic_count : ℕ

abbrev pub told_signature : TypeTable → Signature → SignatureOf
told_signature types signature = record { name = signature.name; parameters = trees_if types signature.parameters; output = tree_if types signature.output; needs_unsafe = signature.needs_unsafe; generic_count = signature.generic_count }

abbrev pub told_signatures : TypeTable → List Signature → List SignatureOf
told_signatures types list = map (told_signature types) list

-- its types are of the table
pub record IsTyped (types : TypeTable) (signature : Signature) : Type 0 where
  pub parameters : AllByRecursion (IsTypeIf types) signature.parameters
  pub output : IsTypeIf types signature.output

module _ (file : List Entry) where
  module _ (parameters : Words) where
    abbrev pub parameter_tree : Parameter → Tree
    parameter_tree parameter = written file parameters parameter.ty

    -- a function without a written result answers `()`
    abbrev pub output_tree : Option ResultType → Tree
    output_tree None = Some UnitTree
    output_tree (Some output) = written file parameters output.ty

  abbrev pub signature_of : Function → SignatureOf
  signature_of function = record {
    name = name_of function.name;
    parameters = map (parameter_tree (names_of (type_parameters_of function.generics))) function.parameters;
    output = output_tree (names_of (type_parameters_of function.generics)) function.result;
    needs_unsafe = is_some function.unsafe_keyword;
    generic_count = length (type_parameters_of function.generics);
  }

  abbrev pub signatures_by : ItemKind → List SignatureOf
  signatures_by (item.Function function) = signature_of function ∷ []
  signatures_by kind = []

  abbrev pub signatures_in : List Item → List SignatureOf
  signatures_in [] = []
  signatures_in (one ∷ items) = signatures_by one.kind ++ signatures_in items

-- the head of a function
pub record IsSigned (old new : TypeTable) (signature : Signature) (right : SignatureOf) : Type 0 where
  pub kept : Keeps old new
  pub typed : IsTyped new signature
  pub means : told_signature new signature ≡ right

-- heads, and then these
pub record AreSigned (old new : TypeTable) (before after : List Signature) (more : List SignatureOf) : Type 0 where
  pub kept : Keeps old new
  pub typed : AllByRecursion (IsTyped new) after
  pub mean : told_signatures new after ≡ told_signatures old before ++ more

-- the heads so far, and those that are still to come, are all of these
pub record AreSignedBefore (old new : TypeTable) (list : List Signature) (rest all : List SignatureOf) : Type 0 where
  pub kept : Keeps old new
  pub typed : AllByRecursion (IsTyped new) list
  pub mean : told_signatures new list ++ rest ≡ all
