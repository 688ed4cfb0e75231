-- Types of a table that grows.
use Rattle.std.specs.Prelude.{◌≡◌, ℕ, ◌<◌, List, [], ◌∷◌, ◌++◌, map, length, Option, Some, None, IfSome, ⊤}
use Rattle.std.specs.Option.{option_map}
use Rattle.std.specs.List.{AllByRecursion}
use Rattle.tb_types.specs.declared.shape.Ty.{Ty}
use Rattle.tb_types.specs.Table.{TypeTable, IsType, IsDeclared}
use Rattle.tb_types.specs.Trees.{tree_of}
use Rattle.tb_lookup.specs.declared.file.Entry.{Entry}
use Rattle.tb_lookup.specs.declared.file.Named.TheVariants.{Struct}
use Rattle.tb_lookup.specs.declared.ty.TypeName.{TypeName}
use Rattle.tb_lookup.specs.declared.ty.TypeName.TheVariants.{Struct as StructName}
use Rattle.tb_lookup.specs.Files.{named_in}
use Rattle.tb_written.specs.Written.{Tree}

-- the structs are the same, and each type means what it meant
pub record Keeps (old new : TypeTable) : Type 0 where
  pub items : new.items ≡ old.items
  pub types : (ty : Ty) → IsType old ty → IsType new ty
  pub trees : (ty : Ty) → IsType old ty → tree_of new ty ≡ tree_of old ty

-- a type that may be none
abbrev pub IsTypeIf : TypeTable → Option Ty → Type 0
IsTypeIf types found = IfSome found (IsType types)

abbrev pub tree_if : TypeTable → Option Ty → Tree
tree_if types found = option_map (tree_of types) found

abbrev pub trees_if : TypeTable → List (Option Ty) → List Tree
trees_if types found = map (tree_if types) found

-- all of them, unless one is none
abbrev pub with_type : Option Ty → Option (List Ty) → Option (List Ty)
with_type (Some part) (Some parts) = Some (part ∷ parts)
with_type part parts = None

abbrev pub all_types : List (Option Ty) → Option (List Ty)
all_types [] = Some []
all_types (part ∷ parts) = with_type part (all_types parts)

-- the type that was found has this tree
pub record IsFound (old new : TypeTable) (found : Option Ty) (tree : Tree) : Type 0 where
  pub kept : Keeps old new
  pub is_type : IsTypeIf new found
  pub means : tree_if new found ≡ tree

-- types that may be none, and then more, with these trees
pub record IsMore (old new : TypeTable) (before after : List (Option Ty)) (trees : List Tree) : Type 0 where
  pub kept : Keeps old new
  pub are_types : AllByRecursion (IsTypeIf new) after
  pub means : trees_if new after ≡ trees_if old before ++ trees

-- `Layout` and each struct of the file is declared
pub record AreDeclared (types : TypeTable) (file : List Entry) : Type 0 where
  pub layout : 0 < length types.items
  pub structs : (name : List ℕ) (number : ℕ) → named_in file name ≡ Some (Struct number) → number < length types.items

-- the struct that is named is declared
abbrev pub IsDeclaredIf : TypeTable → Option TypeName → Type 0
IsDeclaredIf types (Some (StructName number)) = IsDeclared types number
IsDeclaredIf types name = ⊤

-- the types that were found so far, and the trees that are still to come, are all of these
pub record IsMoreBefore (old new : TypeTable) (found : List (Option Ty)) (rest all : List Tree) : Type 0 where
  pub kept : Keeps old new
  pub are_types : AllByRecursion (IsTypeIf new) found
  pub means : trees_if new found ++ rest ≡ all
