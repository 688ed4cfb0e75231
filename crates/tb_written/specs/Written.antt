-- The meaning of a written type as a tree, among the names of a file and the type parameters of a function. It is none where the type depends on a type parameter.
use Rattle.std.specs.Prelude.{Bool, true, false, List, [], ◌∷◌, ◌++◌, Option, Some, None, is_some}
use Rattle.std.specs.Option.{option_map}
use Rattle.tb_types.specs.declared.shape.Ty.{Ty}
use Rattle.tb_types.specs.declared.shape.TyShape.{TyShape}
use Rattle.tb_types.specs.declared.shape.TyShape.TheVariants as shape
use Rattle.tb_types.specs.Trees.{TypeTree, TypeTrees, IntTree, BoolTree, CharTree, UnitTree, TupleTree, ArrayTree, StructTree, RefTree, RawTree, BoxedTree, CellTree, UnsafeCellTree, SliceTree, NoTrees, MoreTrees}
use Rattle.tb_ast.specs.declared.written.PointerKind.{PointerKind}
use Rattle.tb_ast.specs.declared.written.PointerKind.TheVariants as pointer
use Rattle.tb_ast.specs.declared.written.TypeExpr.{TypeExpr}
use Rattle.tb_ast.specs.declared.written.TypeArgument.{TypeArgument}
use Rattle.tb_ast.specs.declared.written.TypeArguments.{TypeArguments}
use Rattle.tb_ast.specs.declared.written.TypeArgument.TheOpen.{TypeExpr-F, TypeArgument-F, TypeArguments-F}
use Rattle.tb_ast.specs.declared.written.TypeArgument.TheFolds.{fold-TypeExpr, fold-TypeArgument, fold-TypeArguments}
use Rattle.tb_lookup.specs.declared.file.Entry.{Entry}
use Rattle.tb_lookup.specs.declared.ty.TypeName.{TypeName}
use Rattle.tb_lookup.specs.declared.ty.TypeName.TheVariants as name
use Rattle.tb_lookup.specs.Paths.{Words, words_of}
use Rattle.tb_lookup.specs.Lookups.{type_name}
use Rattle.tb_written.specs.declared.wrap.Wrap.{Wrap}
use Rattle.tb_written.specs.declared.wrap.Wrap.TheVariants as wrap

-- the tree, and the shape, around another
abbrev pub wrap_tree : Wrap → TypeTree → TypeTree
wrap_tree wrap.Slice part = SliceTree part
wrap_tree (wrap.Array n) part = ArrayTree part n
wrap_tree (wrap.Ref mutable) part = RefTree mutable part
wrap_tree (wrap.Raw mutable) part = RawTree mutable part
wrap_tree wrap.Boxed part = BoxedTree part
wrap_tree wrap.Cell part = CellTree part
wrap_tree wrap.UnsafeCell part = UnsafeCellTree part

abbrev pub wrap_shape : Wrap → Ty → TyShape
wrap_shape wrap.Slice part = shape.Slice part
wrap_shape (wrap.Array n) part = shape.Array part n
wrap_shape (wrap.Ref mutable) part = shape.Ref mutable part
wrap_shape (wrap.Raw mutable) part = shape.Raw mutable part
wrap_shape wrap.Boxed part = shape.Boxed part
wrap_shape wrap.Cell part = shape.Cell part
wrap_shape wrap.UnsafeCell part = shape.UnsafeCell part

abbrev pub Tree : Type 0
Tree = Option TypeTree

abbrev pub wrapped : Wrap → Tree → Tree
wrapped wrap part = option_map (wrap_tree wrap) part

-- a tuple of these parts, none where one is none
abbrev pub with_first : Tree → Option TypeTrees → Option TypeTrees
with_first (Some part) (Some parts) = Some (MoreTrees part parts)
with_first part parts = None

abbrev pub all_trees : List Tree → Option TypeTrees
all_trees [] = Some NoTrees
all_trees (part ∷ parts) = with_first part (all_trees parts)

abbrev pub tuple : List Tree → Tree
tuple parts = option_map TupleTree (all_trees parts)

-- a type without arguments, and one with one; with another number of them it counts as `()`
abbrev pub plain : TypeTree → List Tree → Tree
plain tree [] = Some tree
plain tree arguments = Some UnitTree

abbrev pub around : Wrap → List Tree → Tree
around wrap (part ∷ []) = wrapped wrap part
around wrap arguments = Some UnitTree

-- a name with arguments; a name that is unknown counts as `()`
abbrev pub named : Option TypeName → List Tree → Tree
named None arguments = Some UnitTree
named (Some (name.Int kind)) arguments = plain (IntTree kind) arguments
named (Some name.Bool) arguments = plain BoolTree arguments
named (Some name.Char) arguments = plain CharTree arguments
named (Some name.Boxed) arguments = around wrap.Boxed arguments
named (Some name.Cell) arguments = around wrap.Cell arguments
named (Some name.UnsafeCell) arguments = around wrap.UnsafeCell arguments
named (Some (name.Struct number)) arguments = plain (StructTree number) arguments
named (Some (name.Parameter number)) arguments = None

abbrev pub is_mut : PointerKind → Bool
is_mut (pointer.Const keyword) = false
is_mut (pointer.Mut keyword) = true

abbrev pub joined : List (List Tree) → List Tree
joined [] = []
joined (first ∷ rest) = first ++ joined rest

abbrev pub if_there : Option (List Tree) → List Tree
if_there None = []
if_there (Some trees) = trees

-- Types, over the trees of the types in them; lifetimes mean nothing.
module _ (file : List Entry) (parameters : Words) where
  abbrev pub type_step : TypeExpr-F (List Tree) Tree (List Tree) → Tree
  type_step (TypeExpr-F.Unit span opening closing) = Some UnitTree
  type_step (TypeExpr-F.Tuple span opening parts commas closing) = tuple parts
  type_step (TypeExpr-F.Slice span opening element closing) = wrapped wrap.Slice element
  type_step (TypeExpr-F.Array span opening element semicolon length closing) = wrapped (wrap.Array length.integer.value) element
  type_step (TypeExpr-F.Reference span and lifetime mutable target) = wrapped (wrap.Ref (is_some mutable)) target
  type_step (TypeExpr-F.Pointer span star kind target) = wrapped (wrap.Raw (is_mut kind)) target
  type_step (TypeExpr-F.Path span path arguments) = named (type_name file parameters (words_of path.segments)) (if_there arguments)

  abbrev pub argument_step : TypeArgument-F (List Tree) Tree (List Tree) → List Tree
  argument_step (TypeArgument-F.Lifetime lifetime) = []
  argument_step (TypeArgument-F.TypeExpr ty) = ty ∷ []

  abbrev pub arguments_step : TypeArguments-F (List Tree) Tree (List Tree) → List Tree
  arguments_step arguments = joined arguments.arguments

  abbrev pub written : TypeExpr → Tree
  written = fold-TypeExpr (List Tree) Tree (List Tree) argument_step type_step arguments_step

  abbrev pub argument_trees : TypeArgument → List Tree
  argument_trees = fold-TypeArgument (List Tree) Tree (List Tree) argument_step type_step arguments_step

  abbrev pub arguments_trees : TypeArguments → List Tree
  arguments_trees = fold-TypeArguments (List Tree) Tree (List Tree) argument_step type_step arguments_step
