-- The structs that lie in a type, other than behind a reference or raw pointer.
use Rattle.std.specs.Prelude.{ℕ, List, [], ◌∷◌, ◌++◌}
use Rattle.tb_types.specs.Trees.{TypeTree, TypeTrees, TupleTree, ArrayTree, StructTree, BoxedTree, CellTree, UnsafeCellTree, SliceTree, NoTrees, MoreTrees}

abbrev mutual
  -- through tuples, arrays, slices, boxes and cells
  pub structs_in : TypeTree → List ℕ
  structs_in (TupleTree parts) = structs_in_all parts
  structs_in (ArrayTree part n) = structs_in part
  structs_in (StructTree number) = number ∷ []
  structs_in (BoxedTree part) = structs_in part
  structs_in (CellTree part) = structs_in part
  structs_in (UnsafeCellTree part) = structs_in part
  structs_in (SliceTree part) = structs_in part
  structs_in tree = []

  pub structs_in_all : TypeTrees → List ℕ
  structs_in_all NoTrees = []
  structs_in_all (MoreTrees part parts) = structs_in part ++ structs_in_all parts
