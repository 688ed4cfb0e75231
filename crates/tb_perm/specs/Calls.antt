-- What the calls on a tree of tags have in common.
use Rattle.std.specs.Prelude.{◌≡◌, ℕ, List}
use Rattle.std.specs.List.{AllByRecursion}
use Rattle.tb_perm.specs.Rows.{Row, HasTag, IsRows}

-- a tree of so many bytes: its rows are those of an allocation, and each of its notes is a tag of theirs
pub record IsTree (size : ℕ) (rows : List Row) (notes : List ℕ) : Type 0 where
  pub grown : IsRows size rows
  pub noted : AllByRecursion (HasTag rows) notes

-- what every event keeps: the tree has as many bytes as before and the same notes, and is still a tree
pub record Continues {T : Type 0} (rows : T → List Row) (extent : T → ℕ) (notes : T → List ℕ) (old new : T) : Type 0 where
  pub same_extent : extent new ≡ extent old
  pub same_notes : notes new ≡ notes old
  pub sound : IsTree (extent new) (rows new) (notes new)
