-- The trees of tags of all allocations, in the order of their making: each as the rows of its tags, with how many bytes
-- it is for. Numbers count from 1. An allocation that is dead has no tree.
use Rattle.std.specs.Prelude.{ℕ, ⊤, List, [], Option, Some, None}
use Rattle.std.specs.List.{AllByRecursion}
use Rattle.tb_perm.specs.Rows.{Row}
use Rattle.tb_perm.specs.Calls.{IsTree}
use Rattle.tb_store.specs.Store.{nth, with_nth}

pub record TreeRows : Type 0 where
  pub size : ℕ
  pub rows : List Row

abbrev pub no_tree : TreeRows
no_tree = record { size = 0; rows = [] }

abbrev pub tree_at : List TreeRows → ℕ → TreeRows
tree_at forest number = nth forest number no_tree

-- the forest with the rows of one tree changed
abbrev pub changed : List TreeRows → ℕ → (TreeRows → List Row) → List TreeRows
changed forest number change = with_nth forest number (record (tree_at forest number) { rows = change (tree_at forest number) })

-- the forest without one tree
abbrev pub felled : List TreeRows → ℕ → List TreeRows
felled forest number = with_nth forest number no_tree

-- a tree that may be kept, as its rows
abbrev pub tree_in : {T : Type 0} → (T → List Row) → (T → ℕ) → Option T → TreeRows
tree_in rows extent None = no_tree
tree_in rows extent (Some tree) = record { size = extent tree; rows = rows tree }

-- it is sound
abbrev pub IsKept : {T : Type 0} → (T → List Row) → (T → ℕ) → (T → List ℕ) → Option T → Type 0
IsKept rows extent notes None = ⊤
IsKept rows extent notes (Some tree) = IsTree (extent tree) (rows tree) (notes tree)

abbrev pub AreKept : {T : Type 0} → (T → List Row) → (T → ℕ) → (T → List ℕ) → List (Option T) → Type 0
AreKept rows extent notes trees = AllByRecursion (IsKept rows extent notes) trees
