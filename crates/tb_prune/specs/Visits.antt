-- One round of a prune: a tag goes that is neither noted nor guarded, and has no child or one that covers it.
use Rattle.std.specs.Prelude.{◌≡◌, ◌⊎◌, ℕ, Bool, true, false, ◌||◌, List}
use Rattle.tb_perm.specs.Rows.{Row, guard_in}
use Rattle.tb_perm.specs.Table.{is_guarded}
use Rattle.tb_perm.specs.Pruning.{is_noted, IsLeaf, IsOnlyChild, Folds, removed, forgotten}

-- the tag is noted or guarded
abbrev pub is_busy : List Row → List ℕ → ℕ → Bool
is_busy rows notes t = is_noted notes t || is_guarded (guard_in rows t)

-- it has no child, or one alone, which covers it
abbrev pub MayGo : ℕ → List Row → ℕ → Type 0
MayGo size rows t = IsLeaf rows t ⊎ ((child : ℕ) × IsOnlyChild rows t child × Folds rows size t child (is_guarded (guard_in rows child)))

-- nothing changes
pub record Leaves (size : ℕ) (rows : List Row) (notes : List ℕ) (t : ℕ) (left : List Row) (rest : List ℕ) : Type 0 where
  pub same : left ≡ rows
  pub same_notes : rest ≡ notes
  pub why : (is_busy rows notes t ≡ true) ⊎ ¬ MayGo size rows t

-- the tag goes
pub record TakesOut (size : ℕ) (rows : List Row) (notes : List ℕ) (t : ℕ) (left : List Row) (rest : List ℕ) : Type 0 where
  pub without : left ≡ removed rows t
  pub notes_without : rest ≡ forgotten notes t
  pub idle : is_busy rows notes t ≡ false
  pub may : MayGo size rows t

-- the rows and notes before a tag is visited, and those afterwards
abbrev pub Visits : ℕ → List Row → List ℕ → ℕ → List Row → List ℕ → Type 0
Visits size rows notes t left rest = Leaves size rows notes t left rest ⊎ TakesOut size rows notes t left rest
