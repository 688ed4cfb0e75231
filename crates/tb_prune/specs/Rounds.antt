-- How far a prune has come, by which it is proved: all tags above a number are decided, and those up to it
-- are still there.
use Rattle.std.specs.Prelude.{◌≡◌, ℕ, ◌≤◌, ◌<◌, Bool, true, false, List}
use Rattle.std.specs.List.{list_any}
use Rattle.tb_perm.specs.Rows.{Row, is_tag, HasTag, IsRows}
use Rattle.tb_perm.specs.Pruning.{is_noted}
use Rattle.tb_stands.specs.Restricted.{restricted}
use Rattle.tb_stands.specs.Stands.{MayMiss}
use Rattle.tb_stands.specs.Folded.{must_stay}

pub record IsDecided (size : ℕ) (rows : List Row) (reached : List ℕ) (n : ℕ) (stays : ℕ → Bool) (now : List Row) (notes : List ℕ) : Type 0 where
  pub are : now ≡ restricted stays rows
  pub sound : IsRows size now
  pub unknown : (t : ℕ) → list_any (is_tag t) rows ≡ false → stays t ≡ true
  pub later : (t : ℕ) → HasTag rows t → t ≤ n → stays t ≡ true
  pub must : (t : ℕ) → HasTag rows t → must_stay rows reached t ≡ true → stays t ≡ true
  pub goes : (t : ℕ) → HasTag rows t → stays t ≡ false → MayMiss stays size rows t
  pub all_go : (t : ℕ) → HasTag rows t → n < t → must_stay rows reached t ≡ false → MayMiss stays size rows t → stays t ≡ false
  pub noted : (t : ℕ) → HasTag now t → is_noted notes t ≡ is_noted reached t

-- some tags stay so
abbrev pub Decided : ℕ → List Row → List ℕ → ℕ → List Row → List ℕ → Type 0
Decided size rows reached n now notes = (stays : ℕ → Bool) × IsDecided size rows reached n stays now notes
