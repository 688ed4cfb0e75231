-- The tags at a byte while an event is carried out, and when it had to be broken off.
use Rattle.std.specs.Prelude.{◌≡◌, ◌⊎◌, ℕ, true, false, List, Option}
use Rattle.tb_perm.specs.declared.perm.Kind.{Kind}
use Rattle.tb_shape.specs.Tree.{Keys, IsAncestor}
use Rattle.tb_marks.specs.Marks.{AtByte}
use Rattle.tb_marks.specs.Event.{contains, visited}

-- each mark and each state is that from before the event or that after it, and the order is kept that makes
-- the marks sound at any time: on the way the marks of a tag and of those above it go before its state, and off the
-- way the states of a tag and of those below it go before its mark
pub record IsStage (tree : Keys) (path keys : List ℕ) (kind : Option Kind) (old now : AtByte) : Type 0 where
  pub guards : (key : ℕ) → now.guarded key ≡ old.guarded key
  pub states : (key : ℕ) → (now.state key ≡ old.state key) ⊎ (now.state key ≡ (visited path keys kind old).state key)
  pub marks : (key : ℕ) → (now.mark key ≡ old.mark key) ⊎ (now.mark key ≡ (visited path keys kind old).mark key)
  pub on_way : (above key : ℕ) → IsAncestor tree above key → contains path key ≡ true → (now.mark above ≡ (visited path keys kind old).mark above) ⊎ (now.state key ≡ old.state key)
  pub off_way : (above key : ℕ) → IsAncestor tree above key → contains path above ≡ false → (now.mark above ≡ old.mark above) ⊎ (now.state key ≡ (visited path keys kind old).state key)
