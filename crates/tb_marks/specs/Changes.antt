-- What else changes the tags at a byte: guards that go, marks that are taken back, and a new tag.
use Rattle.std.specs.Prelude.{◌≡◌, ◌≢◌, ◌⊎◌, ℕ, ◌≤◌, true, false, List}
use Rattle.tb_perm.specs.declared.perm.Mark.{Mark}
use Rattle.tb_perm.specs.Marked.{level}
use Rattle.tb_shape.specs.Tree.{Keys, IsAncestor}
use Rattle.tb_marks.specs.Marks.{Promises, AtByte}
use Rattle.tb_marks.specs.Event.{contains}

-- what is above a tag in the first tree is above it in the second
abbrev pub IsWithin : Keys → Keys → Type 0
IsWithin now old = (above key : ℕ) → IsAncestor now above key → IsAncestor old above key

-- states stay, marks promise no more than before, and guards stay or go
pub record IsLesser (old now : AtByte) : Type 0 where
  pub states : (key : ℕ) → now.state key ≡ old.state key
  pub guards : (key : ℕ) → (now.guarded key ≡ old.guarded key) ⊎ (now.guarded key ≡ false)
  pub marks : (key : ℕ) → level (now.mark key) ≤ level (old.mark key)

-- a new tag: the marks of its ancestors, and its own, promise no more than some mark that makes its promise of the
-- new tag's state
pub record IsMade (path : List ℕ) (key : ℕ) (floor : Mark) (old now : AtByte) : Type 0 where
  pub states : (other : ℕ) → other ≢ key → now.state other ≡ old.state other
  pub guards : (other : ℕ) → other ≢ key → now.guarded other ≡ old.guarded other
  pub marks : (other : ℕ) → other ≢ key → level (now.mark other) ≤ level (old.mark other)
  pub way : (above : ℕ) → contains path above ≡ true → level (now.mark above) ≤ level floor
  pub own : level (now.mark key) ≤ level floor
  pub promised : Promises floor (now.state key) (now.guarded key)
