-- The three phases in which an event is carried out on a tree with marks, at one byte. Each may be broken off.
use Rattle.std.specs.Prelude.{◌≡◌, ◌⊎◌, ℕ, true, false, List, Option}
use Rattle.tb_perm.specs.declared.perm.Kind.{Kind}
use Rattle.tb_marks.specs.Marks.{AtByte}
use Rattle.tb_marks.specs.Event.{contains, lowered_at, visited}

-- first: marks on the way are lowered, some of them or all
pub record IsLowering (path : List ℕ) (kind : Option Kind) (old now : AtByte) : Type 0 where
  pub guards : (key : ℕ) → now.guarded key ≡ old.guarded key
  pub states : (key : ℕ) → now.state key ≡ old.state key
  pub way : (key : ℕ) → contains path key ≡ true → (now.mark key ≡ old.mark key) ⊎ (now.mark key ≡ lowered_at kind (old.mark key))
  pub off : (key : ℕ) → contains path key ≡ false → now.mark key ≡ old.mark key

-- then: all marks on the way are lowered, and states are moved, some of them or all
pub record IsMoving (path keys : List ℕ) (kind : Option Kind) (old now : AtByte) : Type 0 where
  pub guards : (key : ℕ) → now.guarded key ≡ old.guarded key
  pub states : (key : ℕ) → (now.state key ≡ old.state key) ⊎ (now.state key ≡ (visited path keys kind old).state key)
  pub way : (key : ℕ) → contains path key ≡ true → now.mark key ≡ lowered_at kind (old.mark key)
  pub off : (key : ℕ) → contains path key ≡ false → now.mark key ≡ old.mark key

-- last: all states are moved, and marks of visited tags off the way are raised, some of them or all
pub record IsRaising (path keys : List ℕ) (kind : Option Kind) (old now : AtByte) : Type 0 where
  pub guards : (key : ℕ) → now.guarded key ≡ old.guarded key
  pub states : (key : ℕ) → now.state key ≡ (visited path keys kind old).state key
  pub way : (key : ℕ) → contains path key ≡ true → now.mark key ≡ lowered_at kind (old.mark key)
  pub off : (key : ℕ) → contains path key ≡ false → (now.mark key ≡ old.mark key) ⊎ (now.mark key ≡ (visited path keys kind old).mark key)
