-- Bytes that an object may tell, and how they grow: none are told by an object that does not tell.
use Rattle.std.specs.Prelude.{◌≡◌, ◌≤◌, ℕ, Option, Some, None, List, ◌++◌, length, take, ⊤}

-- What was told is told again, with these bytes at its end. Nothing is said of an object that does not tell.
abbrev pub Grew : Option (List ℕ) → Option (List ℕ) → List ℕ → Type 0
Grew None new piece = ⊤
Grew (Some old) None piece = ⊥
Grew (Some old) (Some new) piece = new ≡ old ++ piece

-- it grew by the first bytes of these, which may be none or all of them
abbrev pub GrewByPrefix : Option (List ℕ) → Option (List ℕ) → List ℕ → Type 0
GrewByPrefix old new piece = (count : ℕ) × (count ≤ length piece) × Grew old new (take count piece)

-- what was told is told again as it was
abbrev pub Stays : Option (List ℕ) → Option (List ℕ) → Type 0
Stays None new = ⊤
Stays (Some old) None = ⊥
Stays (Some old) (Some new) = new ≡ old
