-- On which tag a refusal is blamed.
use Rattle.std.specs.Prelude.{◌≡◌, ℕ, ◌≤◌, true, List, Option, Some, None}
use Rattle.tb_perm.specs.declared.perm.Rel.{Rel}
use Rattle.tb_perm.specs.declared.perm.Rel.TheVariants.{Local, Foreign}
use Rattle.tb_marks.specs.Event.{contains}
use Rattle.tb_walk.specs.declared.blame.Blame.{Blame}

-- of tags that refuse at the same byte: on the way the nearest one comes first, which is the greatest, and off the way
-- the least
abbrev pub ComesFirst : Rel → ℕ → ℕ → Type 0
ComesFirst Local key other = other ≤ key
ComesFirst Foreign key other = key ≤ other

-- none of the tags refuses, or the blame is on one of them at the first byte at which it does, and no other refuses
-- before that byte, or at it and comes first
abbrev pub IsBlamed : (ℕ → Option ℕ) → Rel → List ℕ → Option Blame → Type 0
IsBlamed refused rel keys None = (key : ℕ) → contains keys key ≡ true → refused key ≡ None
IsBlamed refused rel keys (Some blame) =
    (contains keys blame.key ≡ true) × (refused blame.key ≡ Some blame.byte)
    × ((key byte : ℕ) → contains keys key ≡ true → refused key ≡ Some byte → (blame.byte ≤ byte) × (byte ≡ blame.byte → ComesFirst rel blame.key key))
