-- What every event keeps of the rows.
use Rattle.std.specs.Prelude.{◌≡◌, List, [], ◌∷◌, length, ⊤}
use Rattle.tb_perm.specs.Rows.{Row}

-- the same tags in the same order, with the same parents, places of birth and numbers of states
abbrev pub KeepsTree : List Row → List Row → Type 0
KeepsTree [] [] = ⊤
KeepsTree (old ∷ olds) (new ∷ news) =
    (new.tag ≡ old.tag) × (new.parent ≡ old.parent) × (new.made ≡ old.made) × (length new.states ≡ length old.states) × KeepsTree olds news
KeepsTree [] (new ∷ news) = ⊥
KeepsTree (old ∷ olds) [] = ⊥
