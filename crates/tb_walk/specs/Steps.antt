-- The steps of a walk.
use Rattle.std.specs.Prelude.{◌≡◌, ℕ, zero, suc, Bool, cond, List, ◌++◌, Option, Some, None, slice_index_or, nat_lt, ◌==◌, ◌||◌, ◌&&◌}
use Rattle.tb_perm.specs.declared.perm.Rel.{Rel}
use Rattle.tb_perm.specs.declared.perm.Rel.TheVariants.{Local, Foreign}
use Rattle.tb_shape.specs.Tree.{Keys, parent_of, is_child_of}
use Rattle.tb_walk.specs.declared.blame.Blame.{Blame}
use Rattle.tb_walk.specs.Walk.{count_of}

-- the item before a place of a list
abbrev pub before : List ℕ → ℕ → Option ℕ
before keys zero = None
before keys (suc at) = Some (slice_index_or keys at 0)

-- the list has in addition the children of a tag, each once, if the tag is not shut
abbrev pub Adds : Keys → (ℕ → Bool) → ℕ → List ℕ → List ℕ → Type 0
Adds tree shut key old new =
    (more : List ℕ) × (new ≡ old ++ more) × ((k : ℕ) → count_of k more ≡ cond (shut key) 0 (cond (is_child_of key (parent_of tree k)) 1 0))

-- of two tags that refuse at the same byte, the first comes before the second
abbrev pub is_first : Rel → ℕ → ℕ → Bool
is_first Local key other = nat_lt other key
is_first Foreign key other = nat_lt key other

-- a refusal at the byte by the tag comes before the blame
abbrev pub is_before : Rel → ℕ → ℕ → Blame → Bool
is_before rel byte key blame = nat_lt byte blame.byte || ((byte == blame.byte) && is_first rel key blame.key)
