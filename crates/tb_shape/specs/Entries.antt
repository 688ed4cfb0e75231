-- How a `Shape` keeps its keys: entries in rising order, with the place of each key's node.
use Rattle.std.specs.Prelude.{◌≡◌, ℕ, suc, ◌<◌, Bool, cond, List, [], ◌∷◌, map, find, Option, Some, nat_lt, ◌==◌, ⊤, MatchOption}
use Rattle.std.specs.List.{AllByRecursion}
use Rattle.tb_shape.specs.declared.entries.Entry.{Entry}
use Rattle.tb_shape.specs.Tree.{Keys, is_child_of}

-- each key is below those after it
abbrev pub IsRising : List Entry → Type 0
IsRising [] = ⊤
IsRising (entry ∷ entries) = AllByRecursion (λ (later : Entry). entry.key < later.key) entries × IsRising entries

-- how many entries from the front on have lesser keys
abbrev pub place_of : ℕ → List Entry → ℕ
place_of key [] = 0
place_of key (entry ∷ entries) = cond (nat_lt entry.key key) (suc (place_of key entries)) 0

abbrev pub is_entry : ℕ → Entry → Bool
is_entry key entry = entry.key == key

abbrev pub entry_of : List Entry → ℕ → Option Entry
entry_of entries key = find (is_entry key) entries

-- the entries as the tree that they stand for
abbrev pub pair_of : Entry → ℕ × Option ℕ
pair_of entry = (entry.key, entry.parent)

abbrev pub tree_of : List Entry → Keys
tree_of entries = map pair_of entries

-- a parent is among the entries, and less deep
abbrev pub IsHung : List Entry → Entry → Type 0
IsHung entries entry =
    MatchOption entry.parent ⊤ (λ parent. (above : Entry) × (entry_of entries parent ≡ Some above) × (above.depth < entry.depth))

abbrev pub AreHung : List Entry → Type 0
AreHung entries = (key : ℕ) (entry : Entry) → entry_of entries key ≡ Some entry → IsHung entries entry

-- the entry with the new parent, where its parent is the old one
abbrev pub reparented : ℕ → Option ℕ → Entry → Entry
reparented old new entry = cond (is_child_of old entry.parent) (record entry { parent = new }) entry
