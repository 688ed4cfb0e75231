-- A tree over keys as the list of its keys, in rising order, each with its parent. The root has none.
use Rattle.std.specs.Prelude.{◌≡◌, ℕ, ◌<◌, ⊤, Bool, false, cond, not, List, [], ◌∷◌, map, filter, find, Option, Some, None, option_and_then, IsTrue, count_by, nat_lt, ◌==◌}
use Rattle.std.specs.List.{list_any, AllByRecursion}

abbrev pub Keys : Type 0
Keys = List (ℕ × Option ℕ)

-- the entry is of the key
abbrev pub is_key : ℕ → ℕ × Option ℕ → Bool
is_key key entry = entry.0 == key

-- the key is in the tree
abbrev pub HasKey : Keys → ℕ → Type 0
HasKey tree key = IsTrue (list_any (is_key key) tree)

-- a key's parent; none for the root, and for a key that is not there
abbrev pub parent_of : Keys → ℕ → Option ℕ
parent_of tree key = option_and_then (λ (entry : ℕ × Option ℕ). entry.1) (find (is_key key) tree)

-- the parent is this key
abbrev pub is_child_of : ℕ → Option ℕ → Bool
is_child_of key None = false
is_child_of key (Some parent) = parent == key

-- the list has each key whose parent is this one once, and no other
abbrev pub AreChildren : Keys → ℕ → List ℕ → Type 0
AreChildren tree key children =
    (child : ℕ) → count_by (λ k. k == child) children ≡ cond (is_child_of key (parent_of tree child)) 1 0

-- the list begins at the key, goes on from each key to its parent, and ends at a root
abbrev pub IsPath : Keys → ℕ → List ℕ → Type 0
IsPath tree key [] = ⊥
IsPath tree key (k ∷ []) = (k ≡ key) × HasKey tree key × (parent_of tree key ≡ None)
IsPath tree key (k ∷ next ∷ path) = (k ≡ key) × (parent_of tree key ≡ Some next) × IsPath tree next (next ∷ path)

-- each key is below those after it
abbrev pub AreRising : Keys → Type 0
AreRising [] = ⊤
AreRising (entry ∷ tree) = AllByRecursion (λ (later : ℕ × Option ℕ). entry.0 < later.0) tree × AreRising tree

-- a tree with this root: the keys rise, a parent is a key, each key has a path to the root, and the root
-- alone has no parent
pub record IsKeys (tree : Keys) (root : ℕ) : Type 0 where
  pub rising : AreRising tree
  pub there : HasKey tree root
  pub top : parent_of tree root ≡ None
  pub only : (key : ℕ) → HasKey tree key → parent_of tree key ≡ None → key ≡ root
  pub up : (key parent : ℕ) → parent_of tree key ≡ Some parent → HasKey tree parent
  pub paths : (key : ℕ) → HasKey tree key → (path : List ℕ) × IsPath tree key path

-- the first key is on the path from the second to the root, so every key of the tree is its own ancestor
abbrev pub IsAncestor : Keys → ℕ → ℕ → Type 0
IsAncestor tree a b = (path : List ℕ) × IsPath tree b path × IsTrue (list_any (λ k. k == a) path)

-- a further key at its place
abbrev pub with_child : ℕ → ℕ → Keys → Keys
with_child parent key [] = (key, Some parent) ∷ []
with_child parent key (entry ∷ tree) =
    cond (nat_lt entry.0 key) (entry ∷ with_child parent key tree) ((key, Some parent) ∷ entry ∷ tree)

-- the tree without a key
abbrev pub without : ℕ → Keys → Keys
without key tree = filter (λ entry. not (is_key key entry)) tree

-- a child of the one key becomes a child of the other parent
abbrev pub moved_up : ℕ → Option ℕ → ℕ × Option ℕ → ℕ × Option ℕ
moved_up key parent entry = cond (is_child_of key entry.1) (entry.0, parent) entry

-- the tree without a key, whose children its parent takes
abbrev pub spliced : ℕ → Keys → Keys
spliced key tree = map (moved_up key (parent_of tree key)) (without key tree)
