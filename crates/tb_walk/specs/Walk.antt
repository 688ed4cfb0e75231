-- Which tags an event visits: those on its way to the root, and off the way the children of tags of the way,
-- and then the children of visited tags that are not shut, which is where the marks leave the event alone.
use Rattle.std.specs.Prelude.{◌≡◌, ◌⊎◌, ℕ, ◌+◌, ◌≤◌, Bool, true, false, cond, not, ◌||◌, List, length, map, filter, Option, Some, None, count_by, ◌==◌}
use Rattle.tb_shape.specs.Tree.{Keys, HasKey, IsAncestor, parent_of}
use Rattle.tb_marks.specs.Event.{contains}

-- how often the tag is in the list
abbrev pub count_of : ℕ → List ℕ → ℕ
count_of key keys = count_by (λ k. k == key) keys

-- the tag is the one to be left out
abbrev pub is_left_out : Option ℕ → ℕ → Bool
is_left_out None key = false
is_left_out (Some other) key = key == other

-- a tag off the way is visited for a parent on the way, if that is one from which the walk begins
abbrev pub seeded : List ℕ → List ℕ → ℕ → Option ℕ → ℕ
seeded path from key None = 0
seeded path from key (Some parent) = cond (contains path key) 0 (count_of parent from)

-- a tag is visited for a parent that is among those done and is not shut
abbrev pub opened : (ℕ → Bool) → List ℕ → Option ℕ → ℕ
opened shut done None = 0
opened shut done (Some parent) = cond (shut parent) 0 (count_of parent done)

-- the list has each tag as often as its parent asks for it
abbrev pub AreOpened : Keys → List ℕ → List ℕ → (ℕ → Bool) → List ℕ → List ℕ → Type 0
AreOpened tree path from shut done keys =
    (key : ℕ) → count_of key keys ≡ seeded path from key (parent_of tree key) + opened shut done (parent_of tree key)

-- a tag stands off the way that is shut and is above this tag, or is this tag
abbrev pub IsShutOff : Keys → List ℕ → (ℕ → Bool) → ℕ → Type 0
IsShutOff tree path shut key = (above : ℕ) × IsAncestor tree above key × (contains path above ≡ false) × (shut above ≡ true)

-- a tag of the way is above this tag from which the walk does not begin
abbrev pub IsPassedBy : Keys → List ℕ → List ℕ → ℕ → Type 0
IsPassedBy tree path from key = (above : ℕ) × IsAncestor tree above key × (contains path above ≡ true) × (contains from above ≡ false)

-- what was visited off the way: every tag that is neither on the way, nor visited, nor passed by, is shut off; and
-- so is every tag below a visited one that is not visited; none is visited twice, and none that is on the way
pub record IsWalk (tree : Keys) (path from : List ℕ) (shut : ℕ → Bool) (keys : List ℕ) : Type 0 where
  pub whole : (key : ℕ) → HasKey tree key → contains path key ≡ false → contains keys key ≡ false → IsShutOff tree path shut key ⊎ IsPassedBy tree path from key
  pub below : (key other : ℕ) → contains keys key ≡ true → IsAncestor tree key other → contains keys other ≡ false → IsShutOff tree path shut other
  pub off : (key : ℕ) → contains keys key ≡ true → contains path key ≡ false
  pub once : (key : ℕ) → count_of key keys ≤ 1
  pub there : (key : ℕ) → contains keys key ≡ true → HasKey tree key
  -- each child of a tag from which the walk begins is visited, if it is off the way
  pub children : (key parent : ℕ) → parent_of tree key ≡ Some parent → contains from parent ≡ true → contains path key ≡ false → contains keys key ≡ true

-- the parent is on the way, or not shut
abbrev pub asks : List ℕ → (ℕ → Bool) → Option ℕ → Bool
asks path shut None = false
asks path shut (Some parent) = contains path parent || not (shut parent)

-- the tag is on the way, or its parent is, or its parent is not shut
abbrev pub is_counted : Keys → List ℕ → (ℕ → Bool) → ℕ → Bool
is_counted tree path shut key = contains path key || asks path shut (parent_of tree key)

-- how many such tags there are
abbrev pub counted : Keys → List ℕ → (ℕ → Bool) → ℕ
counted tree path shut = length (filter (is_counted tree path shut) (map (λ (entry : ℕ × Option ℕ). entry.0) tree))
