-- The rows of an allocation: its tags in the order of their making, which is that of their numbers,
-- each with one state for every byte. The first row is the root's. Every other tag has its parent
-- in an earlier row, so the rows are a tree.
use Rattle.std.specs.Prelude.{◌≡◌, ℕ, ◌<◌, Bool, false, cond, List, [], ◌∷◌, length, reverse, map, Option, Some, None, IsTrue, replicate, slice_index_or, ◌==◌, true, find, option_map, unwrap_or}
use Rattle.std.specs.List.{list_any, AllByRecursion}
use Rattle.tb_perm.specs.declared.span.Span.{Span}
use Rattle.tb_perm.specs.declared.perm.State.{State}
use Rattle.tb_perm.specs.declared.perm.Guard.{Guard}
use Rattle.tb_perm.specs.declared.perm.Guard.TheVariants.{Free}
use Rattle.tb_perm.specs.declared.perm.Perm.TheVariants.{Active, Disabled}

-- one tag: its number, its parent's, its guard, where it was made, and its state at each byte
pub record Row : Type 0 where
  pub tag : ℕ
  pub parent : Option ℕ
  pub guard : Guard
  pub made : Span
  pub states : List State

-- the row is this tag's
abbrev pub is_tag : ℕ → Row → Bool
is_tag t row = row.tag == t

-- the tags of rows, in their order
abbrev pub tags : List Row → List ℕ
tags rows = map (λ (row : Row). row.tag) rows

-- the tag has a row
abbrev pub HasTag : List Row → ℕ → Type 0
HasTag rows t = IsTrue (list_any (is_tag t) rows)

-- the row is the one asked for, if one is
abbrev pub is_asked : Option ℕ → Row → Bool
is_asked None row = false
is_asked (Some t) row = row.tag == t

-- the path from a tag to the root in rows that are read from the newest back: a parent is older
-- than its children
abbrev pub path_from : List Row → Option ℕ → List Row
path_from [] asked = []
path_from (row ∷ older) asked = cond (is_asked asked row) (row ∷ path_from older row.parent) (path_from older asked)

-- the rows on the path from a tag, its own first, to the root
abbrev pub path_to_root : List Row → ℕ → List Row
path_to_root rows t = path_from (reverse rows) (Some t)

-- the second tag is the first or one of its ancestors
abbrev pub is_on_path : List Row → ℕ → ℕ → Bool
is_on_path rows t u = list_any (is_tag u) (path_to_root rows t)

-- a tag's state at a byte; past the last byte, where no event looks, Disabled
abbrev pub state_at : Row → ℕ → State
state_at row byte = slice_index_or row.states byte (record { perm = Disabled; accessed = false })

-- the row that an allocation begins with: Active and accessed everywhere, and never guarded
abbrev pub root_row : ℕ → ℕ → Span → Row
root_row tag size made =
    record {
      tag = tag;
      parent = None;
      guard = Free;
      made = made;
      states = replicate size (record { perm = Active; accessed = true });
    }

-- the row with its guard gone, if it is the tag's
abbrev pub unguarded_row : ℕ → Row → Row
unguarded_row t row = cond (is_tag t row) (record row { guard = Free }) row

-- how a tag is guarded; a tag that has no row is free
abbrev pub guard_in : List Row → ℕ → Guard
guard_in rows t = unwrap_or (option_map (λ (row : Row). row.guard) (find (is_tag t) rows)) Free

-- the rows once the tag's guard is gone
abbrev pub unguarded : List Row → ℕ → List Row
unguarded rows t = map (unguarded_row t) rows

-- the row may follow the older ones: its tag is above all of theirs, and its parent is among them
pub record IsNext (older : List Row) (row : Row) : Type 0 where
  pub above : AllByRecursion (λ (o : Row). o.tag < row.tag) older
  pub parent : ℕ
  pub is_parent : row.parent ≡ Some parent
  pub has_parent : HasTag older parent

-- rows read from the newest back: each follows the older ones, and the oldest is a root
abbrev pub IsGrown : List Row → Type 0
IsGrown [] = ⊥
IsGrown (row ∷ []) = row.parent ≡ None
IsGrown (row ∷ next ∷ older) = IsNext (next ∷ older) row × IsGrown (next ∷ older)

-- rows of an allocation of this many bytes: a tree, with a state for each byte in every row
pub record IsRows (size : ℕ) (rows : List Row) : Type 0 where
  pub grown : IsGrown (reverse rows)
  pub sized : AllByRecursion (λ (row : Row). length row.states ≡ size) rows
