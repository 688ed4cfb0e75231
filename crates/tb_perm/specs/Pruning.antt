-- What is asked of a tree of tags when tags are pruned, and what a tag leaves that is taken out.
use Rattle.std.specs.Prelude.{◌≡◌, ◌≢◌, ℕ, ◌<◌, Bool, cond, not, List, map, filter, find, Option, None, Some, option_and_then, option_map, unwrap_or, ◌==◌, false}
use Rattle.std.specs.List.{list_any}
use Rattle.tb_perm.specs.declared.perm.Perm.{Perm}
use Rattle.tb_perm.specs.declared.perm.Perm.TheVariants.{Disabled}
use Rattle.tb_perm.specs.Rows.{Row, is_tag, state_at}
use Rattle.tb_perm.specs.Covers.{Covers}

-- the tag is noted
abbrev pub is_noted : List ℕ → ℕ → Bool
is_noted notes t = list_any (λ k. k == t) notes

-- a tag's parent; none for the root, and for a tag that has no row
abbrev pub parent_in : List Row → ℕ → Option ℕ
parent_in rows t = option_and_then (λ (row : Row). row.parent) (find (is_tag t) rows)

-- no tag has this one as its parent
abbrev pub IsLeaf : List Row → ℕ → Type 0
IsLeaf rows t = (u : ℕ) → parent_in rows u ≢ Some t

-- the second tag alone has the first as its parent
abbrev pub IsOnlyChild : List Row → ℕ → ℕ → Type 0
IsOnlyChild rows t child = (parent_in rows child ≡ Some t) × ((u : ℕ) → parent_in rows u ≡ Some t → u ≡ child)

-- a tag's permission at a byte
abbrev pub perm_in : List Row → ℕ → ℕ → Perm
perm_in rows t byte = (unwrap_or (option_map (λ row. state_at row byte) (find (is_tag t) rows)) (record { perm = Disabled; accessed = false })).perm

-- at every byte the first tag's permission is covered by the second's
abbrev pub Folds : List Row → ℕ → ℕ → ℕ → Bool → Type 0
Folds rows size t child guarded = (byte : ℕ) → byte < size → Covers (perm_in rows t byte) (perm_in rows child byte) guarded

-- the parent is this tag
abbrev pub is_child : ℕ → Option ℕ → Bool
is_child t None = false
is_child t (Some parent) = parent == t

-- a row whose parent goes
abbrev pub moved_up_row : ℕ → Option ℕ → Row → Row
moved_up_row t parent row = cond (is_child t row.parent) (record row { parent = parent }) row

-- the rows without a tag, whose children its parent takes
abbrev pub removed : List Row → ℕ → List Row
removed rows t = map (moved_up_row t (parent_in rows t)) (filter (λ row. not (is_tag t row)) rows)

-- the notes without a tag
abbrev pub forgotten : List ℕ → ℕ → List ℕ
forgotten notes t = filter (λ k. not (k == t)) notes
