-- Which tags stay when tags are pruned. The root, reached tags and guarded tags stay. Any other tag goes
-- where no tag below it stays, or where exactly one topmost one does and covers it at every byte. What is
-- below a tag has a greater number, so this decides all tags, from the greatest to the least.
use Rattle.std.specs.Prelude.{◌≡◌, ℕ, leb, Bool, true, false, cond, not, ◌&&◌, ◌||◌, ◌==◌, List, [], ◌∷◌, reverse, find, Option, Some, None}
use Rattle.std.specs.List.{list_any, range_with_len}
use Rattle.tb_perm.specs.Rows.{Row, is_tag, HasTag, is_on_path, guard_in}
use Rattle.tb_perm.specs.Table.{is_guarded}
use Rattle.tb_perm.specs.Release.{is_below}
use Rattle.tb_perm.specs.Covers.{order_of}
use Rattle.tb_perm.specs.Pruning.{is_noted, perm_in}
use Rattle.tb_stands.specs.Restricted.{restricted}
use Rattle.tb_stands.specs.Stands.{MayMiss}

-- the tag is the root's
abbrev pub is_first : List Row → ℕ → Bool
is_first [] t = false
is_first (row ∷ rows) t = row.tag == t

-- the tag stays in any case
abbrev pub must_stay : List Row → List ℕ → ℕ → Bool
must_stay rows reached t = is_first rows t || (is_noted reached t || is_guarded (guard_in rows t))

-- exactly these tags stay. A number that no tag has counts as one that stays.
pub record IsFolded (size : ℕ) (rows : List Row) (reached : List ℕ) (stays : ℕ → Bool) : Type 0 where
  pub unknown : (t : ℕ) → list_any (is_tag t) rows ≡ false → stays t ≡ true
  pub must : (t : ℕ) → HasTag rows t → must_stay rows reached t ≡ true → stays t ≡ true
  pub goes : (t : ℕ) → HasTag rows t → stays t ≡ false → MayMiss stays size rows t
  pub all_go : (t : ℕ) → HasTag rows t → must_stay rows reached t ≡ false → MayMiss stays size rows t → stays t ≡ false

-- the second rows are what is left of the first where exactly the folded tags stay
abbrev pub Prunes : ℕ → List ℕ → List Row → List Row → Type 0
Prunes size reached rows left = (stays : ℕ → Bool) × IsFolded size rows reached stays × (left ≡ restricted stays rows)

-- The same as a list of tags that can be worked out.

-- at some byte the first tag's permission stands behind the second's in their order
abbrev pub is_uncovered : ℕ → List Row → ℕ → ℕ → Bool
is_uncovered size rows t c = list_any (λ byte. not (leb (order_of (perm_in rows t byte)) (order_of (perm_in rows c byte)))) (range_with_len 0 size)

-- the row's tag stays and is a strict descendant
abbrev pub stays_below : (ℕ → Bool) → List Row → ℕ → Row → Bool
stays_below stays rows t row = stays row.tag && is_below rows t row.tag

-- the row's tag stays, and is below the first tag but not at or below the second
abbrev pub is_beside : (ℕ → Bool) → List Row → ℕ → ℕ → Row → Bool
is_beside stays rows t c row = stays_below stays rows t row && not (is_on_path rows row.tag c)

-- there is no staying descendant, or the least of them is above all others and covers the tag
abbrev pub misses : (ℕ → Bool) → ℕ → List Row → ℕ → Option Row → Bool
misses stays size rows t None = true
misses stays size rows t (Some c) = not (list_any (is_beside stays rows t c.tag) rows) && not (is_uncovered size rows t c.tag)

abbrev pub may_miss : (ℕ → Bool) → ℕ → List Row → ℕ → Bool
may_miss stays size rows t = misses stays size rows t (find (stays_below stays rows t) rows)

-- the tag stays, where of the greater ones those of the list do
abbrev pub stays_with : ℕ → List Row → List ℕ → List ℕ → ℕ → Bool
stays_with size rows reached later t = must_stay rows reached t || not (may_miss (is_noted later) size rows t)

-- the tags that stay of rows read from the newest back, in front of those of newer rows that stay
abbrev pub folded_back : ℕ → List Row → List ℕ → List Row → List ℕ → List ℕ
folded_back size rows reached [] later = later
folded_back size rows reached (row ∷ older) later = folded_back size rows reached older (cond (stays_with size rows reached later row.tag) (row.tag ∷ later) later)

-- the tags that stay, in their order
abbrev pub folded : ℕ → List Row → List ℕ → List ℕ
folded size rows reached = folded_back size rows reached (reverse rows) []
