-- The root is the least tag, and the only one without a parent.
use Rattle.std.proofs.Common.{◌≡◌, ◌∙◌, ℕ, ◌<◌, ◌≤◌, ◌||◌, Bool, true, false, cond, List, [], ◌∷◌, reverse, refl, ap, sym, arith, Option, Some, None, find}
use Rattle.std.specs.List.{AllByRecursion, list_any}
use Rattle.std.specs.Prelude.{option_and_then, IsSome}
use Rattle.std.proofs.lemmas.Bool.{eqb-true}
use mathlib.Core.List.{reverse_aux}
use Rattle.tb_perm.specs.Rows.{Row, is_tag, HasTag, IsGrown, IsRows}
use Rattle.tb_perm.specs.Pruning.{parent_in}
use Rattle.tb_perm.proofs.Kept.{HasTag-reverse, list_any-reverse_aux}
use Rattle.tb_perm.proofs.Unique.{AreRising-rows, find_self, AllByRecursion-reverse}
use Rattle.tb_perm.proofs.Removed.{find_back, only_row, find_has, parent_older}

-- in rows read from the newest back a tag without a parent is the least
least_back : (t : ℕ) (r : Row) (rows : List Row) → IsGrown rows → find (is_tag t) rows ≡ Some r → r.parent ≡ None → AllByRecursion (λ (row : Row). t ≤ row.tag) rows
least_back t r [] grown found top = absurd grown
least_back t r (row ∷ []) grown found top = at (is_tag t row) refl found
  where
    at : (b : Bool) → is_tag t row ≡ b → cond b (Some row) None ≡ Some r → AllByRecursion (λ (x : Row). t ≤ x.tag) (row ∷ [])
    at true is found = let same : row.tag ≡ t = eqb-true row.tag t is in (omega (arith, same), tt)
    at false is found = cc
least_back t r (row ∷ next ∷ older) grown found top = at (is_tag t row) found (least_back t r (next ∷ older) grown.1)
  where
    at : (b : Bool) → cond b (Some row) (find (is_tag t) (next ∷ older)) ≡ Some r → (find (is_tag t) (next ∷ older) ≡ Some r → r.parent ≡ None → AllByRecursion (λ (x : Row). t ≤ x.tag) (next ∷ older)) → AllByRecursion (λ (x : Row). t ≤ x.tag) (row ∷ next ∷ older)
    at true found later =
        let one : row ≡ r = cc in
        let clash : Some grown.0.parent ≡ None = sym grown.0.is_parent ∙ ap (λ (x : Row). x.parent) one ∙ top in
        cc
    at false found later =
        let rest = later found top in
        (omega (arith, rest.0, grown.0.above.0), rest)

pub all_reverse : (P : Row → Type 0) (rows : List Row) → AllByRecursion P (reverse rows) → AllByRecursion P rows
all_reverse P rows all = (walk rows [] all).0
  where
    walk : (xs ys : List Row) → AllByRecursion P (reverse_aux xs ys) → AllByRecursion P xs × AllByRecursion P ys
    walk [] ys all = (tt, all)
    walk (x ∷ xs) ys all = let rest = walk xs (x ∷ ys) all in ((rest.1.0, rest.0), rest.1.1)

pub back : (size : ℕ) (rows : List Row) (t : ℕ) (r : Row) → IsRows size rows → find (is_tag t) rows ≡ Some r → find (is_tag t) (reverse rows) ≡ Some r
back size rows t r is found =
    let finds = AllByRecursion-reverse (λ (row : Row). find (is_tag row.tag) rows ≡ Some row) rows (find_self rows (AreRising-rows size rows is)) in
    find_back (reverse rows) t r (only_row rows (reverse rows) t r found finds) (HasTag-reverse rows t (find_has rows t r found))

pub none_has : (rows : List Row) (t : ℕ) → find (is_tag t) rows ≡ None → HasTag rows t → ⊥
none_has [] t none has = cc
none_has (row ∷ rows) t none has = at (is_tag t row) none has (none_has rows t)
  where
    at : (b : Bool) → cond b (Some row) (find (is_tag t) rows) ≡ None → (b || list_any (is_tag t) rows) ≡ true → (find (is_tag t) rows ≡ None → HasTag rows t → ⊥) → ⊥
    at true none has later = cc
    at false none has later = later none has

or_false_true : (a : Bool) → (a || false) ≡ true → a ≡ true
or_false_true true h = refl
or_false_true false h = h

pub has_forward : (rows : List Row) (t : ℕ) → HasTag (reverse rows) t → HasTag rows t
has_forward rows t has = or_false_true (list_any (is_tag t) rows) (sym (list_any-reverse_aux (is_tag t) rows []) ∙ has)

-- a tag of the tree without a parent is the least
pub root_least : (size : ℕ) (rows : List Row) (t : ℕ) → IsRows size rows → HasTag rows t → parent_in rows t ≡ None → AllByRecursion (λ (row : Row). t ≤ row.tag) rows
root_least size rows t is has top = at (find (is_tag t) rows) refl top
  where
    at : (o : Option Row) → find (is_tag t) rows ≡ o → option_and_then (λ (row : Row). row.parent) o ≡ None → AllByRecursion (λ (row : Row). t ≤ row.tag) rows
    at None found top = absurd (none_has rows t found has)
    at (Some r) found top = all_reverse (λ (row : Row). t ≤ row.tag) rows (least_back t r (reverse rows) is.grown (back size rows t r is found) top)

-- any other tag has a lesser parent in the tree
pub parent_lesser : (size : ℕ) (rows : List Row) (t p : ℕ) → IsRows size rows → parent_in rows t ≡ Some p → HasTag rows p × (p < t)
parent_lesser size rows t p is up = at (find (is_tag t) rows) refl up
  where
    at : (o : Option Row) → find (is_tag t) rows ≡ o → option_and_then (λ (row : Row). row.parent) o ≡ Some p → HasTag rows p × (p < t)
    at None found up = cc
    at (Some r) found up =
        let older = parent_older (reverse rows) t p r is.grown (back size rows t r is found) up in
        (has_forward rows p older.0, older.1)

pub lesser_clash : (rows : List Row) (t u : ℕ) → AllByRecursion (λ (row : Row). t ≤ row.tag) rows → HasTag rows u → u < t → ⊥
lesser_clash [] t u all has less = cc
lesser_clash (row ∷ rows) t u all has less = at (is_tag u row) refl has (lesser_clash rows t u all.1)
  where
    at : (b : Bool) → is_tag u row ≡ b → (b || list_any (is_tag u) rows) ≡ true → (HasTag rows u → u < t → ⊥) → ⊥
    at true is has later = let same : row.tag ≡ u = eqb-true row.tag u is in absurd (omega (arith, same, all.0, less))
    at false is has later = later has less

-- a tag below which there is none has no parent
pub least_root : (size : ℕ) (rows : List Row) (t : ℕ) → IsRows size rows → AllByRecursion (λ (row : Row). t ≤ row.tag) rows → parent_in rows t ≡ None
least_root size rows t is all = at (parent_in rows t) refl
  where
    at : (o : Option ℕ) → parent_in rows t ≡ o → o ≡ None
    at None up = refl
    at (Some p) up = let lesser = parent_lesser size rows t p is up in absurd (lesser_clash rows t p all lesser.0 lesser.1)

-- a tag below which there is another has a parent
pub lesser_child : (size : ℕ) (rows : List Row) (t u : ℕ) → IsRows size rows → HasTag rows t → HasTag rows u → u < t → IsSome (parent_in rows t)
lesser_child size rows t u is has there less = at (parent_in rows t) refl
  where
    at : (o : Option ℕ) → parent_in rows t ≡ o → IsSome o
    at None up = absurd (lesser_clash rows t u (root_least size rows t is has up) there less)
    at (Some p) up = refl
