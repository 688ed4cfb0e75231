-- Own rows are the rows of an allocation.
use Rattle.std.proofs.Common.{◌≡◌, ◌∙◌, ◌||◌, ℕ, ◌<◌, Bool, true, false, cond, List, [], ◌∷◌, length, reverse, refl, ap, sym, subst, Some, None, find, ◌==◌}
use Rattle.std.specs.Prelude.{option_map, is_some}
use Rattle.std.specs.List.{list_any, AllByRecursion}
use Rattle.std.proofs.lemmas.Bool.{eq-eqb, or_left, or_right}
use mathlib.Core.List.{reverse_aux}
use Rattle.tb_perm.specs.Rows.{Row, is_tag, HasTag, IsGrown, IsRows, path_from}
use Rattle.tb_perm.proofs.Found.{found_tag}
use Rattle.tb_perm.proofs.Kept.{IsGrown-next}
use Rattle.tb_stands.specs.Restricted.{is_kept, nearest, raised, restricted}
use Rattle.tb_stands.specs.Stands.{KeepsRoot, Stands}
use Rattle.tb_stands.specs.Folded.{Prunes, folded}
use Rattle.tb_stands.proofs.Lists.{some_of, front, some_of-step, find_some, any_find, some_map}
use Rattle.tb_stands.proofs.Ways.{grown_back, path_none, Agrees, agrees_older, nearest_older, reverse_own}
use Rattle.tb_stands.proofs.FoldLaws.{left_same}
use Rattle.tb_stands.proofs.Computes.{stays, computes, left_list}

-- the oldest row is kept
abbrev LastKept : (ℕ → Bool) → List Row → Type 0
LastKept kept [] = ⊥
LastKept kept (row ∷ []) = kept row.tag ≡ true
LastKept kept (row ∷ next ∷ older) = LastKept kept (next ∷ older)

last_kept : (kept : ℕ → Bool) (xs : List Row) (y : Row) (ys : List Row) → LastKept kept (y ∷ ys) → LastKept kept (reverse_aux xs (y ∷ ys))
last_kept kept [] y ys last = last
last_kept kept (x ∷ xs) y ys last = last_kept kept xs x (y ∷ ys) last

root_last : (kept : ℕ → Bool) (rows : List Row) → KeepsRoot kept rows → LastKept kept (reverse rows)
root_last kept [] root = absurd root
root_last kept (row ∷ rows) root = last_kept kept rows row [] root

-- some tag on each path is kept
nearest_some : (kept : ℕ → Bool) (back : List Row) (p : ℕ) → IsGrown back → LastKept kept back → HasTag back p → (q : ℕ) × (nearest kept back (Some p) ≡ Some q) × (kept q ≡ true) × HasTag back q
nearest_some kept [] p grown last has = absurd grown
nearest_some kept (row ∷ []) p grown last has = at (row.tag == p) has
  where
    at : (b : Bool) → (b || false) ≡ true → (q : ℕ) × (option_map (λ (x : Row). x.tag) (find (is_kept kept) (cond b (row ∷ []) [])) ≡ Some q) × (kept q ≡ true) × HasTag (row ∷ []) q
    at true has = (row.tag, ap (λ d. option_map (λ (x : Row). x.tag) (cond d (Some row) None)) last, last, or_left _ _ (eq-eqb row.tag row.tag refl))
    at false has = absurd (let clash : false ≡ true = has in cc)
nearest_some kept (row ∷ next ∷ older) p grown last has =
    at (row.tag == p) has (kept row.tag) refl (nearest_some kept (next ∷ older) grown.0.parent grown.1 last grown.0.has_parent) (λ there. nearest_some kept (next ∷ older) p grown.1 last there)
  where
    up : find (is_kept kept) (path_from (next ∷ older) row.parent) ≡ find (is_kept kept) (path_from (next ∷ older) (Some grown.0.parent))
    up = ap (λ o. find (is_kept kept) (path_from (next ∷ older) o)) grown.0.is_parent

    at : (b : Bool) → (b || list_any (is_tag p) (next ∷ older)) ≡ true → (c : Bool) → kept row.tag ≡ c
        → (q : ℕ) × (nearest kept (next ∷ older) (Some grown.0.parent) ≡ Some q) × (kept q ≡ true) × HasTag (next ∷ older) q
        → (HasTag (next ∷ older) p → (q : ℕ) × (nearest kept (next ∷ older) (Some p) ≡ Some q) × (kept q ≡ true) × HasTag (next ∷ older) q)
        → (q : ℕ) × (option_map (λ (x : Row). x.tag) (find (is_kept kept) (cond b (row ∷ path_from (next ∷ older) row.parent) (path_from (next ∷ older) (Some p)))) ≡ Some q) × (kept q ≡ true) × HasTag (row ∷ next ∷ older) q
    at true has true keeps above later = (
      row.tag,
      ap (λ d. option_map (λ (x : Row). x.tag) (cond d (Some row) (find (is_kept kept) (path_from (next ∷ older) row.parent)))) keeps,
      keeps,
      or_left _ _ (eq-eqb row.tag row.tag refl),
    )
    at true has false drops above later = (
      above.0,
      ap (λ d. option_map (λ (x : Row). x.tag) (cond d (Some row) (find (is_kept kept) (path_from (next ∷ older) row.parent)))) drops ∙ ap (option_map (λ (x : Row). x.tag)) up ∙ above.1,
      above.2,
      or_right (is_tag above.0 row) _ above.3,
    )
    at false has c is above later = let rest = later has in (rest.0, rest.1, rest.2, or_right (is_tag rest.0 row) _ rest.3)

module _ (kept : ℕ → Bool) (rows : List Row) where
  abbrev left : List Row → List Row
  left xs = some_of (is_kept kept) (raised kept rows) xs

  has_left : (q : ℕ) (xs : List Row) → kept q ≡ true → list_any (is_tag q) (some_of (is_kept kept) (raised kept rows) xs) ≡ list_any (is_tag q) xs
  has_left q xs keeps =
      any_find (is_tag q) (left xs)
      ∙ ap is_some (find_some (is_tag q) (is_tag q) (is_kept kept) (raised kept rows) (λ row is. refl) xs (λ row found. ap kept (found_tag xs q row found) ∙ keeps))
      ∙ some_map (raised kept rows) (find (is_tag q) xs)
      ∙ sym (any_find (is_tag q) xs)

  below_left : (n : ℕ) (xs : List Row) → AllByRecursion (λ (o : Row). o.tag < n) xs → AllByRecursion (λ (o : Row). o.tag < n) (some_of (is_kept kept) (raised kept rows) xs)
  below_left n [] all = tt
  below_left n (x ∷ xs) all = subst (AllByRecursion (λ (o : Row). o.tag < n)) (sym (some_of-step (is_kept kept) (raised kept rows) x xs)) (at (kept x.tag) (below_left n xs all.1))
    where
      at : (b : Bool) → AllByRecursion (λ (o : Row). o.tag < n) (some_of (is_kept kept) (raised kept rows) xs) → AllByRecursion (λ (o : Row). o.tag < n) (front b (raised kept rows x) (some_of (is_kept kept) (raised kept rows) xs))
      at true rest = (all.0, rest)
      at false rest = rest

  sized_left : (size : ℕ) (xs : List Row) → AllByRecursion (λ (o : Row). length o.states ≡ size) xs → AllByRecursion (λ (o : Row). length o.states ≡ size) (some_of (is_kept kept) (raised kept rows) xs)
  sized_left size [] all = tt
  sized_left size (x ∷ xs) all = subst (AllByRecursion (λ (o : Row). length o.states ≡ size)) (sym (some_of-step (is_kept kept) (raised kept rows) x xs)) (at (kept x.tag) (sized_left size xs all.1))
    where
      at : (b : Bool) → AllByRecursion (λ (o : Row). length o.states ≡ size) (some_of (is_kept kept) (raised kept rows) xs) → AllByRecursion (λ (o : Row). length o.states ≡ size) (front b (raised kept rows x) (some_of (is_kept kept) (raised kept rows) xs))
      at true rest = (all.0, rest)
      at false rest = rest

  grown_left : (back : List Row) → IsGrown back → LastKept kept back → Agrees kept rows back → IsGrown (some_of (is_kept kept) (raised kept rows) back)
  grown_left [] grown last agrees = grown
  grown_left (row ∷ []) grown last agrees =
      subst IsGrown (sym (some_of-step (is_kept kept) (raised kept rows) row [] ∙ ap (λ b. front b (raised kept rows row) []) last))
      (ap (nearest kept (reverse rows)) grown ∙ ap (λ xs. option_map (λ (x : Row). x.tag) (find (is_kept kept) xs)) (path_none (reverse rows)))
  grown_left (row ∷ next ∷ older) grown last agrees =
      subst IsGrown (sym (some_of-step (is_kept kept) (raised kept rows) row (next ∷ older)))
      (at (kept row.tag) (grown_left (next ∷ older) grown.1 last (agrees_older kept rows row (next ∷ older) (grown_back (row ∷ next ∷ older) grown) agrees)) (nearest_some kept (next ∷ older) grown.0.parent grown.1 last grown.0.has_parent))
    where
      near : nearest kept (reverse rows) row.parent ≡ nearest kept (next ∷ older) (Some grown.0.parent)
      near =
          nearest_older kept rows row (next ∷ older) (grown_back (row ∷ next ∷ older) grown) (agrees_older kept rows row (next ∷ older) (grown_back (row ∷ next ∷ older) grown) agrees) row.parent refl
          ∙ ap (nearest kept (next ∷ older)) grown.0.is_parent

      at : (b : Bool) → IsGrown (some_of (is_kept kept) (raised kept rows) (next ∷ older)) → (q : ℕ) × (nearest kept (next ∷ older) (Some grown.0.parent) ≡ Some q) × (kept q ≡ true) × HasTag (next ∷ older) q → IsGrown (front b (raised kept rows row) (some_of (is_kept kept) (raised kept rows) (next ∷ older)))
      at true rest some =
          IsGrown-next (left (next ∷ older)) (raised kept rows row)
          (record {
            above = below_left row.tag (next ∷ older) grown.0.above;
            parent = some.0;
            is_parent = near ∙ some.1;
            has_parent = has_left some.0 (next ∷ older) some.2 ∙ some.3;
          })
          rest
      at false rest some = rest

  pub own_rows : (size : ℕ) → IsRows size rows → KeepsRoot kept rows → IsRows size (restricted kept rows)
  own_rows size is root =
      record {
        grown = subst IsGrown (sym (reverse_own kept rows)) (grown_left (reverse rows) is.grown (root_last kept rows root) (λ p has. refl));
        sized = sized_left size rows is.sized;
      }

-- own rows that stand are rows
pub stands_rows : (size : ℕ) (own rows : List Row) (reached : List ℕ) → Stands size own rows reached → IsRows size own
stands_rows size own rows reached stands = subst (IsRows size) (sym stands.1.are) (own_rows stands.0 rows size stands.1.sound stands.1.root)

-- the folded tags are the same
pub folded_same : (size : ℕ) (own rows : List Row) (reached : List ℕ) → Stands size own rows reached → folded size own reached ≡ folded size rows reached
folded_same size own rows reached stands =
    let is = stands_rows size own rows reached stands in
    let pruned : Prunes size reached own (restricted (stays size own reached is) own) = (stays size own reached is, computes size own reached is, refl) in
    sym (left_list size own reached is (restricted (stays size own reached is) own) pruned)
    ∙ left_list size rows reached stands.1.sound (restricted (stays size own reached is) own) (left_same size own rows (restricted (stays size own reached is) own) reached stands pruned)
