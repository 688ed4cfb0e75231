-- The children of a tag among the rows that are left are its topmost descendants that stay.
use Rattle.std.proofs.Common.{◌≡◌, ◌∙◌, ◌≢◌, ◌⊎◌, ◌↔◌, IsTrue, ◌&&◌, ◌||◌, ℕ, zero, suc, ◌<◌, ◌≤◌, Bool, true, false, not, List, reverse, refl, ap, sym, subst, arith, Option, Some, None, find, inl, inr, ◌==◌}
use Rattle.std.specs.Prelude.{option_and_then}
use Rattle.std.specs.List.{list_any}
use Rattle.std.proofs.lemmas.Bool.{eqb-true, cases_eq}
use Rattle.tb_perm.specs.Rows.{Row, is_tag, HasTag, IsRows, is_on_path, guard_in}
use Rattle.tb_perm.specs.Table.{is_guarded}
use Rattle.tb_perm.specs.Release.{is_below}
use Rattle.tb_perm.specs.Pruning.{parent_in, perm_in, IsLeaf, IsOnlyChild, Folds}
use Rattle.tb_perm.specs.Covers.{Covers}
use Rattle.tb_perm.proofs.Found.{has_found, found_tag}
use Rattle.tb_perm.proofs.Paths.{path_self, path_falls, path_top, path_up, path_below}
use Rattle.tb_perm.proofs.Removed.{find_has}
use Rattle.tb_perm.proofs.Roots.{parent_lesser}
use Rattle.tb_stands.specs.Restricted.{restricted}
use Rattle.tb_stands.specs.Stands.{MayMiss}
use Rattle.tb_stands.proofs.Ways.{path_away, own_keeps, own_has, on_own, has_back}
use Rattle.tb_stands.proofs.Below.{not_both, below_on, on_below, below_less}
use Rattle.tb_stands.proofs.Folds.{guard_own, perm_own}
use Rattle.tb_prune.specs.Visits.{MayGo}

pub child_has : (rows : List Row) (u t : ℕ) → parent_in rows u ≡ Some t → HasTag rows u
child_has rows u t up = at (find (is_tag u) rows) refl up
  where
    at : (o : Option Row) → find (is_tag u) rows ≡ o → option_and_then (λ (row : Row). row.parent) o ≡ Some t → HasTag rows u
    at None found up = cc
    at (Some r) found up = find_has rows u r found

-- only a tag that has a row has ancestors
path_there : (rows : List Row) (u t : ℕ) → is_on_path rows u t ≡ true → HasTag rows u
path_there rows u t on = at (list_any (is_tag u) rows) refl
  where
    at : (b : Bool) → list_any (is_tag u) rows ≡ b → list_any (is_tag u) rows ≡ true
    at true has = has
    at false away = absurd (not_both false (sym (ap (list_any (is_tag t)) (path_away (reverse rows) u (has_back (λ k. true) rows u ∙ away))) ∙ on) refl)

module _ (size : ℕ) (now : List Row) (is : IsRows size now) where
  pub child_below : (u t : ℕ) → parent_in now u ≡ Some t → is_below now t u ≡ true
  child_below u t up =
      let lesser = parent_lesser size now u t is up in
      on_below now t u (path_below size now u t t is up (path_self now t lesser.0)) (apart lesser.1)
    where
      apart : t < u → u ≢ t
      apart less same = absurd (omega (arith, less, same))

  -- above each strict descendant, or there, is a child
  child_on : (n u t : ℕ) → u < n → is_on_path now u t ≡ true → u ≢ t → (c : ℕ) × (parent_in now c ≡ Some t) × (is_on_path now u c ≡ true)
  child_on zero u t less on differs = absurd (omega (arith, less))
  child_on (suc n) u t less on differs = at found.0.parent refl (λ q under on differs. child_on n q t under on differs)
    where
      has : HasTag now u
      has = path_there now u t on

      found : (r : Row) × (find (is_tag u) now ≡ Some r)
      found = has_found now u has

      up : parent_in now u ≡ found.0.parent
      up = ap (option_and_then (λ (row : Row). row.parent)) found.1

      top : found.0.parent ≡ None → ⊥
      top none = at_tag (found.0.tag == t) refl (sym (ap (list_any (is_tag t)) (path_top size now u found.0 is found.1 none)) ∙ on)
        where
          at_tag : (b : Bool) → (found.0.tag == t) ≡ b → ((found.0.tag == t) || false) ≡ true → ⊥
          at_tag true same on = differs (sym (found_tag now u found.0 found.1) ∙ eqb-true found.0.tag t same)
          at_tag false other on = not_both false (sym (ap (λ b. b || false) other) ∙ on) refl

      at : (o : Option ℕ) → found.0.parent ≡ o → ((q : ℕ) → q < n → is_on_path now q t ≡ true → q ≢ t → (c : ℕ) × (parent_in now c ≡ Some t) × (is_on_path now q c ≡ true)) → (c : ℕ) × (parent_in now c ≡ Some t) × (is_on_path now u c ≡ true)
      at None none later = absurd (top none)
      at (Some q) above later = by (cases_eq q t)
        where
          up_q : parent_in now u ≡ Some q
          up_q = up ∙ above

          by : (q ≡ t) ⊎ (q ≢ t) → (c : ℕ) × (parent_in now c ≡ Some t) × (is_on_path now u c ≡ true)
          by (inl same) = (u, up_q ∙ ap Some same, path_self now u has)
          by (inr other) =
              let lesser = parent_lesser size now u q is up_q in
              let small : q < u = lesser.1 in
              let rest = later q (omega (arith, less, small)) (path_up size now u q t is up_q differs on) other in
              (rest.0, rest.1, path_below size now u q rest.0 is up_q rest.2)

  pub child_above : (u t : ℕ) → is_below now t u ≡ true → (c : ℕ) × (parent_in now c ≡ Some t) × (is_on_path now u c ≡ true)
  child_above u t below = let parts = below_on now t u below in child_on (suc u) u t (omega arith) parts.0 parts.1

module _ (stays : ℕ → Bool) (size : ℕ) (rows : List Row) (is : IsRows size rows) (sound : IsRows size (restricted stays rows)) (t : ℕ) (keeps : stays t ≡ true) where
  below_same : (u : ℕ) → stays u ≡ true → is_below (restricted stays rows) t u ≡ is_below rows t u
  below_same u keeps_u = ap (λ b. not (u == t) && b) (on_own stays rows size u t is keeps_u keeps)

  folds_same : (c byte : ℕ) → stays c ≡ true → Covers (perm_in (restricted stays rows) t byte) (perm_in (restricted stays rows) c byte) (is_guarded (guard_in (restricted stays rows) c)) → Covers (perm_in rows t byte) (perm_in rows c byte) (is_guarded (guard_in rows c))
  folds_same c byte keeps_c covers =
      subst (λ p. Covers p (perm_in rows c byte) (is_guarded (guard_in rows c))) (perm_own stays rows t byte keeps)
      (subst (λ p. Covers (perm_in (restricted stays rows) t byte) p (is_guarded (guard_in rows c))) (perm_own stays rows c byte keeps_c)
      (subst (λ g. Covers (perm_in (restricted stays rows) t byte) (perm_in (restricted stays rows) c byte) (is_guarded g)) (guard_own stays rows c keeps_c) covers))

  folds_back : (c byte : ℕ) → stays c ≡ true → Covers (perm_in rows t byte) (perm_in rows c byte) (is_guarded (guard_in rows c)) → Covers (perm_in (restricted stays rows) t byte) (perm_in (restricted stays rows) c byte) (is_guarded (guard_in (restricted stays rows) c))
  folds_back c byte keeps_c covers =
      subst (λ p. Covers p (perm_in (restricted stays rows) c byte) (is_guarded (guard_in (restricted stays rows) c))) (sym (perm_own stays rows t byte keeps))
      (subst (λ p. Covers (perm_in rows t byte) p (is_guarded (guard_in (restricted stays rows) c))) (sym (perm_own stays rows c byte keeps_c))
      (subst (λ g. Covers (perm_in rows t byte) (perm_in rows c byte) (is_guarded g)) (sym (guard_own stays rows c keeps_c)) covers))

  -- what is below the tag is at or below a child of it that stays
  child_of : (u : ℕ) → stays u ≡ true → is_below rows t u ≡ true → (c : ℕ) × (parent_in (restricted stays rows) c ≡ Some t) × (is_on_path (restricted stays rows) u c ≡ true)
  child_of u keeps_u below = child_above size (restricted stays rows) sound u t (below_same u keeps_u ∙ below)

  child_keeps : (c : ℕ) → parent_in (restricted stays rows) c ≡ Some t → stays c ≡ true
  child_keeps c up = own_keeps stays rows c (child_has (restricted stays rows) c t up)

  child_there : (c : ℕ) → parent_in (restricted stays rows) c ≡ Some t → HasTag rows c
  child_there c up = own_has stays rows c (child_has (restricted stays rows) c t up)

  child_under : (c : ℕ) → parent_in (restricted stays rows) c ≡ Some t → is_below rows t c ≡ true
  child_under c up = sym (below_same c (child_keeps c up)) ∙ child_below size (restricted stays rows) sound c t up

  pub go_miss : MayGo size (restricted stays rows) t → MayMiss stays size rows t
  go_miss (inl leaf) = inl (λ u has keeps_u. at u keeps_u (is_below rows t u) refl)
    where
      at : (u : ℕ) → stays u ≡ true → (b : Bool) → is_below rows t u ≡ b → is_below rows t u ≡ false
      at u keeps_u true below = let c = child_of u keeps_u below in absurd (leaf c.0 c.1)
      at u keeps_u false none = none
  go_miss (inr some) =
      let up : parent_in (restricted stays rows) some.0 ≡ Some t = some.1.0 in
      inr (
        some.0,
        record {
          there = child_there some.0 up;
          keeps = child_keeps some.0 up;
          below = child_under some.0 up;
          topmost = λ u has keeps_u below.
              let c = child_of u keeps_u below in
              sym (on_own stays rows size u some.0 is keeps_u (child_keeps some.0 up)) ∙ ap (is_on_path (restricted stays rows) u) (sym (some.1.1 c.0 c.1)) ∙ c.2;
          folds = λ byte within. folds_same some.0 byte (child_keeps some.0 up) (some.2 byte within);
        },
      )

  pub miss_go : MayMiss stays size rows t → MayGo size (restricted stays rows) t
  miss_go (inl bare) = inl (λ u up. not_both (is_below rows t u) (child_under u up) (bare u (child_there u up) (child_keeps u up)))
  miss_go (inr some) = inr (some.0, (parent, only), (λ byte within. folds_back some.0 byte some.1.keeps (some.1.folds byte within)))
    where
      same_tag : (a b : ℕ) → is_on_path rows a b ≡ true → is_on_path rows b a ≡ true → a ≡ b
      same_tag a b on back =
          let low : b ≤ a = path_falls size rows a b is on in
          let high : a ≤ b = path_falls size rows b a is back in
          omega (arith, low, high)

      parent : parent_in (restricted stays rows) some.0 ≡ Some t
      parent =
          let c = child_of some.0 some.1.keeps some.1.below in
          let on : is_on_path rows some.0 c.0 ≡ true = sym (on_own stays rows size some.0 c.0 is some.1.keeps (child_keeps c.0 c.1)) ∙ c.2 in
          let back : is_on_path rows c.0 some.0 ≡ true = some.1.topmost c.0 (child_there c.0 c.1) (child_keeps c.0 c.1) (child_under c.0 c.1) in
          ap (parent_in (restricted stays rows)) (same_tag some.0 c.0 on back) ∙ c.1

      only : (u : ℕ) → parent_in (restricted stays rows) u ≡ Some t → u ≡ some.0
      only u up = at (cases_eq u some.0)
        where
          at : (u ≡ some.0) ⊎ (u ≢ some.0) → u ≡ some.0
          at (inl same) = same
          at (inr differs) =
              let on : is_on_path (restricted stays rows) u some.0 ≡ true = on_own stays rows size u some.0 is (child_keeps u up) some.1.keeps ∙ some.1.topmost u (child_there u up) (child_keeps u up) (child_under u up) in
              let high : some.0 ≤ t = path_falls size (restricted stays rows) t some.0 sound (path_up size (restricted stays rows) u t some.0 sound up differs on) in
              let low : t < some.0 = below_less size rows t some.0 is some.1.below in
              absurd (omega (arith, high, low))

-- a tag that has a child that does not cover it may not go
pub may_not : (size : ℕ) (rows : List Row) (t child : ℕ) (leaf covers : Bool) → leaf ≡ false → IsTrue leaf ↔ IsLeaf rows t → IsOnlyChild rows t child → IsTrue covers ↔ Folds rows size t child (is_guarded (guard_in rows child)) → covers ≡ false → MayGo size rows t → ⊥
may_not size rows t child leaf covers no_leaf tells only folds uncovered (inl is_leaf) = not_both leaf (tells.1 is_leaf) no_leaf
may_not size rows t child leaf covers no_leaf tells only folds uncovered (inr some) =
    not_both covers (folds.1 (subst (λ k. Folds rows size t k (is_guarded (guard_in rows k))) (only.1 some.0 some.1.0) some.2)) uncovered
