-- The path to the root among the kept rows is the kept part of the path among all.
use Rattle.std.proofs.Common.{◌≡◌, ◌∙◌, ◌||◌, ℕ, ◌<◌, Bool, true, false, cond, List, [], ◌∷◌, reverse, refl, ap, sym, subst, arith, Option, Some, None, find, ◌==◌}
use Rattle.std.specs.Prelude.{option_map, is_some}
use Rattle.std.specs.List.{list_any, AllByRecursion}
use Rattle.std.proofs.lemmas.Bool.{eqb-true, eq-eqb, ne_eqb}
use Rattle.std.proofs.lemmas.Option.{same_Some}
use Rattle.tb_perm.specs.Rows.{Row, is_tag, is_asked, HasTag, IsGrown, IsRows, path_from, path_to_root, is_on_path}
use Rattle.tb_perm.proofs.Kept.{list_any-reverse_aux}
use Rattle.tb_perm.proofs.Found.{found_tag}
use Rattle.tb_perm.proofs.Removed.{below_tag}
use Rattle.tb_perm.proofs.Unique.{AllByRecursion-path_from}
use Rattle.tb_stands.specs.Restricted.{is_kept, nearest, raised, restricted}
use Rattle.tb_stands.proofs.Lists.{some_of, front, some_of-step, reverse_some, find_some, any_find, some_map}

-- rows read from the newest back: tags fall, and a parent is older than its child
abbrev pub IsBack : List Row → Type 0
IsBack [] = Unit {0}
IsBack (row ∷ older) = AllByRecursion (λ (o : Row). o.tag < row.tag) older × ((p : ℕ) → row.parent ≡ Some p → HasTag older p) × IsBack older

pub grown_back : (rows : List Row) → IsGrown rows → IsBack rows
grown_back [] grown = absurd grown
grown_back (row ∷ []) grown = (tt, λ p up. absurd (let clash : Some p ≡ None = sym up ∙ grown in cc), tt)
grown_back (row ∷ next ∷ older) grown = (
  grown.0.above,
  λ p up. subst (HasTag (next ∷ older)) (same_Some grown.0.parent p (sym grown.0.is_parent ∙ up)) grown.0.has_parent,
  grown_back (next ∷ older) grown.1,
)

pub path_none : (rows : List Row) → path_from rows None ≡ []
path_none [] = refl
path_none (row ∷ older) = path_none older

pub passed : (row : Row) (older : List Row) (t : ℕ) → (row.tag == t) ≡ false → path_from (row ∷ older) (Some t) ≡ path_from older (Some t)
passed row older t other = ap (λ b. cond b (row ∷ path_from older row.parent) (path_from older (Some t))) other

-- a number that no tag has has no path
pub path_away : (rows : List Row) (t : ℕ) → list_any (is_tag t) rows ≡ false → path_from rows (Some t) ≡ []
path_away [] t away = refl
path_away (row ∷ older) t away = at (row.tag == t) away (path_away older t)
  where
    at : (b : Bool) → (b || list_any (is_tag t) older) ≡ false → (list_any (is_tag t) older ≡ false → path_from older (Some t) ≡ []) → cond b (row ∷ path_from older row.parent) (path_from older (Some t)) ≡ []
    at true away later = absurd (let clash : true ≡ false = away in cc)
    at false away later = later away

-- what holds of all rows holds of the one that is found
pub find_All : (P : Row → Type 0) (q : Row → Bool) (rows : List Row) (r : Row) → AllByRecursion P rows → find q rows ≡ Some r → P r
find_All P q [] r all found = cc
find_All P q (row ∷ rows) r all found = at (q row) found (find_All P q rows r all.1)
  where
    at : (b : Bool) → cond b (Some row) (find q rows) ≡ Some r → (find q rows ≡ Some r → P r) → P r
    at true found later = subst P (same_row row r found) all.0
      where
        same_row : (x y : Row) → Some x ≡ Some y → x ≡ y
        same_row x y h = cc
    at false found later = later found

-- the nearest kept tag on a path among older rows is one of them
nearest_less : (kept : ℕ → Bool) (older : List Row) (k : ℕ) (asked : Option ℕ) → AllByRecursion (λ (o : Row). o.tag < k) older → (p : ℕ) → nearest kept older asked ≡ Some p → p < k
nearest_less kept older k asked above p near = at (find (is_kept kept) (path_from older asked)) refl near
  where
    at : (o : Option Row) → find (is_kept kept) (path_from older asked) ≡ o → option_map (λ (row : Row). row.tag) o ≡ Some p → p < k
    at None found near = cc
    at (Some r) found near = subst (λ n. n < k) (same_Some r.tag p near) (find_All (λ (o : Row). o.tag < k) (is_kept kept) (path_from older asked) r (AllByRecursion-path_from (λ (o : Row). o.tag < k) older asked above) found)

-- a row that is newer than what is asked for is passed
skipped : (row : Row) (rows : List Row) (o : Option ℕ) → ((p : ℕ) → o ≡ Some p → p < row.tag) → path_from (row ∷ rows) o ≡ path_from rows o
skipped row rows None less = refl
skipped row rows (Some p) less = passed row rows p (ne_eqb row.tag p (λ same. let small : p < row.tag = less p refl in absurd (omega (arith, small, same))))

pub nearest_self : (kept : ℕ → Bool) (back : List Row) (t : ℕ) → kept t ≡ true → HasTag back t → nearest kept back (Some t) ≡ Some t
nearest_self kept [] t keeps has = absurd (cc)
nearest_self kept (row ∷ older) t keeps has = at (row.tag == t) refl has (nearest_self kept older t keeps)
  where
    at : (b : Bool) → (row.tag == t) ≡ b → (b || list_any (is_tag t) older) ≡ true → (HasTag older t → nearest kept older (Some t) ≡ Some t) → option_map (λ (x : Row). x.tag) (find (is_kept kept) (cond b (row ∷ path_from older row.parent) (path_from older (Some t)))) ≡ Some t
    at true same has later =
        let tag : row.tag ≡ t = eqb-true row.tag t same in
        ap (λ b. option_map (λ (x : Row). x.tag) (cond b (Some row) (find (is_kept kept) (path_from older row.parent)))) (ap kept tag ∙ keeps) ∙ ap Some tag
    at false other has later = later has

module _ (kept : ℕ → Bool) (rows : List Row) where
  -- the older rows have the same paths as all
  abbrev pub Agrees : List Row → Type 0
  Agrees back = (p : ℕ) → HasTag back p → path_from (reverse rows) (Some p) ≡ path_from back (Some p)

  pub agrees_older : (row : Row) (older : List Row) → IsBack (row ∷ older) → Agrees (row ∷ older) → Agrees older
  agrees_older row older is agrees p has =
      let less : p < row.tag = below_tag row.tag p older is.0 has in
      agrees p (or_there (is_tag p row) has) ∙ passed row older p (ne_eqb row.tag p (λ same. absurd (omega (arith, less, same))))
    where
      or_there : (b : Bool) → list_any (is_tag p) older ≡ true → (b || list_any (is_tag p) older) ≡ true
      or_there true h = refl
      or_there false h = h

  pub nearest_older : (row : Row) (older : List Row) → IsBack (row ∷ older) → Agrees older → (o : Option ℕ) → row.parent ≡ o → nearest kept (reverse rows) o ≡ nearest kept older o
  nearest_older row older is agrees None up = ap (λ xs. option_map (λ (x : Row). x.tag) (find (is_kept kept) xs)) (path_none (reverse rows) ∙ sym (path_none older))
  nearest_older row older is agrees (Some p) up = ap (λ xs. option_map (λ (x : Row). x.tag) (find (is_kept kept) xs)) (agrees p (is.1 p up))

  path_left : (back : List Row) (asked : Option ℕ) → IsBack back → Agrees back → path_from (some_of (is_kept kept) (raised kept rows) back) (nearest kept back asked) ≡ some_of (is_kept kept) (raised kept rows) (path_from back asked)
  path_left [] asked is agrees = refl
  path_left (row ∷ older) asked is agrees =
      ap (λ xs. path_from xs (nearest kept (row ∷ older) asked)) (some_of-step (is_kept kept) (raised kept rows) row older)
      ∙ at (is_asked asked row) (kept row.tag) refl (path_left older row.parent is.2 (agrees_older row older is agrees)) (path_left older asked is.2 (agrees_older row older is agrees))
    where
      left : List Row
      left = some_of (is_kept kept) (raised kept rows) older

      at : (b c : Bool) → kept row.tag ≡ c
          → path_from (some_of (is_kept kept) (raised kept rows) older) (nearest kept older row.parent) ≡ some_of (is_kept kept) (raised kept rows) (path_from older row.parent)
          → path_from (some_of (is_kept kept) (raised kept rows) older) (nearest kept older asked) ≡ some_of (is_kept kept) (raised kept rows) (path_from older asked)
          → path_from (front c (raised kept rows row) (some_of (is_kept kept) (raised kept rows) older)) (option_map (λ (x : Row). x.tag) (find (is_kept kept) (cond b (row ∷ path_from older row.parent) (path_from older asked))))
          ≡ some_of (is_kept kept) (raised kept rows) (cond b (row ∷ path_from older row.parent) (path_from older asked))
      at true true keeps up on =
          ap (λ d. path_from (raised kept rows row ∷ some_of (is_kept kept) (raised kept rows) older) (option_map (λ (x : Row). x.tag) (cond d (Some row) (find (is_kept kept) (path_from older row.parent))))) keeps
          ∙ ap (λ d. cond d (raised kept rows row ∷ path_from (some_of (is_kept kept) (raised kept rows) older) (nearest kept (reverse rows) row.parent)) (path_from (some_of (is_kept kept) (raised kept rows) older) (Some row.tag))) (eq-eqb row.tag row.tag refl)
          ∙ ap (λ o. raised kept rows row ∷ path_from (some_of (is_kept kept) (raised kept rows) older) o) (nearest_older row older is (agrees_older row older is agrees) row.parent refl)
          ∙ ap (λ xs. raised kept rows row ∷ xs) up
          ∙ sym (some_of-step (is_kept kept) (raised kept rows) row (path_from older row.parent) ∙ ap (λ d. front d (raised kept rows row) (some_of (is_kept kept) (raised kept rows) (path_from older row.parent))) keeps)
      at true false drops up on =
          ap (λ d. path_from (some_of (is_kept kept) (raised kept rows) older) (option_map (λ (x : Row). x.tag) (cond d (Some row) (find (is_kept kept) (path_from older row.parent))))) drops
          ∙ up
          ∙ sym (some_of-step (is_kept kept) (raised kept rows) row (path_from older row.parent) ∙ ap (λ d. front d (raised kept rows row) (some_of (is_kept kept) (raised kept rows) (path_from older row.parent))) drops)
      at false true keeps up on =
          skipped (raised kept rows row) (some_of (is_kept kept) (raised kept rows) older) (nearest kept older asked) (nearest_less kept older row.tag asked is.0) ∙ on
      at false false drops up on = on

  pub reverse_own : reverse (restricted kept rows) ≡ some_of (is_kept kept) (raised kept rows) (reverse rows)
  reverse_own = reverse_some (is_kept kept) (raised kept rows) rows []

  -- the kept rows on a path from anywhere
  pub path_nearest : (size : ℕ) (asked : Option ℕ) → IsRows size rows → path_from (reverse (restricted kept rows)) (nearest kept (reverse rows) asked) ≡ some_of (is_kept kept) (raised kept rows) (path_from (reverse rows) asked)
  path_nearest size asked is =
      ap (λ xs. path_from xs (nearest kept (reverse rows) asked)) reverse_own
      ∙ path_left (reverse rows) asked (grown_back (reverse rows) is.grown) (λ p has. refl)

  -- a search for a kept tag
  pub find_own : (t : ℕ) → kept t ≡ true → find (is_tag t) (restricted kept rows) ≡ option_map (raised kept rows) (find (is_tag t) rows)
  find_own t keeps = find_some (is_tag t) (is_tag t) (is_kept kept) (raised kept rows) (λ row is. refl) rows (λ row found. ap kept (found_tag rows t row found) ∙ keeps)

  pub has_own : (t : ℕ) → kept t ≡ true → list_any (is_tag t) (restricted kept rows) ≡ list_any (is_tag t) rows
  has_own t keeps = any_find (is_tag t) (restricted kept rows) ∙ ap is_some (find_own t keeps) ∙ some_map (raised kept rows) (find (is_tag t) rows) ∙ sym (any_find (is_tag t) rows)

  none_own : (t : ℕ) → kept t ≡ false → (xs : List Row) → list_any (is_tag t) (some_of (is_kept kept) (raised kept rows) xs) ≡ false
  none_own t drops [] = refl
  none_own t drops (x ∷ xs) = ap (list_any (is_tag t)) (some_of-step (is_kept kept) (raised kept rows) x xs) ∙ at (kept x.tag) refl (x.tag == t) refl (none_own t drops xs)
    where
      at : (b : Bool) → kept x.tag ≡ b → (c : Bool) → (x.tag == t) ≡ c → list_any (is_tag t) (some_of (is_kept kept) (raised kept rows) xs) ≡ false → list_any (is_tag t) (front b (raised kept rows x) (some_of (is_kept kept) (raised kept rows) xs)) ≡ false
      at true keeps true same later = let clash : true ≡ false = sym keeps ∙ ap kept (eqb-true x.tag t same) ∙ drops in cc
      at true keeps false other later = ap (λ b. b || list_any (is_tag t) (some_of (is_kept kept) (raised kept rows) xs)) other ∙ later
      at false keeps c is later = later

  -- own tags are kept
  pub own_keeps : (t : ℕ) → HasTag (restricted kept rows) t → kept t ≡ true
  own_keeps t has = at (kept t) refl
    where
      at : (b : Bool) → kept t ≡ b → kept t ≡ true
      at true keeps = keeps
      at false drops = absurd (let clash : true ≡ false = sym has ∙ none_own t drops rows in cc)

  pub own_has : (t : ℕ) → HasTag (restricted kept rows) t → HasTag rows t
  own_has t has = sym (has_own t (own_keeps t has)) ∙ has

  pub has_back : (t : ℕ) → list_any (is_tag t) (reverse rows) ≡ list_any (is_tag t) rows
  has_back t = list_any-reverse_aux (is_tag t) rows [] ∙ or_none (list_any (is_tag t) rows)
    where
      or_none : (b : Bool) → (b || false) ≡ b
      or_none true = refl
      or_none false = refl

  -- the path from a kept tag
  pub path_own : (size t : ℕ) → IsRows size rows → kept t ≡ true → path_to_root (restricted kept rows) t ≡ some_of (is_kept kept) (raised kept rows) (path_to_root rows t)
  path_own size t is keeps = at (list_any (is_tag t) rows) refl
    where
      at : (b : Bool) → list_any (is_tag t) rows ≡ b → path_to_root (restricted kept rows) t ≡ some_of (is_kept kept) (raised kept rows) (path_to_root rows t)
      at true has = ap (path_from (reverse (restricted kept rows))) (sym (nearest_self kept (reverse rows) t keeps (has_back t ∙ has))) ∙ path_nearest size (Some t) is
      at false away =
          path_away (reverse (restricted kept rows)) t (away_own (restricted kept rows) (has_own t keeps ∙ away))
          ∙ sym (ap (some_of (is_kept kept) (raised kept rows)) (path_away (reverse rows) t (has_back t ∙ away)))
        where
          away_own : (xs : List Row) → list_any (is_tag t) xs ≡ false → list_any (is_tag t) (reverse xs) ≡ false
          away_own xs none = list_any-reverse_aux (is_tag t) xs [] ∙ ap (λ b. b || false) none

  -- of kept tags, the same ones are ancestors
  pub on_own : (size t u : ℕ) → IsRows size rows → kept t ≡ true → kept u ≡ true → is_on_path (restricted kept rows) t u ≡ is_on_path rows t u
  on_own size t u is keeps_t keeps_u =
      ap (list_any (is_tag u)) (path_own size t is keeps_t)
      ∙ any_find (is_tag u) (some_of (is_kept kept) (raised kept rows) (path_to_root rows t))
      ∙ ap is_some (find_some (is_tag u) (is_tag u) (is_kept kept) (raised kept rows) (λ row is. refl) (path_to_root rows t) (λ row found. ap kept (found_tag (path_to_root rows t) u row found) ∙ keeps_u))
      ∙ some_map (raised kept rows) (find (is_tag u) (path_to_root rows t))
      ∙ sym (any_find (is_tag u) (path_to_root rows t))
