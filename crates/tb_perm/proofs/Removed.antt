-- Rows without a tag below the root are rows of an allocation.
use Rattle.std.proofs.Common.{◌≡◌, ◌∙◌, ◌≢◌, ◌⊎◌, ◌||◌, ℕ, ◌<◌, Bool, true, false, cond, not, List, [], ◌∷◌, length, map, filter, reverse, refl, ap, sym, subst, arith, Option, Some, None, find, ◌==◌, inl, inr}
use Rattle.std.specs.Prelude.{option_and_then}
use Rattle.std.specs.List.{list_any, AllByRecursion}
use Rattle.std.proofs.lemmas.Bool.{eqb-true, eq-eqb, cases_eq, ne_eqb, or_right}
use mathlib.Core.List.{reverse_aux}
use Rattle.tb_perm.specs.Rows.{Row, is_tag, HasTag, IsNext, IsGrown, IsRows}
use Rattle.tb_perm.specs.Pruning.{parent_in, is_child, moved_up_row, removed}
use Rattle.tb_perm.proofs.Kept.{IsGrown-next, HasTag-reverse}
use Rattle.tb_perm.proofs.Unique.{AreRising-rows, find_self, AllByRecursion-reverse}

-- rows in any order without a tag, whose children get another parent
abbrev pub cut : ℕ → Option ℕ → List Row → List Row
cut t parent rows = map (moved_up_row t parent) (filter (λ row. not (is_tag t row)) rows)

pub tag_up : (t : ℕ) (parent : Option ℕ) (row : Row) → (moved_up_row t parent row).tag ≡ row.tag
tag_up t parent row = at (is_child t row.parent)
  where
    at : (b : Bool) → (cond b (record row { parent = parent }) row).tag ≡ row.tag
    at true = refl
    at false = refl

pub states_up : (t : ℕ) (parent : Option ℕ) (row : Row) → length (moved_up_row t parent row).states ≡ length row.states
states_up t parent row = at (is_child t row.parent)
  where
    at : (b : Bool) → length (cond b (record row { parent = parent }) row).states ≡ length row.states
    at true = refl
    at false = refl

-- a test of tags that all rows pass, those that are left pass
tags_cut : (P : ℕ → Type 0) (t : ℕ) (parent : Option ℕ) (rows : List Row) → AllByRecursion (λ (row : Row). P row.tag) rows → AllByRecursion (λ (row : Row). P row.tag) (cut t parent rows)
tags_cut P t parent [] all = tt
tags_cut P t parent (row ∷ rows) all = at (is_tag t row) (tags_cut P t parent rows all.1)
  where
    at : (b : Bool) → AllByRecursion (λ (x : Row). P x.tag) (cut t parent rows) → AllByRecursion (λ (x : Row). P x.tag) (map (moved_up_row t parent) (cond (not b) (row ∷ filter (λ x. not (is_tag t x)) rows) (filter (λ x. not (is_tag t x)) rows)))
    at true later = later
    at false later = (subst P (sym (tag_up t parent row)) all.0, later)

sized_cut : (size t : ℕ) (parent : Option ℕ) (rows : List Row) → AllByRecursion (λ (row : Row). length row.states ≡ size) rows → AllByRecursion (λ (row : Row). length row.states ≡ size) (cut t parent rows)
sized_cut size t parent [] all = tt
sized_cut size t parent (row ∷ rows) all = at (is_tag t row) (sized_cut size t parent rows all.1)
  where
    at : (b : Bool) → AllByRecursion (λ (x : Row). length x.states ≡ size) (cut t parent rows) → AllByRecursion (λ (x : Row). length x.states ≡ size) (map (moved_up_row t parent) (cond (not b) (row ∷ filter (λ x. not (is_tag t x)) rows) (filter (λ x. not (is_tag t x)) rows)))
    at true later = later
    at false later = (states_up t parent row ∙ all.0, later)

-- the other tags are left
pub HasTag_cut : (t u : ℕ) (parent : Option ℕ) (rows : List Row) → t ≢ u → HasTag rows u → HasTag (cut t parent rows) u
HasTag_cut t u parent [] differs has = has
HasTag_cut t u parent (row ∷ rows) differs has = at (is_tag t row) refl (HasTag_cut t u parent rows differs) (is_tag u row) refl has
  where
    at : (b : Bool) → is_tag t row ≡ b → (HasTag rows u → HasTag (cut t parent rows) u) → (c : Bool) → is_tag u row ≡ c → (c || list_any (is_tag u) rows) ≡ true → HasTag (map (moved_up_row t parent) (cond (not b) (row ∷ filter (λ x. not (is_tag t x)) rows) (filter (λ x. not (is_tag t x)) rows))) u
    at true is later true same has = absurd (differs (sym (eqb-true row.tag t is) ∙ eqb-true row.tag u same))
    at true is later false same has = later has
    at false is later true same has = ap (λ k. (k == u) || list_any (is_tag u) (cut t parent rows)) (tag_up t parent row) ∙ ap (λ b. b || list_any (is_tag u) (cut t parent rows)) same
    at false is later false same has = ap (λ k. (k == u) || list_any (is_tag u) (cut t parent rows)) (tag_up t parent row) ∙ ap (λ b. b || list_any (is_tag u) (cut t parent rows)) same ∙ later has

pub below_tag : (t u : ℕ) (rows : List Row) → AllByRecursion (λ (o : Row). o.tag < t) rows → HasTag rows u → u < t
below_tag t u [] all has = absurd (cc)
below_tag t u (row ∷ rows) all has = at (is_tag u row) refl has (below_tag t u rows all.1)
  where
    at : (b : Bool) → is_tag u row ≡ b → (b || list_any (is_tag u) rows) ≡ true → (HasTag rows u → u < t) → u < t
    at true is has later = let same : row.tag ≡ u = eqb-true row.tag u is in omega (arith, all.0, same)
    at false is has later = later has

-- below a tag nothing has it as its parent
up_same : (t : ℕ) (parent : Option ℕ) (row : Row) → is_child t row.parent ≡ false → moved_up_row t parent row ≡ row
up_same t parent row is = ap (λ b. cond {A = Row} b (record row { parent = parent }) row) is

pub cut_same : (t : ℕ) (parent : Option ℕ) (rows : List Row) → IsGrown rows → AllByRecursion (λ (o : Row). o.tag < t) rows → cut t parent rows ≡ rows
cut_same t parent [] grown all = refl
cut_same t parent (row ∷ []) grown all =
    ap (λ b. map (moved_up_row t parent) (cond (not b) (row ∷ []) [])) (ne_eqb row.tag t (omega (arith, all.0)))
    ∙ ap (λ x. x ∷ []) (up_same t parent row (ap (is_child t) grown))
cut_same t parent (row ∷ next ∷ older) grown all =
    ap (λ b. map (moved_up_row t parent) (cond (not b) (row ∷ filter (λ x. not (is_tag t x)) (next ∷ older)) (filter (λ x. not (is_tag t x)) (next ∷ older)))) (ne_eqb row.tag t (omega (arith, all.0)))
    ∙ ap (λ x. x ∷ cut t parent (next ∷ older)) (up_same t parent row (ap (is_child t) grown.0.is_parent ∙ ne_eqb grown.0.parent t (omega (arith, below_tag t grown.0.parent (next ∷ older) all.1 grown.0.has_parent))))
    ∙ ap (λ xs. row ∷ xs) (cut_same t parent (next ∷ older) grown.1 all.1)

-- the parent of a row is older
pub parent_older : (rows : List Row) (t p : ℕ) (r : Row) → IsGrown rows → find (is_tag t) rows ≡ Some r → r.parent ≡ Some p → HasTag rows p × (p < t)
parent_older [] t p r grown found up = absurd grown
parent_older (row ∷ []) t p r grown found up = at (is_tag t row) found
  where
    at : (b : Bool) → cond b (Some row) None ≡ Some r → HasTag (row ∷ []) p × (p < t)
    at true found = let one : row ≡ r = cc in let clash : Some p ≡ None = sym up ∙ ap (λ (x : Row). x.parent) (sym one) ∙ grown in cc
    at false found = cc
parent_older (row ∷ next ∷ older) t p r grown found up = at (is_tag t row) refl found (parent_older (next ∷ older) t p r grown.1)
  where
    at : (b : Bool) → is_tag t row ≡ b → cond b (Some row) (find (is_tag t) (next ∷ older)) ≡ Some r → (find (is_tag t) (next ∷ older) ≡ Some r → r.parent ≡ Some p → HasTag (next ∷ older) p × (p < t)) → HasTag (row ∷ next ∷ older) p × (p < t)
    at true is found later =
        let one : row ≡ r = cc in
        let both : Some p ≡ Some grown.0.parent = sym up ∙ ap (λ (x : Row). x.parent) (sym one) ∙ grown.0.is_parent in
        let same : p ≡ grown.0.parent = cc in
        let has : HasTag (next ∷ older) p = subst (HasTag (next ∷ older)) (sym same) grown.0.has_parent in
        let tag : row.tag ≡ t = eqb-true row.tag t is in
        (or_right (is_tag p row) _ has, omega (arith, below_tag row.tag p (next ∷ older) grown.0.above has, tag))
    at false is found later = let rest = later found up in (or_right (is_tag p row) _ rest.0, rest.1)

IsGrown_cut : (t p : ℕ) (r : Row) (rows : List Row) → IsGrown rows → find (is_tag t) rows ≡ Some r → r.parent ≡ Some p → IsGrown (cut t (Some p) rows)
IsGrown_cut t p r [] grown found up = absurd grown
IsGrown_cut t p r (row ∷ []) grown found up = at (is_tag t row) found
  where
    at : (b : Bool) → cond b (Some row) None ≡ Some r → IsGrown (map (moved_up_row t (Some p)) (cond (not b) (row ∷ []) []))
    at true found = let one : row ≡ r = cc in let clash : Some p ≡ None = sym up ∙ ap (λ (x : Row). x.parent) (sym one) ∙ grown in cc
    at false found = cc
IsGrown_cut t p r (row ∷ next ∷ older) grown found up = at (is_tag t row) refl found (IsGrown_cut t p r (next ∷ older) grown.1)
  where
    next_cut : (q : ℕ) → t ≢ q → (moved_up_row t (Some p) row).parent ≡ Some q → HasTag (next ∷ older) q → IsNext (cut t (Some p) (next ∷ older)) (moved_up_row t (Some p) row)
    next_cut q differs is_parent has =
        record {
          above = subst (λ k. AllByRecursion (λ (o : Row). o.tag < k) (cut t (Some p) (next ∷ older))) (sym (tag_up t (Some p) row)) (tags_cut (λ k. k < row.tag) t (Some p) (next ∷ older) grown.0.above);
          parent = q;
          is_parent = is_parent;
          has_parent = HasTag_cut t q (Some p) (next ∷ older) differs has;
        }

    is_next : find (is_tag t) (next ∷ older) ≡ Some r → (t ≡ grown.0.parent) ⊎ (t ≢ grown.0.parent) → IsNext (cut t (Some p) (next ∷ older)) (moved_up_row t (Some p) row)
    is_next found (inl same) =
        let rest = parent_older (next ∷ older) t p r grown.1 found up in
        let child : is_child t row.parent ≡ true = ap (is_child t) grown.0.is_parent ∙ eq-eqb grown.0.parent t (sym same) in
        next_cut p (λ equal. absurd (omega (arith, rest.1, equal))) (ap (λ b. (cond {A = Row} b (record row { parent = Some p }) row).parent) child) rest.0
    is_next found (inr differs) =
        let child : is_child t row.parent ≡ false = ap (is_child t) grown.0.is_parent ∙ ne_eqb grown.0.parent t (λ same. differs (sym same)) in
        next_cut grown.0.parent differs (ap (λ (x : Row). x.parent) (up_same t (Some p) row child) ∙ grown.0.is_parent) grown.0.has_parent

    at : (b : Bool) → is_tag t row ≡ b → cond b (Some row) (find (is_tag t) (next ∷ older)) ≡ Some r → (find (is_tag t) (next ∷ older) ≡ Some r → r.parent ≡ Some p → IsGrown (cut t (Some p) (next ∷ older))) → IsGrown (map (moved_up_row t (Some p)) (cond (not b) (row ∷ filter (λ x. not (is_tag t x)) (next ∷ older)) (filter (λ x. not (is_tag t x)) (next ∷ older))))
    at true is found later = subst IsGrown (sym (cut_same t (Some p) (next ∷ older) grown.1 (subst (λ k. AllByRecursion (λ (o : Row). o.tag < k) (next ∷ older)) (eqb-true row.tag t is) grown.0.above))) grown.1
    at false is found later = IsGrown-next (cut t (Some p) (next ∷ older)) (moved_up_row t (Some p) row) (is_next found (cases_eq t grown.0.parent)) (later found up)

reverse_cut : (t : ℕ) (parent : Option ℕ) (xs ys : List Row) → reverse_aux (cut t parent xs) (cut t parent ys) ≡ cut t parent (reverse_aux xs ys)
reverse_cut t parent [] ys = refl
reverse_cut t parent (x ∷ xs) ys = at (is_tag t x) refl (reverse_cut t parent xs (x ∷ ys))
  where
    at : (b : Bool) → is_tag t x ≡ b → reverse_aux (cut t parent xs) (cut t parent (x ∷ ys)) ≡ cut t parent (reverse_aux xs (x ∷ ys)) → reverse_aux (map (moved_up_row t parent) (cond (not b) (x ∷ filter (λ z. not (is_tag t z)) xs) (filter (λ z. not (is_tag t z)) xs))) (cut t parent ys) ≡ cut t parent (reverse_aux xs (x ∷ ys))
    at true is later = ap (λ b. reverse_aux (cut t parent xs) (map (moved_up_row t parent) (cond (not b) (x ∷ filter (λ z. not (is_tag t z)) ys) (filter (λ z. not (is_tag t z)) ys)))) (sym is) ∙ later
    at false is later = ap (λ b. reverse_aux (cut t parent xs) (map (moved_up_row t parent) (cond (not b) (x ∷ filter (λ z. not (is_tag t z)) ys) (filter (λ z. not (is_tag t z)) ys)))) (sym is) ∙ later

-- a search back finds the same row
pub find_back : (rows : List Row) (t : ℕ) (r : Row) → AllByRecursion (λ (row : Row). (t ≡ row.tag) → row ≡ r) rows → HasTag rows t → find (is_tag t) rows ≡ Some r
find_back [] t r all has = absurd (cc)
find_back (row ∷ rows) t r all has = at (is_tag t row) refl has (find_back rows t r all.1)
  where
    at : (b : Bool) → is_tag t row ≡ b → (b || list_any (is_tag t) rows) ≡ true → (HasTag rows t → find (is_tag t) rows ≡ Some r) → cond b (Some row) (find (is_tag t) rows) ≡ Some r
    at true is has later = ap Some (all.0 (sym (eqb-true row.tag t is)))
    at false is has later = later has

pub only_row : (all rows : List Row) (t : ℕ) (r : Row) → find (is_tag t) all ≡ Some r → AllByRecursion (λ (row : Row). find (is_tag row.tag) all ≡ Some row) rows → AllByRecursion (λ (row : Row). (t ≡ row.tag) → row ≡ r) rows
only_row all [] t r found finds = tt
only_row all (row ∷ rows) t r found finds =
    (λ same. one row r (sym finds.0 ∙ ap (λ k. find (is_tag k) all) (sym same) ∙ found), only_row all rows t r found finds.1)
  where
    one : (x y : Row) → Some x ≡ Some y → x ≡ y
    one x y h = cc

pub find_has : (rows : List Row) (t : ℕ) (r : Row) → find (is_tag t) rows ≡ Some r → HasTag rows t
find_has [] t r found = cc
find_has (row ∷ rows) t r found = at (is_tag t row) found (find_has rows t r)
  where
    at : (b : Bool) → cond b (Some row) (find (is_tag t) rows) ≡ Some r → (find (is_tag t) rows ≡ Some r → HasTag rows t) → (b || list_any (is_tag t) rows) ≡ true
    at true found later = refl
    at false found later = later found

-- the rows without a tag that has a parent
pub IsRows-removed : (size : ℕ) (rows : List Row) (t p : ℕ) → IsRows size rows → parent_in rows t ≡ Some p → IsRows size (removed rows t)
IsRows-removed size rows t p is up = at (find (is_tag t) rows) refl up
  where
    at : (o : Option Row) → find (is_tag t) rows ≡ o → option_and_then (λ (row : Row). row.parent) o ≡ Some p → IsRows size (removed rows t)
    at None found up = cc
    at (Some r) found up =
        let finds = AllByRecursion-reverse (λ (row : Row). find (is_tag row.tag) rows ≡ Some row) rows (find_self rows (AreRising-rows size rows is)) in
        let back = find_back (reverse rows) t r (only_row rows (reverse rows) t r found finds) (HasTag-reverse rows t (find_has rows t r found)) in
        subst (λ o. IsRows size (cut t o rows)) (sym (ap (option_and_then (λ (row : Row). row.parent)) found ∙ up)) (record {
          grown = subst IsGrown (sym (reverse_cut t (Some p) rows [])) (IsGrown_cut t p r (reverse rows) is.grown back up);
          sized = sized_cut size t (Some p) rows is.sized;
        })
