-- Laws of the path from a tag to the root.
use Rattle.std.proofs.Common.{◌≡◌, ◌∙◌, ◌≢◌, ◌⊎◌, ◌||◌, ◌++◌, ℕ, ◌<◌, ◌≤◌, Bool, true, false, cond, List, [], ◌∷◌, reverse, refl, ap, sym, subst, arith, Option, Some, None, find, ◌==◌, inl, inr}
use Rattle.std.specs.Prelude.{option_and_then}
use Rattle.std.specs.List.{list_any}
use Rattle.std.proofs.lemmas.Bool.{eqb-true, or_left, or_right, ne_eqb}
use Rattle.std.proofs.lemmas.List.Folds.{list_any-append}
use Rattle.tb_perm.specs.Rows.{Row, is_tag, is_asked, HasTag, IsGrown, IsRows, path_from, path_to_root, is_on_path}
use Rattle.tb_perm.specs.Pruning.{parent_in}
use Rattle.tb_perm.proofs.Kept.{HasTag-reverse}
use Rattle.tb_perm.proofs.Removed.{below_tag, parent_older}
use Rattle.tb_perm.proofs.Roots.{back, has_forward}
use Rattle.tb_perm.proofs.Found.{found_tag}

-- In rows that are read from the newest back.

abbrev is_on : List Row → ℕ → ℕ → Bool
is_on rows t u = list_any (is_tag u) (path_from rows (Some t))

-- where nothing is asked there is no path
path_none : (rows : List Row) → path_from rows None ≡ []
path_none [] = refl
path_none (row ∷ older) = path_none older

-- a row of another tag is passed
passed : (row : Row) (older : List Row) (t : ℕ) → (row.tag == t) ≡ false → path_from (row ∷ older) (Some t) ≡ path_from older (Some t)
passed row older t other = ap (λ b. cond b (row ∷ path_from older row.parent) (path_from older (Some t))) other

taken : (row : Row) (older : List Row) (t : ℕ) → (row.tag == t) ≡ true → path_from (row ∷ older) (Some t) ≡ row ∷ path_from older row.parent
taken row older t same = ap (λ b. cond b (row ∷ path_from older row.parent) (path_from older (Some t))) same

self_back : (rows : List Row) (t : ℕ) → HasTag rows t → is_on rows t t ≡ true
self_back [] t has = absurd (cc)
self_back (row ∷ older) t has = at (row.tag == t) refl has (self_back older t)
  where
    at : (b : Bool) → (row.tag == t) ≡ b → (b || list_any (is_tag t) older) ≡ true → (HasTag older t → is_on older t t ≡ true) → list_any (is_tag t) (cond b (row ∷ path_from older row.parent) (path_from older (Some t))) ≡ true
    at true same has later = or_left _ _ same
    at false other has later = later has

-- what is on a path has a row
on_has : (rows : List Row) (asked : Option ℕ) (u : ℕ) → list_any (is_tag u) (path_from rows asked) ≡ true → HasTag rows u
on_has [] asked u on = on
on_has (row ∷ older) asked u on = at (is_asked asked row) on (on_has older row.parent u) (on_has older asked u) (is_tag u row) refl
  where
    at : (b : Bool) → list_any (is_tag u) (cond b (row ∷ path_from older row.parent) (path_from older asked)) ≡ true → (list_any (is_tag u) (path_from older row.parent) ≡ true → HasTag older u) → (list_any (is_tag u) (path_from older asked) ≡ true → HasTag older u) → (c : Bool) → is_tag u row ≡ c → HasTag (row ∷ older) u
    at b on up later true same = or_left _ _ same
    at true on up later false other = or_right _ _ (up (sym (ap (λ c. c || list_any (is_tag u) (path_from older row.parent)) other) ∙ on))
    at false on up later false other = or_right _ _ (later on)

-- the path of a tag that is on the path of another is the last part of that
record Goes (rows : List Row) (t u : ℕ) : Type 0 where
  front : List Row
  is : path_from rows (Some t) ≡ front ++ path_from rows (Some u)

goes : (rows : List Row) (t u : ℕ) → IsGrown rows → is_on rows t u ≡ true → Goes rows t u
goes [] t u grown on = absurd grown
goes (row ∷ []) t u grown on = at (row.tag == t) refl (row.tag == u) refl on
  where
    at : (b : Bool) → (row.tag == t) ≡ b → (c : Bool) → (row.tag == u) ≡ c → list_any (is_tag u) (cond b (row ∷ []) []) ≡ true → Goes (row ∷ []) t u
    at true same true here on = record { front = []; is = ap (λ k. path_from (row ∷ []) (Some k)) (sym (eqb-true row.tag t same) ∙ eqb-true row.tag u here) }
    at true same false away on = let clash : false ≡ true = sym (ap (λ b. b || false) away) ∙ on in cc
    at false other c here on = cc
goes (row ∷ next ∷ older) t u grown on = at (row.tag == t) refl (row.tag == u) refl on (goes (next ∷ older) grown.0.parent u grown.1) (goes (next ∷ older) t u grown.1)
  where
    up : row.parent ≡ Some grown.0.parent
    up = grown.0.is_parent

    at : (b : Bool) → (row.tag == t) ≡ b → (c : Bool) → (row.tag == u) ≡ c → list_any (is_tag u) (cond b (row ∷ path_from (next ∷ older) row.parent) (path_from (next ∷ older) (Some t))) ≡ true → (is_on (next ∷ older) grown.0.parent u ≡ true → Goes (next ∷ older) grown.0.parent u) → (is_on (next ∷ older) t u ≡ true → Goes (next ∷ older) t u) → Goes (row ∷ next ∷ older) t u
    at true same true here on higher later = record { front = []; is = ap (λ k. path_from (row ∷ next ∷ older) (Some k)) (sym (eqb-true row.tag t same) ∙ eqb-true row.tag u here) }
    at true same false away on higher later =
        let rest = higher (sym (ap (λ c. c || list_any (is_tag u) (path_from (next ∷ older) (Some grown.0.parent))) away) ∙ sym (ap (λ o. (row.tag == u) || list_any (is_tag u) (path_from (next ∷ older) o)) up) ∙ on) in
        record {
          front = row ∷ rest.front;
          is = taken row (next ∷ older) t same ∙ ap (λ o. row ∷ path_from (next ∷ older) o) up ∙ ap (λ xs. row ∷ xs) rest.is ∙ ap (λ xs. row ∷ rest.front ++ xs) (sym (passed row (next ∷ older) u away));
        }
    at false other true here on higher later =
        let less : u < row.tag = below_tag row.tag u (next ∷ older) grown.0.above (on_has (next ∷ older) (Some t) u on) in
        absurd (omega (arith, less, eqb-true row.tag u here))
    at false other false away on higher later =
        let rest = later on in
        record { front = rest.front; is = passed row (next ∷ older) t other ∙ rest.is ∙ ap (λ xs. rest.front ++ xs) (sym (passed row (next ∷ older) u away)) }

chain_back : (rows : List Row) (t u v : ℕ) → IsGrown rows → is_on rows t u ≡ true → is_on rows u v ≡ true → is_on rows t v ≡ true
chain_back rows t u v grown on higher =
    let rest = goes rows t u grown on in
    ap (list_any (is_tag v)) rest.is ∙ list_any-append (is_tag v) rest.front (path_from rows (Some u)) ∙ or_right _ _ higher

-- a path falls
falls_back : (rows : List Row) (t u : ℕ) → IsGrown rows → is_on rows t u ≡ true → u ≤ t
falls_back [] t u grown on = absurd grown
falls_back (row ∷ []) t u grown on = at (row.tag == t) refl (row.tag == u) refl on
  where
    at : (b : Bool) → (row.tag == t) ≡ b → (c : Bool) → (row.tag == u) ≡ c → list_any (is_tag u) (cond b (row ∷ []) []) ≡ true → u ≤ t
    at true same true here on = omega (arith, eqb-true row.tag t same, eqb-true row.tag u here)
    at true same false away on = let clash : false ≡ true = sym (ap (λ b. b || false) away) ∙ on in cc
    at false other c here on = cc
falls_back (row ∷ next ∷ older) t u grown on = at (row.tag == t) refl (row.tag == u) refl on (falls_back (next ∷ older) grown.0.parent u grown.1) (falls_back (next ∷ older) t u grown.1)
  where
    at : (b : Bool) → (row.tag == t) ≡ b → (c : Bool) → (row.tag == u) ≡ c → list_any (is_tag u) (cond b (row ∷ path_from (next ∷ older) row.parent) (path_from (next ∷ older) (Some t))) ≡ true → (is_on (next ∷ older) grown.0.parent u ≡ true → u ≤ grown.0.parent) → (is_on (next ∷ older) t u ≡ true → u ≤ t) → u ≤ t
    at true same true here on higher later = omega (arith, eqb-true row.tag t same, eqb-true row.tag u here)
    at true same false away on higher later =
        let less : grown.0.parent < row.tag = below_tag row.tag grown.0.parent (next ∷ older) grown.0.above grown.0.has_parent in
        let most : u ≤ grown.0.parent = higher (sym (ap (λ c. c || list_any (is_tag u) (path_from (next ∷ older) (Some grown.0.parent))) away) ∙ sym (ap (λ o. (row.tag == u) || list_any (is_tag u) (path_from (next ∷ older) o)) grown.0.is_parent) ∙ on) in
        omega (arith, eqb-true row.tag t same, less, most)
    at false other c here on higher later = later on

-- of two tags on a path one is on the path of the other
comparable_back : (rows : List Row) (t a b : ℕ) → IsGrown rows → is_on rows t a ≡ true → is_on rows t b ≡ true → (is_on rows a b ≡ true) ⊎ (is_on rows b a ≡ true)
comparable_back [] t a b grown on_a on_b = absurd grown
comparable_back (row ∷ []) t a b grown on_a on_b = at (row.tag == t) refl on_a on_b (row.tag == a) refl (row.tag == b) refl
  where
    clash : (u : ℕ) → (row.tag == u) ≡ false → ((row.tag == u) || false) ≡ true → ⊥
    clash u away on = let bad : false ≡ true = sym (ap (λ b. b || false) away) ∙ on in cc

    at : (c : Bool) → (row.tag == t) ≡ c → list_any (is_tag a) (cond c (row ∷ []) []) ≡ true → list_any (is_tag b) (cond c (row ∷ []) []) ≡ true → (d : Bool) → (row.tag == a) ≡ d → (e : Bool) → (row.tag == b) ≡ e → (is_on (row ∷ []) a b ≡ true) ⊎ (is_on (row ∷ []) b a ≡ true)
    at false other on_a on_b d is_a e is_b = cc
    at true same on_a on_b false is_a e is_b = absurd (clash a is_a on_a)
    at true same on_a on_b true is_a false is_b = absurd (clash b is_b on_b)
    at true same on_a on_b true is_a true is_b = inl (ap (list_any (is_tag b)) (taken row [] a is_a) ∙ or_left _ _ is_b)
comparable_back (row ∷ next ∷ older) t a b grown on_a on_b =
    at (row.tag == t) refl on_a on_b (row.tag == a) refl (row.tag == b) refl (comparable_back (next ∷ older) grown.0.parent a b grown.1) (comparable_back (next ∷ older) t a b grown.1)
  where
    -- a tag on the path of a row, beside its own, is on its parent's
    higher : (u : ℕ) → (row.tag == u) ≡ false → list_any (is_tag u) (row ∷ path_from (next ∷ older) row.parent) ≡ true → is_on (next ∷ older) grown.0.parent u ≡ true
    higher u away on = sym (ap (λ c. c || list_any (is_tag u) (path_from (next ∷ older) (Some grown.0.parent))) away) ∙ sym (ap (λ o. (row.tag == u) || list_any (is_tag u) (path_from (next ∷ older) o)) grown.0.is_parent) ∙ on

    lift : (u v : ℕ) → (row.tag == u) ≡ false → is_on (next ∷ older) u v ≡ true → is_on (row ∷ (next ∷ older)) u v ≡ true
    lift u v away on = ap (list_any (is_tag v)) (passed row (next ∷ older) u away) ∙ on

    both : (u v : ℕ) → (row.tag == u) ≡ false → (row.tag == v) ≡ false → (is_on (next ∷ older) u v ≡ true) ⊎ (is_on (next ∷ older) v u ≡ true) → (is_on (row ∷ (next ∷ older)) u v ≡ true) ⊎ (is_on (row ∷ (next ∷ older)) v u ≡ true)
    both u v away_u away_v (inl on) = inl (lift u v away_u on)
    both u v away_u away_v (inr on) = inr (lift v u away_v on)

    -- what is on a path of the older rows is another tag
    away : (u : ℕ) → is_on (next ∷ older) t u ≡ true → (row.tag == u) ≡ false
    away u on = let less : u < row.tag = below_tag row.tag u (next ∷ older) grown.0.above (on_has (next ∷ older) (Some t) u on) in ne_eqb row.tag u (λ same. absurd (omega (arith, less, same)))

    -- the row's own tag has all of its path
    whole : (u v : ℕ) → (row.tag == t) ≡ true → (row.tag == u) ≡ true → list_any (is_tag v) (row ∷ path_from (next ∷ older) row.parent) ≡ true → is_on (row ∷ (next ∷ older)) u v ≡ true
    whole u v same here on = ap (list_any (is_tag v)) (taken row (next ∷ older) u here) ∙ on

    at : (c : Bool) → (row.tag == t) ≡ c → list_any (is_tag a) (cond c (row ∷ path_from (next ∷ older) row.parent) (path_from (next ∷ older) (Some t))) ≡ true → list_any (is_tag b) (cond c (row ∷ path_from (next ∷ older) row.parent) (path_from (next ∷ older) (Some t))) ≡ true → (d : Bool) → (row.tag == a) ≡ d → (e : Bool) → (row.tag == b) ≡ e
        → (is_on (next ∷ older) grown.0.parent a ≡ true → is_on (next ∷ older) grown.0.parent b ≡ true → (is_on (next ∷ older) a b ≡ true) ⊎ (is_on (next ∷ older) b a ≡ true)) → (is_on (next ∷ older) t a ≡ true → is_on (next ∷ older) t b ≡ true → (is_on (next ∷ older) a b ≡ true) ⊎ (is_on (next ∷ older) b a ≡ true)) → (is_on (row ∷ (next ∷ older)) a b ≡ true) ⊎ (is_on (row ∷ (next ∷ older)) b a ≡ true)
    at true same on_a on_b true is_a e is_b up later = inl (whole a b same is_a on_b)
    at true same on_a on_b false is_a true is_b up later = inr (whole b a same is_b on_a)
    at true same on_a on_b false is_a false is_b up later = both a b is_a is_b (up (higher a is_a on_a) (higher b is_b on_b))
    at false other on_a on_b d is_a e is_b up later = both a b (away a on_a) (away b on_b) (later on_a on_b)

-- the path of a tag is its row and then the path of its parent
step_back : (rows : List Row) (t : ℕ) (r : Row) → IsGrown rows → find (is_tag t) rows ≡ Some r → path_from rows (Some t) ≡ r ∷ path_from rows r.parent
step_back [] t r grown found = absurd grown
step_back (row ∷ []) t r grown found = at (row.tag == t) refl found
  where
    at : (b : Bool) → (row.tag == t) ≡ b → cond b (Some row) None ≡ Some r → cond b (row ∷ []) [] ≡ r ∷ path_from (row ∷ []) r.parent
    at true same found = let one : row ≡ r = cc in ap (λ x. x ∷ []) one ∙ ap (λ xs. r ∷ xs) (sym (ap (path_from (row ∷ [])) (ap (λ (x : Row). x.parent) (sym one) ∙ grown)))
    at false other found = cc
step_back (row ∷ next ∷ older) t r grown found = at (row.tag == t) refl found (step_back (next ∷ older) t r grown.1)
  where
    -- a row that is newer than the parent is passed
    older_path : (o : Option ℕ) → ((p : ℕ) → o ≡ Some p → p < row.tag) → path_from (row ∷ (next ∷ older)) o ≡ path_from (next ∷ older) o
    older_path None less = refl
    older_path (Some p) less = passed row (next ∷ older) p (ne_eqb row.tag p (λ same. let small : p < row.tag = less p refl in absurd (omega (arith, small, same))))

    at : (b : Bool) → (row.tag == t) ≡ b → cond b (Some row) (find (is_tag t) (next ∷ older)) ≡ Some r → (find (is_tag t) (next ∷ older) ≡ Some r → path_from (next ∷ older) (Some t) ≡ r ∷ path_from (next ∷ older) r.parent) → cond b (row ∷ path_from (next ∷ older) row.parent) (path_from (next ∷ older) (Some t)) ≡ r ∷ path_from (row ∷ (next ∷ older)) r.parent
    at true same found later =
        let one : row ≡ r = cc in
        let less : (p : ℕ) → row.parent ≡ Some p → p < row.tag = λ p up.
        let is : grown.0.parent ≡ p = let two : Some grown.0.parent ≡ Some p = sym grown.0.is_parent ∙ up in cc in
        subst (λ k. k < row.tag) is (below_tag row.tag grown.0.parent (next ∷ older) grown.0.above grown.0.has_parent) in
        ap (λ xs. row ∷ xs) (sym (older_path row.parent less)) ∙ ap (λ (x : Row). x ∷ path_from (row ∷ (next ∷ older)) x.parent) one
    at false other found later =
        let less : (p : ℕ) → r.parent ≡ Some p → p < row.tag = λ p up. below_tag row.tag p (next ∷ older) grown.0.above (parent_older (next ∷ older) t p r grown.1 found up).0 in
        later found ∙ ap (λ xs. r ∷ xs) (sym (older_path r.parent less))

-- In the rows of an allocation.

-- a tag is on its own path
pub path_self : (rows : List Row) (t : ℕ) → HasTag rows t → is_on_path rows t t ≡ true
path_self rows t has = self_back (reverse rows) t (HasTag-reverse rows t has)

-- what is on a path has a row
pub path_has : (rows : List Row) (t u : ℕ) → is_on_path rows t u ≡ true → HasTag rows u
path_has rows t u on = has_forward rows u (on_has (reverse rows) (Some t) u on)

-- the ancestors of an ancestor are ancestors
pub path_chain : (size : ℕ) (rows : List Row) (t u v : ℕ) → IsRows size rows → is_on_path rows t u ≡ true → is_on_path rows u v ≡ true → is_on_path rows t v ≡ true
path_chain size rows t u v is = chain_back (reverse rows) t u v is.grown

-- of two ancestors of a tag one is an ancestor of the other
pub path_comparable : (size : ℕ) (rows : List Row) (t a b : ℕ) → IsRows size rows → is_on_path rows t a ≡ true → is_on_path rows t b ≡ true → (is_on_path rows a b ≡ true) ⊎ (is_on_path rows b a ≡ true)
path_comparable size rows t a b is = comparable_back (reverse rows) t a b is.grown

-- an ancestor is not the greater tag
pub path_falls : (size : ℕ) (rows : List Row) (t u : ℕ) → IsRows size rows → is_on_path rows t u ≡ true → u ≤ t
path_falls size rows t u is = falls_back (reverse rows) t u is.grown

-- the path of an ancestor is the last part of the path
pub path_parts : (size : ℕ) (rows : List Row) (t u : ℕ) → IsRows size rows → is_on_path rows t u ≡ true → (front : List Row) × (path_to_root rows t ≡ front ++ path_to_root rows u)
path_parts size rows t u is on = let rest = goes (reverse rows) t u is.grown on in (rest.front, rest.is)

-- the path of a tag with a parent is its row, and then the path of the parent
pub path_step : (size : ℕ) (rows : List Row) (t p : ℕ) (r : Row) → IsRows size rows → find (is_tag t) rows ≡ Some r → r.parent ≡ Some p → path_to_root rows t ≡ r ∷ path_to_root rows p
path_step size rows t p r is found up = step_back (reverse rows) t r is.grown (back size rows t r is found) ∙ ap (λ o. r ∷ path_from (reverse rows) o) up

-- the path of the root is its row
pub path_top : (size : ℕ) (rows : List Row) (t : ℕ) (r : Row) → IsRows size rows → find (is_tag t) rows ≡ Some r → r.parent ≡ None → path_to_root rows t ≡ r ∷ []
path_top size rows t r is found top = step_back (reverse rows) t r is.grown (back size rows t r is found) ∙ ap (λ o. r ∷ path_from (reverse rows) o) top ∙ ap (λ xs. r ∷ xs) (path_none (reverse rows))

-- a tag other than its own on the path is on the path of the parent
pub path_up : (size : ℕ) (rows : List Row) (t p u : ℕ) → IsRows size rows → parent_in rows t ≡ Some p → t ≢ u → is_on_path rows t u ≡ true → is_on_path rows p u ≡ true
path_up size rows t p u is up differs on = at (find (is_tag t) rows) refl up
  where
    at : (o : Option Row) → find (is_tag t) rows ≡ o → option_and_then (λ (row : Row). row.parent) o ≡ Some p → is_on_path rows p u ≡ true
    at None found up = cc
    at (Some r) found up =
        let tag : r.tag ≡ t = found_tag rows t r found in
        sym (ap (λ b. b || is_on_path rows p u) (ne_eqb r.tag u (λ same. differs (sym tag ∙ same)))) ∙ sym (ap (list_any (is_tag u)) (path_step size rows t p r is found up)) ∙ on

-- the ancestors of the parent are ancestors
pub path_below : (size : ℕ) (rows : List Row) (t p u : ℕ) → IsRows size rows → parent_in rows t ≡ Some p → is_on_path rows p u ≡ true → is_on_path rows t u ≡ true
path_below size rows t p u is up on = at (find (is_tag t) rows) refl up
  where
    at : (o : Option Row) → find (is_tag t) rows ≡ o → option_and_then (λ (row : Row). row.parent) o ≡ Some p → is_on_path rows t u ≡ true
    at None found up = cc
    at (Some r) found up = ap (list_any (is_tag u)) (path_step size rows t p r is found up) ∙ or_right _ _ on
