-- The tags on the path to the root, by parents: whatever keeps parents finds the same path.
use Rattle.std.proofs.Common.{◌≡◌, ◌∙◌, ℕ, zero, suc, ◌<◌, List, [], ◌∷◌, refl, ap, sym, subst, arith, Option, Some, None, find, ◌||◌, ◌==◌}
use Rattle.std.specs.Prelude.{option_and_then}
use Rattle.std.specs.List.{list_any}
use Rattle.std.proofs.lemmas.Option.{same_Some}
use Rattle.tb_perm.specs.Rows.{Row, is_tag, tags, HasTag, IsRows, path_to_root}
use Rattle.tb_perm.specs.Pruning.{parent_in}
use Rattle.tb_perm.proofs.Found.{has_found, found_tag}
use Rattle.tb_perm.proofs.Paths.{path_step, path_top}
use Rattle.tb_perm.proofs.Roots.{parent_lesser}

-- the list goes from a tag to its parent, from there on to the next one, and ends at a tag without a parent
abbrev pub IsPathBy : (ℕ → Option ℕ) → ℕ → List ℕ → Type 0
IsPathBy up t [] = ⊥
IsPathBy up t (k ∷ []) = (k ≡ t) × (up t ≡ None)
IsPathBy up t (k ∷ next ∷ path) = (k ≡ t) × (up t ≡ Some next) × IsPathBy up next (next ∷ path)

-- there is one such list
pub one_path_by : (up : ℕ → Option ℕ) (t : ℕ) (p q : List ℕ) → IsPathBy up t p → IsPathBy up t q → p ≡ q
one_path_by up t [] q is_p is_q = absurd is_p
one_path_by up t (k ∷ p) [] is_p is_q = absurd is_q
one_path_by up t (k ∷ []) (l ∷ []) is_p is_q = ap (λ n. n ∷ []) (is_p.0 ∙ sym is_q.0)
one_path_by up t (k ∷ []) (l ∷ m ∷ q) is_p is_q = let clash : Some m ≡ None = sym is_q.1 ∙ is_p.1 in cc
one_path_by up t (k ∷ n ∷ p) (l ∷ []) is_p is_q = let clash : Some n ≡ None = sym is_p.1 ∙ is_q.1 in cc
one_path_by up t (k ∷ n ∷ p) (l ∷ m ∷ q) is_p is_q =
    let same : n ≡ m = same_Some n m (sym is_p.1 ∙ is_q.1) in
    let rest : n ∷ p ≡ m ∷ q = one_path_by up n (n ∷ p) (m ∷ q) is_p.2 (subst (λ k. IsPathBy up k (m ∷ q)) (sym same) is_q.2) in
    ap (λ x. x ∷ n ∷ p) (is_p.0 ∙ sym is_q.0) ∙ ap (λ xs. l ∷ xs) rest

-- one more tag in front
path_by_up : (up : ℕ → Option ℕ) (k t p : ℕ) (path : List ℕ) → k ≡ t → up t ≡ Some p → IsPathBy up p path → IsPathBy up t (k ∷ path)
path_by_up up k t p [] same above is = absurd is
path_by_up up k t p (x ∷ []) same above is = (same, above ∙ ap Some (sym is.0), (refl, ap up is.0 ∙ is.1))
path_by_up up k t p (x ∷ next ∷ path) same above is = (same, above ∙ ap Some (sym is.0), (refl, ap up is.0 ∙ is.1, is.2))

-- parents that agree have the same paths
pub path_by_same : (f g : ℕ → Option ℕ) (t : ℕ) (path : List ℕ) → ((k : ℕ) → f k ≡ g k) → IsPathBy f t path → IsPathBy g t path
path_by_same f g t [] same is = is
path_by_same f g t (k ∷ []) same is = (is.0, sym (same t) ∙ is.1)
path_by_same f g t (k ∷ next ∷ path) same is = (is.0, sym (same t) ∙ is.1, path_by_same f g next (next ∷ path) same is.2)

tags_below : (size : ℕ) (rows : List Row) → IsRows size rows → (n t : ℕ) → t < n → HasTag rows t → IsPathBy (parent_in rows) t (tags (path_to_root rows t))
tags_below size rows is zero t less has = absurd (omega (arith, less))
tags_below size rows is (suc n) t less has = at found.0.parent refl (λ p under there. tags_below size rows is n p under there)
  where
    found : (r : Row) × (find (is_tag t) rows ≡ Some r)
    found = has_found rows t has

    up : parent_in rows t ≡ found.0.parent
    up = ap (option_and_then (λ (row : Row). row.parent)) found.1

    at : (o : Option ℕ) → found.0.parent ≡ o → ((p : ℕ) → p < n → HasTag rows p → IsPathBy (parent_in rows) p (tags (path_to_root rows p))) → IsPathBy (parent_in rows) t (tags (path_to_root rows t))
    at None top later = subst (λ path. IsPathBy (parent_in rows) t (tags path)) (sym (path_top size rows t found.0 is found.1 top)) (found_tag rows t found.0 found.1, up ∙ top)
    at (Some p) above later =
        let older = parent_lesser size rows t p is (up ∙ above) in
        subst (λ path. IsPathBy (parent_in rows) t (tags path)) (sym (path_step size rows t p found.0 is found.1 above))
        (path_by_up (parent_in rows) found.0.tag t p (tags (path_to_root rows p)) (found_tag rows t found.0 found.1) (up ∙ above) (later p (omega (arith, older.1, less)) older.0))

-- the tags on the path to the root are such a list, and so the only one
pub path_tags : (size : ℕ) (rows : List Row) (t : ℕ) → IsRows size rows → HasTag rows t → IsPathBy (parent_in rows) t (tags (path_to_root rows t))
path_tags size rows t is has = tags_below size rows is (suc t) t (omega arith) has

pub path_is_tags : (size : ℕ) (rows : List Row) (t : ℕ) (path : List ℕ) → IsRows size rows → HasTag rows t → IsPathBy (parent_in rows) t path → path ≡ tags (path_to_root rows t)
path_is_tags size rows t path is has by = one_path_by (parent_in rows) t path _ by (path_tags size rows t is has)

-- a tag has a row exactly where it is among the tags
pub any_tags : (rows : List Row) (u : ℕ) → list_any (is_tag u) rows ≡ list_any (λ k. k == u) (tags rows)
any_tags [] u = refl
any_tags (row ∷ rows) u = ap (λ b. (row.tag == u) || b) (any_tags rows u)
