-- Ways to the root, and ancestors.
use Rattle.std.proofs.Common.{◌≡◌, ◌∙◌, ◌||◌, ◌≤◌, ℕ, Bool, true, false, List, [], ◌∷◌, length, refl, ap, sym, subst, arith, ◌==◌}
use Rattle.std.proofs.lemmas.Bool.{eqb-true, eq-eqb, or_right}
use Rattle.tb_perm.proofs.PathTags.{IsPathBy, one_path_by}
use Rattle.tb_shape.specs.Tree.{Keys, HasKey, parent_of, IsPath, IsAncestor}
use Rattle.tb_marks.specs.Event.{contains}

by_parents : (tree : Keys) (t : ℕ) (path : List ℕ) → IsPath tree t path → IsPathBy (parent_of tree) t path
by_parents tree t [] is = is
by_parents tree t (k ∷ []) is = (is.0, is.2)
by_parents tree t (k ∷ next ∷ path) is = (is.0, is.1, by_parents tree next (next ∷ path) is.2)

-- a key has one way to the root
pub one_path : (tree : Keys) (t : ℕ) (p q : List ℕ) → IsPath tree t p → IsPath tree t q → p ≡ q
one_path tree t p q is_p is_q = one_path_by (parent_of tree) t p q (by_parents tree t p is_p) (by_parents tree t q is_q)

-- a way begins at its key
pub has_start : (tree : Keys) (t : ℕ) (path : List ℕ) → IsPath tree t path → contains path t ≡ true
has_start tree t [] is = absurd is
has_start tree t (k ∷ []) is = ap (λ b. b || false) (eq-eqb k t is.0)
has_start tree t (k ∷ next ∷ path) is = ap (λ b. b || contains (next ∷ path) t) (eq-eqb k t is.0)

-- from a key of a way on, it is that key's way
pub path_from_key : (tree : Keys) (t key : ℕ) (path : List ℕ) → IsPath tree t path → contains path key ≡ true → (q : List ℕ) × IsPath tree key q × ((a : ℕ) → contains q a ≡ true → contains path a ≡ true) × (length q ≤ length path)
path_from_key tree t key [] is has = absurd is
path_from_key tree t key (k ∷ []) is has =
    let same : k ≡ key = at (k == key) refl has in
    (k ∷ [], (same, subst (HasKey tree) (sym is.0 ∙ same) is.1, ap (parent_of tree) (sym same ∙ is.0) ∙ is.2), λ a h. h, omega arith)
  where
    at : (b : Bool) → (k == key) ≡ b → (b || false) ≡ true → k ≡ key
    at true same h = eqb-true k key same
    at false same h = cc
path_from_key tree t key (k ∷ next ∷ path) is has = at (k == key) refl has (path_from_key tree next key (next ∷ path) is.2)
  where
    Found : Type 0
    Found = (q : List ℕ) × IsPath tree key q × ((a : ℕ) → contains q a ≡ true → contains (k ∷ next ∷ path) a ≡ true) × (length q ≤ length (k ∷ next ∷ path))

    at : (b : Bool) → (k == key) ≡ b → (b || contains (next ∷ path) key) ≡ true → (contains (next ∷ path) key ≡ true → (q : List ℕ) × IsPath tree key q × ((a : ℕ) → contains q a ≡ true → contains (next ∷ path) a ≡ true) × (length q ≤ length (next ∷ path))) → Found
    at true same h later =
        let here : k ≡ key = eqb-true k key same in
        (k ∷ next ∷ path, (here, ap (parent_of tree) (sym here ∙ is.0) ∙ is.1, is.2), λ a h. h, omega arith)
    at false same h later =
        let rest = later h in
        (rest.0, rest.1, λ a h. or_right (k == a) _ (rest.2 a h), omega (arith, rest.3))

-- what is above a key of a way is on it
pub above_on_way : (tree : Keys) (t above key : ℕ) (path : List ℕ) → IsPath tree t path → contains path key ≡ true → IsAncestor tree above key → contains path above ≡ true
above_on_way tree t above key path is has anc =
    let from = path_from_key tree t key path is has in
    from.2 above (subst (λ p. contains p above ≡ true) (one_path tree key anc.0 from.0 anc.1 from.1) anc.2)

pub ancestor_chain : (tree : Keys) (a b c : ℕ) → IsAncestor tree a b → IsAncestor tree b c → IsAncestor tree a c
ancestor_chain tree a b c above anc = (anc.0, anc.1, above_on_way tree c a b anc.0 anc.1 anc.2 above)
