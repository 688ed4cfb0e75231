-- The way from an entry to the root.
use Rattle.std.proofs.Common.{◌≡◌, ◌∙◌, ◌≢◌, ◌||◌, ◌++◌, ℕ, suc, zero, ◌<◌, Bool, true, false, cond, List, [], ◌∷◌, refl, ap, sym, subst, arith, Option, Some, None, ◌==◌, IsTrue}
use Rattle.std.specs.Prelude.{find, option_map, MatchOption, ⊤}
use Rattle.std.specs.List.{list_any}
use Rattle.std.proofs.lemmas.Bool.{eqb-true, eq-eqb, ne_eqb, or_right}
use Rattle.std.proofs.lemmas.List.{append_assoc, append-nil}
use Rattle.tb_shape.specs.declared.entries.Entry.{Entry}
use Rattle.tb_shape.specs.Entries.{entry_of, pair_of, tree_of, AreHung}
use Rattle.tb_shape.specs.Tree.{Keys, is_key, HasKey, parent_of, IsPath, IsAncestor}

pub none_from : {A : Type 0} (o : Option A) → ((x : A) → o ≡ Some x → ⊥) → o ≡ None
none_from None never = refl
none_from (Some x) never = absurd (never x refl)

-- what the tree has at a key
pub find-tree_of : (xs : List Entry) (key : ℕ) → find (is_key key) (tree_of xs) ≡ option_map pair_of (entry_of xs key)
find-tree_of [] key = refl
find-tree_of (x ∷ xs) key = at (find-tree_of xs key) (x.key == key)
  where
    at : find (is_key key) (tree_of xs) ≡ option_map pair_of (entry_of xs key) → (b : Bool) → cond b (Some (pair_of x)) (find (is_key key) (tree_of xs)) ≡ option_map pair_of (cond b (Some x) (entry_of xs key))
    at later true = refl
    at later false = later

pub parent_of-entry : (xs : List Entry) (key : ℕ) (e : Entry) → entry_of xs key ≡ Some e → parent_of (tree_of xs) key ≡ e.parent
parent_of-entry xs key e is = rw (find-tree_of xs key, is) refl

pub parent_of-missing : (xs : List Entry) (key : ℕ) → entry_of xs key ≡ None → parent_of (tree_of xs) key ≡ None
parent_of-missing xs key is = rw (find-tree_of xs key, is) refl

pub HasKey-entry : (xs : List Entry) (key : ℕ) (e : Entry) → entry_of xs key ≡ Some e → HasKey (tree_of xs) key
HasKey-entry [] key e is = cc
HasKey-entry (x ∷ xs) key e is = at (HasKey-entry xs key e) (x.key == key) is
  where
    at : (entry_of xs key ≡ Some e → HasKey (tree_of xs) key) → (b : Bool) → cond b (Some x) (entry_of xs key) ≡ Some e → (b || list_any (is_key key) (tree_of xs)) ≡ true
    at later true is = refl
    at later false is = later is

-- the entry that is looked up has the key
pub key-entry : (xs : List Entry) (key : ℕ) (e : Entry) → entry_of xs key ≡ Some e → e.key ≡ key
key-entry [] key e is = cc
key-entry (x ∷ xs) key e is = at (key-entry xs key e) (x.key == key) refl is
  where
    at : (entry_of xs key ≡ Some e → e.key ≡ key) → (b : Bool) → (x.key == key) ≡ b → cond b (Some x) (entry_of xs key) ≡ Some e → e.key ≡ key
    at later true same is = let one : x ≡ e = cc in rw (← one) (eqb-true x.key key same)
    at later false same is = later is

-- a further key before a path
pub path_up : (tree : Keys) (key parent : ℕ) (path : List ℕ) → parent_of tree key ≡ Some parent → IsPath tree parent path → IsPath tree key (key ∷ path)
path_up tree key parent [] up is = absurd is
path_up tree key parent (k ∷ []) up is = (refl, up ∙ ap Some (sym is.0), rw is.0 (refl, is.1, is.2))
path_up tree key parent (k ∷ next ∷ path) up is = (refl, up ∙ ap Some (sym is.0), rw is.0 (refl, is.1, is.2))

pub ancestor_self : (tree : Keys) (key : ℕ) (path : List ℕ) → IsPath tree key path → IsAncestor tree key key
ancestor_self tree key [] is = absurd is
ancestor_self tree key (k ∷ []) is = (k ∷ [], is, rw (eq-eqb k key is.0) refl)
ancestor_self tree key (k ∷ next ∷ path) is = (k ∷ next ∷ path, is, rw (eq-eqb k key is.0) refl)

-- the ancestors of a key are it and those of its parent
pub ancestor_up : (tree : Keys) (a key parent : ℕ) → parent_of tree key ≡ Some parent → IsAncestor tree a parent → IsAncestor tree a key
ancestor_up tree a key parent up is = (key ∷ is.0, path_up tree key parent is.0 up is.1, or_right _ _ is.2)

pub ancestor_down : (tree : Keys) (a key parent : ℕ) → key ≢ a → parent_of tree key ≡ Some parent → IsAncestor tree a key → IsAncestor tree a parent
ancestor_down tree a key parent differs up is = down is.0 is.1 is.2
  where
    later : (b c : Bool) → b ≡ false → (b || c) ≡ true → c ≡ true
    later true c clash h = cc
    later false c clash h = h

    down : (path : List ℕ) → IsPath tree key path → IsTrue (list_any (λ k. k == a) path) → IsAncestor tree a parent
    down [] is has = absurd is
    down (k ∷ []) is has = absurd (let clash : Some parent ≡ None = sym up ∙ is.2 in cc)
    down (k ∷ next ∷ path) is has =
        let same : next ≡ parent = let both : Some next ≡ Some parent = sym is.1 ∙ up in cc in
        let head : (k == a) ≡ false = rw is.0 (ne_eqb key a differs) in
        (next ∷ path, subst (λ n. IsPath tree n (next ∷ path)) same is.2, later (k == a) _ head has)

-- a root has no ancestor but itself
pub ancestor_top : (tree : Keys) (a key : ℕ) → key ≢ a → parent_of tree key ≡ None → IsAncestor tree a key → ⊥
ancestor_top tree a key differs top is = none is.0 is.1 is.2
  where
    none : (path : List ℕ) → IsPath tree key path → IsTrue (list_any (λ k. k == a) path) → ⊥
    none [] is has = is
    none (k ∷ []) is has =
        let head : (k == a) ≡ false = rw is.0 (ne_eqb key a differs) in
        let clash : false ≡ true = rw head at has in cc
    none (k ∷ next ∷ path) is has = let clash : Some next ≡ None = sym is.1 ∙ top in cc

-- every key of the tree has a way to the root
pub has_path : (xs : List Entry) → AreHung xs → (n key : ℕ) (e : Entry) → entry_of xs key ≡ Some e → e.depth < n → (path : List ℕ) × IsPath (tree_of xs) key path
has_path xs hung zero key e is deep = absurd (omega arith)
has_path xs hung (suc n) key e is deep = up (λ k f found less. has_path xs hung n k f found less) e.parent refl (hung key e is)
  where
    up : ((k : ℕ) (f : Entry) → entry_of xs k ≡ Some f → f.depth < n → (path : List ℕ) × IsPath (tree_of xs) k path) → (o : Option ℕ) → e.parent ≡ o → MatchOption o ⊤ (λ parent. (above : Entry) × (entry_of xs parent ≡ Some above) × (above.depth < e.depth)) → (path : List ℕ) × IsPath (tree_of xs) key path
    up more None top h = (key ∷ [], (refl, HasKey-entry xs key e is, parent_of-entry xs key e is ∙ top))
    up more (Some parent) top h =
        let later = more parent h.0 h.1 (omega (arith, h.2, deep)) in
        (key ∷ later.0, path_up (tree_of xs) key parent later.0 (parent_of-entry xs key e is ∙ top) later.1)

-- the entry of the parent
pub found_up : (xs : List Entry) (parent : ℕ) (next : Entry) → entry_of xs parent ≡ Some next → entry_of xs next.key ≡ Some next
found_up xs parent next is = subst (λ k. entry_of xs k ≡ Some next) (sym (key-entry xs parent next is)) is

pub parent_up : (xs : List Entry) (key parent : ℕ) (e next : Entry) → entry_of xs key ≡ Some e → e.parent ≡ Some parent → entry_of xs parent ≡ Some next → parent_of (tree_of xs) key ≡ Some next.key
parent_up xs key parent e next is up above = parent_of-entry xs key e is ∙ up ∙ ap Some (sym (key-entry xs parent next above))

-- a parent is there, and less deep
pub hung_up : (xs : List Entry) (key parent : ℕ) (e : Entry) → AreHung xs → entry_of xs key ≡ Some e → e.parent ≡ Some parent → (above : Entry) × (entry_of xs parent ≡ Some above) × (above.depth < e.depth)
hung_up xs key parent e hung is up = subst (λ o. MatchOption o ⊤ (λ p. (above : Entry) × (entry_of xs p ≡ Some above) × (above.depth < e.depth))) up (hung key e is)

pub falls_up : (xs : List Entry) (key parent : ℕ) (e next : Entry) → AreHung xs → entry_of xs key ≡ Some e → e.parent ≡ Some parent → entry_of xs parent ≡ Some next → next.depth < e.depth
falls_up xs key parent e next hung is up above =
    let h = hung_up xs key parent e hung is up in
    let same : h.0 ≡ next = let both : Some h.0 ≡ Some next = sym h.1 ∙ above in cc in
    subst (λ (f : Entry). f.depth < e.depth) same h.2

pub never_missing : (xs : List Entry) (key parent : ℕ) (e : Entry) → AreHung xs → entry_of xs key ≡ Some e → e.parent ≡ Some parent → entry_of xs parent ≡ None → ⊥
never_missing xs key parent e hung is up missing =
    let h = hung_up xs key parent e hung is up in
    let clash : Some h.0 ≡ None = sym h.1 ∙ missing in cc

-- the walk to an ancestor has come this far
pub record Reaches (xs : List Entry) (a from : ℕ) (at : Entry) : Type 0 where
  pub found : entry_of xs at.key ≡ Some at
  pub to : IsAncestor (tree_of xs) a at.key → IsAncestor (tree_of xs) a from
  pub back : IsAncestor (tree_of xs) a from → IsAncestor (tree_of xs) a at.key

pub reaches_start : (xs : List Entry) (a start : ℕ) (e : Entry) → entry_of xs start ≡ Some e → Reaches xs a start e
reaches_start xs a start e is =
    record {
      found = found_up xs start e is;
      to = λ h. subst (IsAncestor (tree_of xs) a) (key-entry xs start e is) h;
      back = λ h. subst (IsAncestor (tree_of xs) a) (sym (key-entry xs start e is)) h;
    }

pub reaches_more : (xs : List Entry) (a from parent : ℕ) (at next : Entry) → Reaches xs a from at → at.key ≢ a → at.parent ≡ Some parent → entry_of xs parent ≡ Some next → Reaches xs a from next
reaches_more xs a from parent at next so_far differs up above =
    let step = parent_up xs at.key parent at next so_far.found up above in
    record {
      found = found_up xs parent next above;
      to = λ h. so_far.to (ancestor_up (tree_of xs) a at.key next.key step h);
      back = λ h. ancestor_down (tree_of xs) a at.key next.key differs step (so_far.back h);
    }

pub reaches_here : (xs : List Entry) (a from : ℕ) (at : Entry) → AreHung xs → Reaches xs a from at → at.key ≡ a → IsAncestor (tree_of xs) a from
reaches_here xs a from at hung so_far same =
    let path = has_path xs hung (suc at.depth) at.key at so_far.found (omega arith) in
    so_far.to (subst (λ k. IsAncestor (tree_of xs) k at.key) same (ancestor_self (tree_of xs) at.key path.0 path.1))

pub reaches_never : (xs : List Entry) (a from : ℕ) (at : Entry) → Reaches xs a from at → at.key ≢ a → at.parent ≡ None → IsAncestor (tree_of xs) a from → ⊥
reaches_never xs a from at so_far differs top is =
    ancestor_top (tree_of xs) a at.key differs (parent_of-entry xs at.key at so_far.found ∙ top) (so_far.back is)

-- the walk to the root has come this far: what is left of the way makes the list a path
pub record Climbs (xs : List Entry) (from : ℕ) (at : Entry) (path : List ℕ) : Type 0 where
  pub found : entry_of xs at.key ≡ Some at
  pub rest : (rest : List ℕ) → IsPath (tree_of xs) at.key (at.key ∷ rest) → IsPath (tree_of xs) from (path ++ rest)

pub climbs_start : (xs : List Entry) (start : ℕ) (e : Entry) → entry_of xs start ≡ Some e → Climbs xs start e (e.key ∷ [])
climbs_start xs start e is = record { found = found_up xs start e is; rest = λ rest h. subst (λ k. IsPath (tree_of xs) k (e.key ∷ rest)) (key-entry xs start e is) h }

pub climbs_more : (xs : List Entry) (from parent : ℕ) (at next : Entry) (path : List ℕ) → Climbs xs from at path → at.parent ≡ Some parent → entry_of xs parent ≡ Some next → Climbs xs from next (path ++ next.key ∷ [])
climbs_more xs from parent at next path so_far up above =
    record {
      found = found_up xs parent next above;
      rest = λ rest h. rw (append_assoc path (next.key ∷ []) rest) (so_far.rest (next.key ∷ rest) (path_up (tree_of xs) at.key next.key (next.key ∷ rest) (parent_up xs at.key parent at next so_far.found up above) h));
    }

pub climbs_done : (xs : List Entry) (from : ℕ) (at : Entry) (path : List ℕ) → Climbs xs from at path → at.parent ≡ None → IsPath (tree_of xs) from path
climbs_done xs from at path so_far top =
    rw (append-nil path) at (so_far.rest [] (refl, HasKey-entry xs at.key at so_far.found, parent_of-entry xs at.key at so_far.found ∙ top))

-- a key that is not there has no ancestors
pub ancestor_missing : (xs : List Entry) (a key : ℕ) → entry_of xs key ≡ None → IsAncestor (tree_of xs) a key → ⊥
ancestor_missing xs a key missing is = none is.0 is.1
  where
    never : (p : ℕ) → parent_of (tree_of xs) key ≡ Some p → ⊥
    never p up = let clash : None ≡ Some p = sym (parent_of-missing xs key missing) ∙ up in cc

    absent : (ys : List Entry) → entry_of ys key ≡ None → HasKey (tree_of ys) key → ⊥
    absent [] is has = cc
    absent (y ∷ ys) is has = at (absent ys) (y.key == key) is has
      where
        at : (entry_of ys key ≡ None → HasKey (tree_of ys) key → ⊥) → (b : Bool) → cond b (Some y) (entry_of ys key) ≡ None → (b || list_any (is_key key) (tree_of ys)) ≡ true → ⊥
        at later true is has = cc
        at later false is has = later is has

    none : (path : List ℕ) → IsPath (tree_of xs) key path → ⊥
    none [] is = is
    none (k ∷ []) is = absent xs missing is.1
    none (k ∷ next ∷ path) is = never next is.1
