-- Adding a key, dropping a leaf and splicing a key out keep what is true of every `Shape`.
use Rattle.std.proofs.Common.{◌≡◌, ◌∙◌, ◌≢◌, ◌⊎◌, ℕ, ◌+◌, ◌<◌, Bool, true, false, cond, List, [], ◌∷◌, map, refl, ap, sym, subst, arith, Option, Some, None, inl, inr, ◌==◌, zero-add}
use Rattle.std.specs.Prelude.{option_map, MatchOption, ⊤}
use Rattle.std.proofs.lemmas.Bool.{eq-eqb, cases_eq, ne_eqb}
use Rattle.slab.specs.Slab.{Slab, get, Updates}
use Rattle.tb_shape.specs.declared.entries.Entry.{Entry}
use Rattle.tb_shape.specs.declared.nodes.Node.{Node}
use Rattle.tb_shape.specs.Entries.{AreHung, IsHung, entry_of, tree_of, reparented}
use Rattle.tb_shape.specs.Tree.{is_child_of, AreChildren}
use Rattle.tb_shape.specs.Nodes.{count_of, ChangesNode, IsNodeOf}
use Rattle.tb_shape.specs.Shape.{IsShape}
use Rattle.tb_shape.proofs.Climb.{hung_up}
use Rattle.tb_shape.proofs.Changes.{placed, dropped, up, parent_of-up, entry_of-placed, entry_of-dropped, entry_of-reparented, IsRising-placed, IsRising-dropped, IsRising-reparented, depth-reparented, slot-reparented, reparented_child, reparented_other, child_true, true_child, child_false, false_child, map_some}

-- whether c is a child of q, as a number
abbrev kid : List Entry → ℕ → ℕ → ℕ
kid xs q c = cond (is_child_of q (up (entry_of xs c))) 1 0

children_kid : (xs : List Entry) (q : ℕ) (cs : List ℕ) → AreChildren (tree_of xs) q cs → (c : ℕ) → count_of c cs ≡ kid xs q c
children_kid xs q cs h c = h c ∙ ap (λ o. cond {A = ℕ} (is_child_of q o) 1 0) (parent_of-up xs c)

kid_children : (xs : List Entry) (q : ℕ) (cs : List ℕ) → ((c : ℕ) → count_of c cs ≡ kid xs q c) → AreChildren (tree_of xs) q cs
kid_children xs q cs h c = h c ∙ sym (ap (λ o. cond {A = ℕ} (is_child_of q o) 1 0) (parent_of-up xs c))

-- a single key in a count
count_one : (key c : ℕ) → count_of c (key ∷ []) ≡ cond (key == c) 1 0
count_one key c = zero-add _

-- nothing hangs under a key that is not there
kid_none : (xs : List Entry) (q c : ℕ) → AreHung xs → entry_of xs q ≡ None → kid xs q c ≡ 0
kid_none xs q c hung missing = at (entry_of xs c) refl
  where
    below : (e : Entry) → entry_of xs c ≡ Some e → (o : Option ℕ) → e.parent ≡ o → cond {A = ℕ} (is_child_of q o) 1 0 ≡ 0
    below e is None top = refl
    below e is (Some p) top =
        let h = hung_up xs c p e hung is top in
        let differs : p ≢ q = λ same. let clash : Some h.0 ≡ None = sym h.1 ∙ ap (entry_of xs) same ∙ missing in cc in
        rw (ne_eqb p q differs) refl

    at : (o : Option Entry) → entry_of xs c ≡ o → cond {A = ℕ} (is_child_of q (up o)) 1 0 ≡ 0
    at None is = refl
    at (Some e) is = below e is e.parent refl

-- an entry hangs as before where its parent is still there, as deep as before
lift_hung : (xs ys : List Entry) (e now : Entry) → now.parent ≡ e.parent → now.depth ≡ e.depth → ((q : ℕ) (a : Entry) → e.parent ≡ Some q → entry_of xs q ≡ Some a → (b : Entry) × (entry_of ys q ≡ Some b) × (b.depth ≡ a.depth)) → IsHung xs e → IsHung ys now
lift_hung xs ys e now parent depth keeps h = subst (λ o. MatchOption o ⊤ (λ p. (above : Entry) × (entry_of ys p ≡ Some above) × (above.depth < now.depth))) (sym parent) (at e.parent refl h)
  where
    at : (o : Option ℕ) → e.parent ≡ o → MatchOption o ⊤ (λ p. (above : Entry) × (entry_of xs p ≡ Some above) × (above.depth < e.depth)) → MatchOption o ⊤ (λ p. (above : Entry) × (entry_of ys p ≡ Some above) × (above.depth < now.depth))
    at None is h = tt
    at (Some p) is h = let k = keeps p h.0 is h.1 in (k.0, k.1, omega (arith, k.2, h.2, depth))

-- a node stays where another slot is written
stays : (old new : Slab Node) (xs : List Entry) (q slot at : ℕ) (o : Option Node) → IsNodeOf old (tree_of xs) q slot → Updates old new at o → slot ≢ at → IsNodeOf new (tree_of xs) q slot
stays old new xs q slot at o is updates differs =
    record { node = is.node; there = updates.others slot differs ∙ is.there; is_key = is.is_key; children = is.children }

-- two keys have different slots
slots_differ : (nodes : Slab Node) (xs : List Entry) (q p s t : ℕ) → IsNodeOf nodes (tree_of xs) q s → IsNodeOf nodes (tree_of xs) p t → q ≢ p → s ≢ t
slots_differ nodes xs q p s t at_q at_p differs same =
    let both : Some at_q.node ≡ Some at_p.node = sym at_q.there ∙ ap (get nodes) same ∙ at_p.there in
    let one : at_q.node ≡ at_p.node = cc in
    differs (sym at_q.is_key ∙ ap (λ (n : Node). n.key) one ∙ at_p.is_key)

-- a key's node after the node of p got and lost children, as the entries tell
relink : (xs ys : List Entry) (nodes now : Slab Node) (p q : ℕ) (f e : Entry) (slot : ℕ) (more less : List ℕ) → IsNodeOf nodes (tree_of xs) p f.slot → IsNodeOf nodes (tree_of xs) q e.slot → entry_of xs p ≡ Some f → entry_of xs q ≡ Some e → slot ≡ e.slot → ChangesNode nodes now f.slot more less → ((c : ℕ) → kid ys q c + cond (p == q) (count_of c less) 0 ≡ kid xs q c + cond (p == q) (count_of c more) 0) → IsNodeOf now (tree_of ys) q slot
relink xs ys nodes now p q f e slot more less at_p at_q is_p is_q is_slot changes kids = subst (IsNodeOf now (tree_of ys) q) (sym is_slot) (at (cases_eq p q))
  where
    at : (p ≡ q) ⊎ (p ≢ q) → IsNodeOf now (tree_of ys) q e.slot
    at (inl same) =
        let both : Some f ≡ Some e = sym is_p ∙ ap (entry_of xs) same ∙ is_q in
        let one : f ≡ e = cc in
        let slots : f.slot ≡ e.slot = ap (λ (g : Entry). g.slot) one in
        let changed = changes.changed at_q.node (ap (get nodes) slots ∙ at_q.there) in
        record {
          node = changed.0;
          there = ap (get now) (sym slots) ∙ changed.1;
          is_key = changed.2 ∙ at_q.is_key;
          children = kid_children ys q changed.0.children.items (λ c.
              let told = kids c in
              let this = rw (eq-eqb p q same) at told in
              omega (arith, changed.3 c, children_kid xs q at_q.node.children.items at_q.children c, this));
        }
    at (inr differs) =
        record {
          node = at_q.node;
          there = changes.others e.slot (slots_differ nodes xs q p e.slot f.slot at_q at_p (λ same. differs (sym same))) ∙ at_q.there;
          is_key = at_q.is_key;
          children = kid_children ys q at_q.node.children.items (λ c.
              let told = kids c in
              let this = rw (ne_eqb p q differs) at told in
              omega (arith, children_kid xs q at_q.node.children.items at_q.children c, this));
        }

-- a further key
module _ (xs : List Entry) (x f : Entry) (p : ℕ) (hung : AreHung xs) (new : entry_of xs x.key ≡ None) (is_parent : x.parent ≡ Some p) (there : entry_of xs p ≡ Some f) where
  p_differs : p ≢ x.key
  p_differs same = let clash : Some f ≡ None = sym there ∙ ap (entry_of xs) same ∙ new in cc

  at_other : (q : ℕ) → x.key ≢ q → entry_of (placed x xs) q ≡ entry_of xs q
  at_other q differs = entry_of-placed x xs q new ∙ ap (λ b. cond b (Some x) (entry_of xs q)) (ne_eqb x.key q differs)

  at_new : (q : ℕ) → x.key ≡ q → entry_of (placed x xs) q ≡ Some x
  at_new q same = entry_of-placed x xs q new ∙ ap (λ b. cond b (Some x) (entry_of xs q)) (eq-eqb x.key q same)

  kid_placed : (q c : ℕ) → kid (placed x xs) q c + cond (p == q) (count_of c []) 0 ≡ kid xs q c + cond (p == q) (count_of c (x.key ∷ [])) 0
  kid_placed q c = at (cases_eq x.key c)
    where
      at : (x.key ≡ c) ⊎ (x.key ≢ c) → kid (placed x xs) q c + cond (p == q) (count_of c []) 0 ≡ kid xs q c + cond (p == q) (count_of c (x.key ∷ [])) 0
      at (inl same) =
          let gone : kid xs q c ≡ 0 = ap (λ o. cond {A = ℕ} (is_child_of q (up o)) 1 0) (ap (entry_of xs) (sym same) ∙ new) in
          let here : kid (placed x xs) q c ≡ cond (p == q) 1 0 = ap (λ o. cond {A = ℕ} (is_child_of q (up o)) 1 0) (at_new c same) ∙ ap (λ o. cond {A = ℕ} (is_child_of q o) 1 0) is_parent in
          let single : count_of c (x.key ∷ []) ≡ 1 = count_one x.key c ∙ ap (λ b. cond {A = ℕ} b 1 0) (eq-eqb x.key c same) in
          rw (gone, here, single) (ends (p == q))
        where
          ends : (b : Bool) → cond {A = ℕ} b 1 0 + cond {A = ℕ} b 0 0 ≡ 0 + cond {A = ℕ} b 1 0
          ends true = refl
          ends false = refl
      at (inr differs) =
          let same_kid : kid (placed x xs) q c ≡ kid xs q c = ap (λ o. cond {A = ℕ} (is_child_of q (up o)) 1 0) (at_other c differs) in
          let single : count_of c (x.key ∷ []) ≡ 0 = count_one x.key c ∙ ap (λ b. cond {A = ℕ} b 1 0) (ne_eqb x.key c differs) in
          rw (same_kid, single) refl

  AreHung-placed : f.depth < x.depth → AreHung (placed x xs)
  AreHung-placed deeper key e is = at (cases_eq x.key key)
    where
      at : (x.key ≡ key) ⊎ (x.key ≢ key) → IsHung (placed x xs) e
      at (inl same) =
          let both : Some x ≡ Some e = sym (at_new key same) ∙ is in
          let one : x ≡ e = cc in
          subst (IsHung (placed x xs)) one (subst (λ o. MatchOption o ⊤ (λ p. (above : Entry) × (entry_of (placed x xs) p ≡ Some above) × (above.depth < x.depth))) (sym is_parent) (f, at_other p (λ same. p_differs (sym same)) ∙ there, deeper))
      at (inr differs) =
          lift_hung xs (placed x xs) e e refl refl
          (λ q a parent found. (a, at_other q (λ same. let clash : Some a ≡ None = sym found ∙ ap (entry_of xs) (sym same) ∙ new in cc) ∙ found, refl))
          (hung key e (sym (at_other key differs) ∙ is))

-- a `Shape` with a further key
pub IsShape-placed : (xs : List Entry) (nodes mid now : Slab Node) (root p : ℕ) (x f : Entry) (fresh : Node) → IsShape xs nodes root → entry_of xs x.key ≡ None → x.parent ≡ Some p → entry_of xs p ≡ Some f → f.depth < x.depth → ChangesNode nodes mid f.slot (x.key ∷ []) [] → get mid x.slot ≡ None → Updates mid now x.slot (Some fresh) → fresh.key ≡ x.key → fresh.children.items ≡ [] → IsShape (placed x xs) now root
IsShape-placed xs nodes mid now root p x f fresh is new is_parent there deeper changes vacant updates fresh_key no_children =
    record {
      rising = IsRising-placed x xs new is.rising;
      hung = AreHung-placed xs x f p is.hung new is_parent there deeper;
      top = (is.top.0, other root (λ same. let clash : Some is.top.0 ≡ None = sym is.top.1 ∙ ap (entry_of xs) (sym same) ∙ new in cc) ∙ is.top.1, is.top.2);
      only = λ key e found none. only key e found none (cases_eq x.key key);
      linked = λ key e found. linked key e found (cases_eq x.key key);
    }
  where
    other : (q : ℕ) → x.key ≢ q → entry_of (placed x xs) q ≡ entry_of xs q
    other = at_other xs x f p is.hung new is_parent there

    only : (key : ℕ) (e : Entry) → entry_of (placed x xs) key ≡ Some e → e.parent ≡ None → (x.key ≡ key) ⊎ (x.key ≢ key) → key ≡ root
    only key e found none (inl same) =
        let both : Some x ≡ Some e = sym (at_new xs x f p is.hung new is_parent there key same) ∙ found in
        let one : x ≡ e = cc in
        let clash : Some p ≡ None = sym is_parent ∙ ap (λ (g : Entry). g.parent) one ∙ none in
        cc
    only key e found none (inr differs) = is.only key e (sym (other key differs) ∙ found) none

    linked : (key : ℕ) (e : Entry) → entry_of (placed x xs) key ≡ Some e → (x.key ≡ key) ⊎ (x.key ≢ key) → IsNodeOf now (tree_of (placed x xs)) key e.slot
    linked key e found (inl same) =
        let both : Some x ≡ Some e = sym (at_new xs x f p is.hung new is_parent there key same) ∙ found in
        let one : x ≡ e = cc in
        record {
          node = fresh;
          there = ap (λ (g : Entry). get now g.slot) (sym one) ∙ updates.changed;
          is_key = fresh_key ∙ same;
          children = kid_children (placed x xs) key fresh.children.items (λ c.
              let none : kid xs key c ≡ 0 = kid_none xs key c is.hung (ap (entry_of xs) (sym same) ∙ new) in
              let told = kid_placed xs x f p is.hung new is_parent there key c in
              let differs : p ≢ key = λ equal. p_differs xs x f p is.hung new is_parent there (equal ∙ sym same) in
              let this = rw (ne_eqb p key differs) at told in
              let empty : count_of c fresh.children.items ≡ 0 = ap (count_of c) no_children in
              omega (arith, none, this, empty));
        }
    linked key e found (inr differs) =
        let old_found : entry_of xs key ≡ Some e = sym (other key differs) ∙ found in
        let linked = relink xs (placed x xs) nodes mid p key f e e.slot (x.key ∷ []) [] (is.linked p f there) (is.linked key e old_found) there old_found refl changes (kid_placed xs x f p is.hung new is_parent there key) in
        stays mid now (placed x xs) key e.slot x.slot _ linked updates (λ same. let clash : Some linked.node ≡ None = sym linked.there ∙ ap (get mid) same ∙ vacant in cc)

-- a `Shape` whose nodes changed in their room alone
pub IsShape-room : (xs : List Entry) (nodes now : Slab Node) (root slot : ℕ) → IsShape xs nodes root → ChangesNode nodes now slot [] [] → IsShape xs now root
IsShape-room xs nodes now root slot is changes =
    record { rising = is.rising; hung = is.hung; top = is.top; only = is.only; linked = λ key e found. at key e (is.linked key e found) (cases_eq e.slot slot) }
  where
    at : (key : ℕ) (e : Entry) → IsNodeOf nodes (tree_of xs) key e.slot → (e.slot ≡ slot) ⊎ (e.slot ≢ slot) → IsNodeOf now (tree_of xs) key e.slot
    at key e old (inl same) =
        let changed = changes.changed old.node (ap (get nodes) (sym same) ∙ old.there) in
        record {
          node = changed.0;
          there = ap (get now) same ∙ changed.1;
          is_key = changed.2 ∙ old.is_key;
          children = λ c. omega (arith, changed.3 c, old.children c);
        }
    at key e old (inr differs) = record { node = old.node; there = changes.others e.slot differs ∙ old.there; is_key = old.is_key; children = old.children }

pub IsShape-capacity : (xs : List Entry) (nodes now : Slab Node) (root : ℕ) → IsShape xs nodes root → now ≡ record nodes { capacity = now.capacity } → IsShape xs now root
IsShape-capacity xs nodes now root is same =
    record {
      rising = is.rising;
      hung = is.hung;
      top = is.top;
      only = is.only;
      linked = λ key e found.
          let old = is.linked key e found in
          record { node = old.node; there = ap (λ (s : Slab Node). get s e.slot) same ∙ old.there; is_key = old.is_key; children = old.children };
    }

-- a `Shape` without a key below the root, whose children its parent takes
module _ (xs : List Entry) (key p : ℕ) (e f : Entry) (hung : AreHung xs) (is : entry_of xs key ≡ Some e) (is_parent : e.parent ≡ Some p) (there : entry_of xs p ≡ Some f) where
  -- the parent is another key
  up_differs : key ≢ p
  up_differs same =
      let h = hung_up xs key p e hung is is_parent in
      let both : Some h.0 ≡ Some e = sym h.1 ∙ ap (entry_of xs) (sym same) ∙ is in
      let one : h.0 ≡ e = cc in
      let less : e.depth < e.depth = subst (λ (g : Entry). g.depth < e.depth) one h.2 in
      absurd (omega (arith, less))

  less_deep : f.depth < e.depth
  less_deep =
      let h = hung_up xs key p e hung is is_parent in
      let both : Some h.0 ≡ Some f = sym h.1 ∙ there in
      let one : h.0 ≡ f = cc in
      subst (λ (g : Entry). g.depth < e.depth) one h.2

-- dropping a leaf
module _ (xs : List Entry) (key p : ℕ) (e f : Entry) (hung : AreHung xs) (is : entry_of xs key ≡ Some e) (is_parent : e.parent ≡ Some p) (there : entry_of xs p ≡ Some f) (leaf : (c : ℕ) (a : Entry) → entry_of xs c ≡ Some a → a.parent ≢ Some key) where
  left_other : (q : ℕ) → key ≢ q → entry_of (dropped key xs) q ≡ entry_of xs q
  left_other q differs = entry_of-dropped key xs q ∙ ap (λ b. cond b None (entry_of xs q)) (ne_eqb key q differs)

  left_same : (q : ℕ) → key ≡ q → entry_of (dropped key xs) q ≡ None
  left_same q same = entry_of-dropped key xs q ∙ ap (λ b. cond b None (entry_of xs q)) (eq-eqb key q same)

  kid_dropped : (q c : ℕ) → kid (dropped key xs) q c + cond (p == q) (count_of c (key ∷ [])) 0 ≡ kid xs q c + cond (p == q) (count_of c []) 0
  kid_dropped q c = at (cases_eq key c)
    where
      at : (key ≡ c) ⊎ (key ≢ c) → kid (dropped key xs) q c + cond (p == q) (count_of c (key ∷ [])) 0 ≡ kid xs q c + cond (p == q) (count_of c []) 0
      at (inl same) =
          let gone : kid (dropped key xs) q c ≡ 0 = ap (λ o. cond {A = ℕ} (is_child_of q (up o)) 1 0) (left_same c same) in
          let was : kid xs q c ≡ cond (p == q) 1 0 = ap (λ o. cond {A = ℕ} (is_child_of q (up o)) 1 0) (ap (entry_of xs) (sym same) ∙ is) ∙ ap (λ o. cond {A = ℕ} (is_child_of q o) 1 0) is_parent in
          let single : count_of c (key ∷ []) ≡ 1 = count_one key c ∙ ap (λ b. cond {A = ℕ} b 1 0) (eq-eqb key c same) in
          rw (gone, was, single) (ends (p == q))
        where
          ends : (b : Bool) → 0 + cond {A = ℕ} b 1 0 ≡ cond {A = ℕ} b 1 0 + cond {A = ℕ} b 0 0
          ends true = refl
          ends false = refl
      at (inr differs) =
          let same_kid : kid (dropped key xs) q c ≡ kid xs q c = ap (λ o. cond {A = ℕ} (is_child_of q (up o)) 1 0) (left_other c differs) in
          let single : count_of c (key ∷ []) ≡ 0 = count_one key c ∙ ap (λ b. cond {A = ℕ} b 1 0) (ne_eqb key c differs) in
          rw (same_kid, single) refl

  AreHung-dropped : AreHung (dropped key xs)
  AreHung-dropped q g found = at (cases_eq key q)
    where
      at : (key ≡ q) ⊎ (key ≢ q) → IsHung (dropped key xs) g
      at (inl same) = let clash : Some g ≡ None = sym found ∙ left_same q same in cc
      at (inr differs) =
          let was : entry_of xs q ≡ Some g = sym (left_other q differs) ∙ found in
          lift_hung xs (dropped key xs) g g refl refl
          (λ r a parent above. (a, left_other r (λ same. leaf q g was (parent ∙ ap Some (sym same))) ∙ above, refl))
          (hung q g was)

pub IsShape-dropped : (xs : List Entry) (nodes mid now : Slab Node) (root key p : ℕ) (e f : Entry) → IsShape xs nodes root → entry_of xs key ≡ Some e → e.parent ≡ Some p → entry_of xs p ≡ Some f → ((c : ℕ) (a : Entry) → entry_of xs c ≡ Some a → a.parent ≢ Some key) → ChangesNode nodes mid f.slot [] (key ∷ []) → Updates mid now e.slot None → IsShape (dropped key xs) now root
IsShape-dropped xs nodes mid now root key p e f shape is is_parent there leaf changes updates =
    record {
      rising = IsRising-dropped key xs shape.rising;
      hung = AreHung-dropped xs key p e f shape.hung is is_parent there leaf;
      top = (shape.top.0, other root root_differs ∙ shape.top.1, shape.top.2);
      only = λ q g found none. only q g found none (cases_eq key q);
      linked = λ q g found. linked q g found (cases_eq key q);
    }
  where
    other : (q : ℕ) → key ≢ q → entry_of (dropped key xs) q ≡ entry_of xs q
    other = left_other xs key p e f shape.hung is is_parent there leaf

    root_differs : key ≢ root
    root_differs same =
        let both : Some e ≡ Some shape.top.0 = sym is ∙ ap (entry_of xs) same ∙ shape.top.1 in
        let one : e ≡ shape.top.0 = cc in
        let clash : Some p ≡ None = sym is_parent ∙ ap (λ (g : Entry). g.parent) one ∙ shape.top.2 in
        cc

    only : (q : ℕ) (g : Entry) → entry_of (dropped key xs) q ≡ Some g → g.parent ≡ None → (key ≡ q) ⊎ (key ≢ q) → q ≡ root
    only q g found none (inl same) = let clash : Some g ≡ None = sym found ∙ left_same xs key p e f shape.hung is is_parent there leaf q same in cc
    only q g found none (inr differs) = shape.only q g (sym (other q differs) ∙ found) none

    linked : (q : ℕ) (g : Entry) → entry_of (dropped key xs) q ≡ Some g → (key ≡ q) ⊎ (key ≢ q) → IsNodeOf now (tree_of (dropped key xs)) q g.slot
    linked q g found (inl same) = let clash : Some g ≡ None = sym found ∙ left_same xs key p e f shape.hung is is_parent there leaf q same in cc
    linked q g found (inr differs) =
        let was : entry_of xs q ≡ Some g = sym (other q differs) ∙ found in
        let old = shape.linked q g was in
        let linked = relink xs (dropped key xs) nodes mid p q f g g.slot [] (key ∷ []) (shape.linked p f there) old there was refl changes (kid_dropped xs key p e f shape.hung is is_parent there leaf q) in
        stays mid now (dropped key xs) q g.slot e.slot None linked updates (slots_differ nodes xs q key g.slot e.slot old (shape.linked key e is) (λ same. differs (sym same)))

-- splicing a key with one child
module _ (xs : List Entry) (key p ch : ℕ) (e f g : Entry) (hung : AreHung xs) (is : entry_of xs key ≡ Some e) (is_parent : e.parent ≡ Some p) (there : entry_of xs p ≡ Some f) (child : entry_of xs ch ≡ Some g) (child_of : g.parent ≡ Some key) (single : (c : ℕ) (a : Entry) → entry_of xs c ≡ Some a → a.parent ≡ Some key → c ≡ ch) where
  spliced_other : (q : ℕ) → key ≢ q → entry_of (map (reparented key (Some p)) (dropped key xs)) q ≡ option_map (reparented key (Some p)) (entry_of xs q)
  spliced_other q differs = entry_of-reparented key (Some p) (dropped key xs) q ∙ ap (option_map (reparented key (Some p))) (entry_of-dropped key xs q ∙ ap (λ b. cond b None (entry_of xs q)) (ne_eqb key q differs))

  spliced_same : (q : ℕ) → key ≡ q → entry_of (map (reparented key (Some p)) (dropped key xs)) q ≡ None
  spliced_same q same = entry_of-reparented key (Some p) (dropped key xs) q ∙ ap (option_map (reparented key (Some p))) (entry_of-dropped key xs q ∙ ap (λ b. cond b None (entry_of xs q)) (eq-eqb key q same))

  child_differs : ch ≢ key
  child_differs same =
      let both : Some g ≡ Some e = sym child ∙ ap (entry_of xs) same ∙ is in
      let one : g ≡ e = cc in
      let loop : Some key ≡ Some p = sym child_of ∙ ap (λ (a : Entry). a.parent) one ∙ is_parent in
      let equal : key ≡ p = cc in
      up_differs xs key p e f hung is is_parent there equal

  kid_spliced : (q : ℕ) → key ≢ q → (c : ℕ) → kid (map (reparented key (Some p)) (dropped key xs)) q c + cond (p == q) (count_of c (key ∷ [])) 0 ≡ kid xs q c + cond (p == q) (count_of c (ch ∷ [])) 0
  kid_spliced q away c = at (cases_eq key c)
    where
      ends : (b : Bool) → 0 + cond {A = ℕ} b 1 0 ≡ cond {A = ℕ} b 1 0 + cond {A = ℕ} b 0 0
      ends true = refl
      ends false = refl

      begins : (b : Bool) → cond {A = ℕ} b 1 0 + cond {A = ℕ} b 0 0 ≡ 0 + cond {A = ℕ} b 1 0
      begins true = refl
      begins false = refl

      same_kid : key ≢ c → ch ≢ c → (o : Option Entry) → entry_of xs c ≡ o → cond {A = ℕ} (is_child_of q (up (option_map (reparented key (Some p)) o))) 1 0 ≡ cond {A = ℕ} (is_child_of q (up o)) 1 0
      same_kid differs other None found = refl
      same_kid differs other (Some a) found =
          ap (λ (b : Entry). cond {A = ℕ} (is_child_of q b.parent) 1 0) (reparented_other key (Some p) a (false_child key a.parent (λ hangs. other (sym (single c a found hangs)))))

      at_child : key ≢ c → (ch ≡ c) ⊎ (ch ≢ c) → kid (map (reparented key (Some p)) (dropped key xs)) q c + cond (p == q) (count_of c (key ∷ [])) 0 ≡ kid xs q c + cond (p == q) (count_of c (ch ∷ [])) 0
      at_child differs (inl same) =
          let found : entry_of xs c ≡ Some g = ap (entry_of xs) (sym same) ∙ child in
          let now : kid (map (reparented key (Some p)) (dropped key xs)) q c ≡ cond (p == q) 1 0 = ap (λ o. cond {A = ℕ} (is_child_of q (up o)) 1 0) (spliced_other c differs ∙ ap (option_map (reparented key (Some p))) found) ∙ ap (λ o. cond {A = ℕ} (is_child_of q o) 1 0) (reparented_child key (Some p) g (true_child key g.parent child_of)) in
          let was : kid xs q c ≡ 0 = ap (λ o. cond {A = ℕ} (is_child_of q (up o)) 1 0) found ∙ ap (λ o. cond {A = ℕ} (is_child_of q o) 1 0) child_of ∙ ap (λ b. cond {A = ℕ} b 1 0) (ne_eqb key q away) in
          let lost : count_of c (key ∷ []) ≡ 0 = count_one key c ∙ ap (λ b. cond {A = ℕ} b 1 0) (ne_eqb key c differs) in
          let got : count_of c (ch ∷ []) ≡ 1 = count_one ch c ∙ ap (λ b. cond {A = ℕ} b 1 0) (eq-eqb ch c same) in
          rw (now, was, lost, got) (begins (p == q))
      at_child differs (inr other) =
          let now : kid (map (reparented key (Some p)) (dropped key xs)) q c ≡ kid xs q c = ap (λ o. cond {A = ℕ} (is_child_of q (up o)) 1 0) (spliced_other c differs) ∙ same_kid differs other (entry_of xs c) refl in
          let lost : count_of c (key ∷ []) ≡ 0 = count_one key c ∙ ap (λ b. cond {A = ℕ} b 1 0) (ne_eqb key c differs) in
          let got : count_of c (ch ∷ []) ≡ 0 = count_one ch c ∙ ap (λ b. cond {A = ℕ} b 1 0) (ne_eqb ch c other) in
          rw (now, lost, got) refl

      at : (key ≡ c) ⊎ (key ≢ c) → kid (map (reparented key (Some p)) (dropped key xs)) q c + cond (p == q) (count_of c (key ∷ [])) 0 ≡ kid xs q c + cond (p == q) (count_of c (ch ∷ [])) 0
      at (inl same) =
          let now : kid (map (reparented key (Some p)) (dropped key xs)) q c ≡ 0 = ap (λ o. cond {A = ℕ} (is_child_of q (up o)) 1 0) (spliced_same c same) in
          let was : kid xs q c ≡ cond (p == q) 1 0 = ap (λ o. cond {A = ℕ} (is_child_of q (up o)) 1 0) (ap (entry_of xs) (sym same) ∙ is) ∙ ap (λ o. cond {A = ℕ} (is_child_of q o) 1 0) is_parent in
          let lost : count_of c (key ∷ []) ≡ 1 = count_one key c ∙ ap (λ b. cond {A = ℕ} b 1 0) (eq-eqb key c same) in
          let got : count_of c (ch ∷ []) ≡ 0 = count_one ch c ∙ ap (λ b. cond {A = ℕ} b 1 0) (ne_eqb ch c (λ equal. child_differs (equal ∙ sym same))) in
          rw (now, was, lost, got) (ends (p == q))
      at (inr differs) = at_child differs (cases_eq ch c)

  AreHung-spliced : AreHung (map (reparented key (Some p)) (dropped key xs))
  AreHung-spliced q now found = at (cases_eq key q)
    where
      hangs : (h : Entry) → entry_of xs q ≡ Some h → (b : Bool) → is_child_of key h.parent ≡ b → IsHung (map (reparented key (Some p)) (dropped key xs)) (reparented key (Some p) h)
      hangs h was true is_child =
          let above = hung_up xs q key h hung was (child_true key h.parent is_child) in
          let both : Some above.0 ≡ Some e = sym above.1 ∙ is in
          let one : above.0 ≡ e = cc in
          let deeper : e.depth < h.depth = subst (λ (a : Entry). a.depth < h.depth) one above.2 in
          let less : (reparented key (Some p) f).depth < (reparented key (Some p) h).depth = omega (arith, depth-reparented key (Some p) f, depth-reparented key (Some p) h, deeper, less_deep xs key p e f hung is is_parent there) in
          let ys = map (reparented key (Some p)) (dropped key xs) in
          subst (λ o. MatchOption o ⊤ (λ r. (a : Entry) × (entry_of ys r ≡ Some a) × (a.depth < (reparented key (Some p) h).depth))) (sym (reparented_child key (Some p) h is_child)) (
            reparented key (Some p) f,
            spliced_other p (up_differs xs key p e f hung is is_parent there) ∙ ap (option_map (reparented key (Some p))) there,
            less,
          )
      hangs h was false is_child =
          lift_hung xs (map (reparented key (Some p)) (dropped key xs)) h (reparented key (Some p) h)
          (ap (λ (a : Entry). a.parent) (reparented_other key (Some p) h is_child))
          (depth-reparented key (Some p) h)
          (λ r a parent above. (reparented key (Some p) a, spliced_other r (λ same. child_false key h.parent is_child (parent ∙ ap Some (sym same))) ∙ ap (option_map (reparented key (Some p))) above, depth-reparented key (Some p) a))
          (hung q h was)

      at : (key ≡ q) ⊎ (key ≢ q) → IsHung (map (reparented key (Some p)) (dropped key xs)) now
      at (inl same) = let clash : Some now ≡ None = sym found ∙ spliced_same q same in cc
      at (inr differs) =
          let was = map_some (reparented key (Some p)) (entry_of xs q) now (sym (spliced_other q differs) ∙ found) in
          subst (IsHung (map (reparented key (Some p)) (dropped key xs))) was.2 (hangs was.0 was.1 (is_child_of key was.0.parent) refl)

pub IsShape-spliced : (xs : List Entry) (nodes mid now : Slab Node) (root key p ch : ℕ) (e f g : Entry) → IsShape xs nodes root → entry_of xs key ≡ Some e → e.parent ≡ Some p → entry_of xs p ≡ Some f → entry_of xs ch ≡ Some g → g.parent ≡ Some key → ((c : ℕ) (a : Entry) → entry_of xs c ≡ Some a → a.parent ≡ Some key → c ≡ ch) → ChangesNode nodes mid f.slot (ch ∷ []) (key ∷ []) → Updates mid now e.slot None → IsShape (map (reparented key (Some p)) (dropped key xs)) now root
IsShape-spliced xs nodes mid now root key p ch e f g shape is is_parent there child child_of single changes updates =
    record {
      rising = IsRising-reparented key (Some p) (dropped key xs) (IsRising-dropped key xs shape.rising);
      hung = AreHung-spliced xs key p ch e f g shape.hung is is_parent there child child_of single;
      top = (shape.top.0, other root root_differs ∙ ap (option_map (reparented key (Some p))) shape.top.1 ∙ ap Some (reparented_other key (Some p) shape.top.0 (ap (is_child_of key) shape.top.2)), shape.top.2);
      only = λ q h found none. only q h found none (cases_eq key q);
      linked = λ q h found. linked q h found (cases_eq key q);
    }
  where
    other : (q : ℕ) → key ≢ q → entry_of (map (reparented key (Some p)) (dropped key xs)) q ≡ option_map (reparented key (Some p)) (entry_of xs q)
    other = spliced_other xs key p ch e f g shape.hung is is_parent there child child_of single

    gone : (q : ℕ) → key ≡ q → entry_of (map (reparented key (Some p)) (dropped key xs)) q ≡ None
    gone = spliced_same xs key p ch e f g shape.hung is is_parent there child child_of single

    root_differs : key ≢ root
    root_differs same =
        let both : Some e ≡ Some shape.top.0 = sym is ∙ ap (entry_of xs) same ∙ shape.top.1 in
        let one : e ≡ shape.top.0 = cc in
        let clash : Some p ≡ None = sym is_parent ∙ ap (λ (a : Entry). a.parent) one ∙ shape.top.2 in
        cc

    top_only : (q : ℕ) (h : Entry) → entry_of xs q ≡ Some h → (reparented key (Some p) h).parent ≡ None → (b : Bool) → is_child_of key h.parent ≡ b → q ≡ root
    top_only q h was none true is_child = let clash : Some p ≡ None = sym (reparented_child key (Some p) h is_child) ∙ none in cc
    top_only q h was none false is_child = shape.only q h was (sym (ap (λ (a : Entry). a.parent) (reparented_other key (Some p) h is_child)) ∙ none)

    only : (q : ℕ) (h : Entry) → entry_of (map (reparented key (Some p)) (dropped key xs)) q ≡ Some h → h.parent ≡ None → (key ≡ q) ⊎ (key ≢ q) → q ≡ root
    only q h found none (inl same) = let clash : Some h ≡ None = sym found ∙ gone q same in cc
    only q h found none (inr differs) =
        let was = map_some (reparented key (Some p)) (entry_of xs q) h (sym (other q differs) ∙ found) in
        top_only q was.0 was.1 (ap (λ (a : Entry). a.parent) was.2 ∙ none) (is_child_of key was.0.parent) refl

    linked : (q : ℕ) (h : Entry) → entry_of (map (reparented key (Some p)) (dropped key xs)) q ≡ Some h → (key ≡ q) ⊎ (key ≢ q) → IsNodeOf now (tree_of (map (reparented key (Some p)) (dropped key xs))) q h.slot
    linked q h found (inl same) = let clash : Some h ≡ None = sym found ∙ gone q same in cc
    linked q h found (inr differs) =
        let was = map_some (reparented key (Some p)) (entry_of xs q) h (sym (other q differs) ∙ found) in
        let old = shape.linked q was.0 was.1 in
        let slot : h.slot ≡ was.0.slot = sym (ap (λ (a : Entry). a.slot) was.2) ∙ slot-reparented key (Some p) was.0 in
        let linked = relink xs (map (reparented key (Some p)) (dropped key xs)) nodes mid p q f was.0 h.slot (ch ∷ []) (key ∷ []) (shape.linked p f there) old there was.1 slot changes (kid_spliced xs key p ch e f g shape.hung is is_parent there child child_of single q differs) in
        stays mid now (map (reparented key (Some p)) (dropped key xs)) q h.slot e.slot None linked updates
        (λ same. slots_differ nodes xs q key was.0.slot e.slot old (shape.linked key e is) (λ equal. differs (sym equal)) (sym slot ∙ same))

-- a key that is not there has no children
pub children_none : (xs : List Entry) (key : ℕ) → AreHung xs → entry_of xs key ≡ None → AreChildren (tree_of xs) key []
children_none xs key hung missing = kid_children xs key [] (λ c. sym (kid_none xs key c hung missing))
