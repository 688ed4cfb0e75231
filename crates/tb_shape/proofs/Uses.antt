-- What the edits of a `Shape` need of it.
use Rattle.std.proofs.Common.{◌≡◌, ◌∙◌, ◌≢◌, ◌⊎◌, ◌||◌, ℕ, suc, ◌+◌, ◌<◌, ◌≤◌, Bool, true, false, cond, List, [], ◌∷◌, length, map, refl, ap, sym, subst, arith, Option, Some, None, inl, inr, ◌==◌, nat_lt, slice_index, insert, remove}
use Rattle.std.specs.Prelude.{IsSome, IfSome, is_some, MatchOption, ⊤}
use Rattle.std.specs.List.{list_any, AllByRecursion}
use Rattle.std.proofs.lemmas.Bool.{eq-eqb, cases_eq}
use Rattle.std.proofs.lemmas.List.Sums.{sum_by-cons}
use Rattle.slab.specs.Slab.{Slab, get, ContainsKey, Updates}
use Rattle.tb_shape.specs.declared.entries.Entry.{Entry}
use Rattle.tb_shape.specs.declared.nodes.Node.{Node}
use Rattle.tb_shape.specs.Entries.{IsRising, AreHung, entry_of, place_of, tree_of, reparented}
use Rattle.tb_shape.specs.Tree.{Keys, IsKeys, AreRising, HasKey, is_key, parent_of, is_child_of, AreChildren, with_child, without, spliced, moved_up}
use Rattle.tb_shape.specs.Nodes.{count_of, ChangesNode, HasChild}
use Rattle.tb_shape.specs.Shape.{IsShape}
use Rattle.tb_shape.proofs.Climb.{none_from, has_path, HasKey-entry, parent_of-entry, key-entry, hung_up}
use Rattle.tb_shape.proofs.Changes.{dropped, up, parent_of-up, insert-placed, tree_of-placed, tree_of-dropped, tree_of-reparented, remove-dropped, child_true}
use Rattle.tb_shape.proofs.Keep.{IsShape-capacity, IsShape-placed, IsShape-spliced}

pub some_from : {A : Type 0} (o : Option A) → IsSome o → (x : A) × (o ≡ Some x)
some_from None is = absurd (cc)
some_from (Some x) is = (x, refl)

pub is_some_at : {A : Type 0} (o : Option A) (x : A) → o ≡ Some x → IsSome o
is_some_at o x is = ap is_some is

pub place_of-le : (key : ℕ) (xs : List Entry) → place_of key xs ≤ length xs
place_of-le key [] = omega arith
place_of-le key (x ∷ xs) = at (place_of-le key xs) (nat_lt x.key key)
  where
    at : place_of key xs ≤ length xs → (b : Bool) → cond b (suc (place_of key xs)) 0 ≤ suc (length xs)
    at later true = omega arith
    at later false = omega arith

pub place_within : (key : ℕ) (xs : List Entry) → IsRising xs → IsSome (entry_of xs key) → place_of key xs < length xs
place_within key xs rising there = let e = some_from (entry_of xs key) there in (remove-dropped key e.0 xs rising e.1).0

-- a key of the tree has an entry
pub entry_there : (xs : List Entry) (key : ℕ) → HasKey (tree_of xs) key → IsSome (entry_of xs key)
entry_there [] key has = absurd (cc)
entry_there (x ∷ xs) key has = at (entry_there xs key) (x.key == key) has
  where
    at : (HasKey (tree_of xs) key → IsSome (entry_of xs key)) → (b : Bool) → (b || list_any (is_key key) (tree_of xs)) ≡ true → IsSome (cond b (Some x) (entry_of xs key))
    at later true has = refl
    at later false has = later has

pub entry_missing : (xs : List Entry) (key : ℕ) → (HasKey (tree_of xs) key → ⊥) → entry_of xs key ≡ None
entry_missing xs key never = none_from (entry_of xs key) (λ e is. never (HasKey-entry xs key e is))

-- a key with a parent has an entry with it
pub entry_below : (xs : List Entry) (key : ℕ) → IsSome (parent_of (tree_of xs) key) → (e : Entry) × (entry_of xs key ≡ Some e) × IsSome e.parent
entry_below xs key below = at (entry_of xs key) refl (subst IsSome (parent_of-up xs key) below)
  where
    at : (o : Option Entry) → entry_of xs key ≡ o → IsSome (up o) → (e : Entry) × (entry_of xs key ≡ Some e) × IsSome e.parent
    at None is below = absurd (cc)
    at (Some e) is below = (e, is, below)

pub parent_below : (xs : List Entry) (key : ℕ) (e : Entry) → entry_of xs key ≡ Some e → IsSome (parent_of (tree_of xs) key) → IsSome e.parent
parent_below xs key e is below = subst IsSome (parent_of-entry xs key e is) below

-- where room was made the `Shape` is as before
pub IsShape-made : (xs ys : List Entry) (nodes now : Slab Node) (root : ℕ) → ys ≡ xs → now ≡ record nodes { capacity = now.capacity } → IsShape xs nodes root → IsShape ys now root
IsShape-made xs ys nodes now root same more is = subst (λ zs. IsShape zs now root) (sym same) (IsShape-capacity xs nodes now root is more)

pub slot_there : (xs : List Entry) (nodes : Slab Node) (root key : ℕ) (e : Entry) → IsShape xs nodes root → entry_of xs key ≡ Some e → ContainsKey nodes e.slot
slot_there xs nodes root key e is found = let node = is.linked key e found in is_some_at _ node.node node.there

-- a change of one node leaves every slot that had a node one
pub slot_kept : (nodes now : Slab Node) (slot at : ℕ) (more less : List ℕ) → ChangesNode nodes now slot more less → ContainsKey nodes at → ContainsKey now at
slot_kept nodes now slot at more less changes there = both (some_from (get nodes at) there) (cases_eq at slot)
  where
    both : (n : Node) × (get nodes at ≡ Some n) → (at ≡ slot) ⊎ (at ≢ slot) → ContainsKey now at
    both n (inl same) = let changed = changes.changed n.0 (ap (get nodes) (sym same) ∙ n.1) in is_some_at _ changed.0 (ap (get now) same ∙ changed.1)
    both n (inr differs) = is_some_at _ n.0 (changes.others at differs ∙ n.1)

-- a key's parent has it among its children
pub has_child : (xs : List Entry) (nodes : Slab Node) (root key : ℕ) (e f : Entry) → IsShape xs nodes root → entry_of xs key ≡ Some e → e.parent ≡ Some f.key → entry_of xs f.key ≡ Some f → HasChild nodes f.slot key
has_child xs nodes root key e f is found parent above =
    let node = is.linked f.key f above in
    let counted : count_of key node.node.children.items ≡ 1 = node.children key ∙ ap (λ o. cond {A = ℕ} (is_child_of f.key o) 1 0) (parent_of-entry xs key e found ∙ parent) ∙ ap (λ b. cond {A = ℕ} b 1 0) (eq-eqb f.key f.key refl) in
    (node.node, node.there, omega (arith, counted))

-- the only child stands first among the children
pub only_first : (tree : Keys) (key ch : ℕ) (cs : List ℕ) → AreChildren tree key cs → parent_of tree ch ≡ Some key → ((other : ℕ) → parent_of tree other ≡ Some key → other ≡ ch) → (0 < length cs) × (slice_index cs 0 ≡ ch)
only_first tree key ch [] children is single =
    let counted : 0 ≡ 1 = children ch ∙ ap (λ o. cond {A = ℕ} (is_child_of key o) 1 0) is ∙ ap (λ b. cond {A = ℕ} b 1 0) (eq-eqb key key refl) in
    absurd (omega (arith, counted))
only_first tree key ch (c ∷ cs) children is single = (omega arith, single c (child_true key (parent_of tree c) (at (is_child_of key (parent_of tree c)) refl)))
  where
    at : (b : Bool) → is_child_of key (parent_of tree c) ≡ b → is_child_of key (parent_of tree c) ≡ true
    at true h = h
    at false h =
        let none : count_of c (c ∷ cs) ≡ 0 = children c ∙ ap (λ b. cond {A = ℕ} b 1 0) h in
        let head : count_of c (c ∷ cs) ≡ cond (c == c) 1 0 + count_of c cs = sum_by-cons (λ k. cond (k == c) 1 0) c cs in
        let one : cond (c == c) 1 0 ≡ 1 = ap (λ b. cond {A = ℕ} b 1 0) (eq-eqb c c refl) in
        absurd (omega (arith, none, head, one))

-- the trees that the edits leave
pub tree_placed : (xs ys zs : List Entry) (x : Entry) (parent : ℕ) → ys ≡ xs → zs ≡ insert ys (place_of x.key ys) x → x.parent ≡ Some parent → tree_of zs ≡ with_child parent x.key (tree_of xs)
tree_placed xs ys zs x parent same is is_parent = ap tree_of (is ∙ ap (λ ws. insert ws (place_of x.key ws) x) same ∙ insert-placed x xs) ∙ tree_of-placed x parent xs is_parent

pub entries_dropped : (xs zs : List Entry) (key : ℕ) (e : Entry) → IsRising xs → entry_of xs key ≡ Some e → zs ≡ remove xs (place_of key xs) → zs ≡ dropped key xs
entries_dropped xs zs key e rising found is = is ∙ (remove-dropped key e xs rising found).1

pub tree_dropped : (xs zs : List Entry) (key : ℕ) → zs ≡ dropped key xs → tree_of zs ≡ without key (tree_of xs)
tree_dropped xs zs key is = ap tree_of is ∙ tree_of-dropped key xs

pub tree_spliced : (xs zs : List Entry) (key : ℕ) (e : Entry) → entry_of xs key ≡ Some e → zs ≡ map (reparented key e.parent) (dropped key xs) → tree_of zs ≡ spliced key (tree_of xs)
tree_spliced xs zs key e found is =
    ap tree_of is ∙ tree_of-reparented key e.parent (dropped key xs) ∙ ap (map (moved_up key e.parent)) (tree_of-dropped key xs) ∙ ap (λ o. map (moved_up key o) (without key (tree_of xs))) (sym (parent_of-entry xs key e found))

-- what no key of the tree has as its parent, no entry has
pub leaf_entries : (xs : List Entry) (key : ℕ) → ((child : ℕ) → parent_of (tree_of xs) child ≢ Some key) → (c : ℕ) (a : Entry) → entry_of xs c ≡ Some a → a.parent ≢ Some key
leaf_entries xs key leaf c a found hangs = leaf c (parent_of-entry xs c a found ∙ hangs)

pub single_entries : (xs : List Entry) (key ch : ℕ) → ((other : ℕ) → parent_of (tree_of xs) other ≡ Some key → other ≡ ch) → (c : ℕ) (a : Entry) → entry_of xs c ≡ Some a → a.parent ≡ Some key → c ≡ ch
single_entries xs key ch single c a found hangs = single c (parent_of-entry xs c a found ∙ hangs)

-- the entry of a key whose parent is known
pub child_entry : (xs : List Entry) (key ch : ℕ) → parent_of (tree_of xs) ch ≡ Some key → (g : Entry) × (entry_of xs ch ≡ Some g) × (g.parent ≡ Some key)
child_entry xs key ch is = at (entry_of xs ch) refl (sym (parent_of-up xs ch) ∙ is)
  where
    at : (o : Option Entry) → entry_of xs ch ≡ o → up o ≡ Some key → (g : Entry) × (entry_of xs ch ≡ Some g) × (g.parent ≡ Some key)
    at None found is = cc
    at (Some g) found is = (g, found, is)

-- a root alone is a `Shape`
pub IsShape-root : (now : Slab Node) (x : Entry) (root : ℕ) (node : Node) → x.key ≡ root → x.parent ≡ None → get now x.slot ≡ Some node → node.key ≡ root → node.children.items ≡ [] → IsShape (x ∷ []) now root
IsShape-root now x root node key top there is_key empty =
    record {
      rising = (tt, tt);
      hung = λ q e found. let one = only q e (x.key == q) found in subst (λ (g : Entry). MatchOption g.parent ⊤ (λ p. (above : Entry) × (entry_of (x ∷ []) p ≡ Some above) × (above.depth < g.depth))) one (subst (λ o. MatchOption o ⊤ (λ p. (above : Entry) × (entry_of (x ∷ []) p ≡ Some above) × (above.depth < x.depth))) (sym top) tt);
      top = (x, ap (λ b. cond {A = Option Entry} b (Some x) None) (eq-eqb x.key root key), top);
      only = λ q e found none. sym (key-entry (x ∷ []) q e found) ∙ ap (λ (g : Entry). g.key) (sym (only q e (x.key == q) found)) ∙ key;
      linked = λ q e found.
          let one = only q e (x.key == q) found in
          record {
            node = node;
            there = ap (λ (g : Entry). get now g.slot) (sym one) ∙ there;
            is_key = is_key ∙ sym key ∙ ap (λ (g : Entry). g.key) one ∙ key-entry (x ∷ []) q e found;
            children = λ c. ap (count_of c) empty ∙ sym (ap (λ o. cond {A = ℕ} (is_child_of q o) 1 0) (parent_of-up (x ∷ []) c ∙ none c (x.key == c)));
          };
    }
  where
    only : (q : ℕ) (e : Entry) (b : Bool) → cond b (Some x) None ≡ Some e → x ≡ e
    only q e true found = cc
    only q e false found = cc

    none : (c : ℕ) (b : Bool) → up (cond b (Some x) None) ≡ None
    none c true = top
    none c false = refl

pub shape_placed : (xs ys zs : List Entry) (nodes mid now : Slab Node) (root p : ℕ) (x f : Entry) (fresh : Node) → ys ≡ xs → zs ≡ insert ys (place_of x.key ys) x → IsShape xs nodes root → entry_of xs x.key ≡ None → x.parent ≡ Some p → entry_of xs p ≡ Some f → f.depth < x.depth → ChangesNode nodes mid f.slot (x.key ∷ []) [] → get mid x.slot ≡ None → Updates mid now x.slot (Some fresh) → fresh.key ≡ x.key → fresh.children.items ≡ [] → IsShape zs now root
shape_placed xs ys zs nodes mid now root p x f fresh same is shape new is_parent there deeper changes vacant updates fresh_key empty =
    subst (λ ws. IsShape ws now root) (sym (is ∙ ap (λ ws. insert ws (place_of x.key ws) x) same ∙ insert-placed x xs)) (IsShape-placed xs nodes mid now root p x f fresh shape new is_parent there deeper changes vacant updates fresh_key empty)

pub shape_spliced : (xs zs ws : List Entry) (nodes mid now : Slab Node) (root key got ch : ℕ) (e f : Entry) → IsShape xs nodes root → entry_of xs key ≡ Some e → e.parent ≡ Some f.key → entry_of xs f.key ≡ Some f → parent_of (tree_of xs) ch ≡ Some key → ((other : ℕ) → parent_of (tree_of xs) other ≡ Some key → other ≡ ch) → got ≡ ch → ChangesNode nodes mid f.slot (got ∷ []) (key ∷ []) → Updates mid now e.slot None → zs ≡ dropped key xs → ws ≡ map (reparented key e.parent) zs → IsShape ws now root
shape_spliced xs zs ws nodes mid now root key got ch e f shape is is_parent there child single first changes updates left moved =
    let g = child_entry xs key ch child in
    let whole : ws ≡ map (reparented key (Some f.key)) (dropped key xs) = moved ∙ ap (map (reparented key e.parent)) left ∙ ap (λ o. map (reparented key o) (dropped key xs)) is_parent in
    subst (λ ys. IsShape ys now root) (sym whole) (IsShape-spliced xs nodes mid now root key f.key ch e f g.0 shape is is_parent there g.1 g.2 (single_entries xs key ch single) (subst (λ k. ChangesNode nodes mid f.slot (k ∷ []) (key ∷ [])) first changes) updates)

-- the parent of an entry is a key of the tree
pub parent_there : (xs : List Entry) (key : ℕ) (e : Entry) → AreHung xs → entry_of xs key ≡ Some e → IfSome e.parent (HasKey (tree_of xs))
parent_there xs key e hung is = at e.parent refl
  where
    at : (o : Option ℕ) → e.parent ≡ o → IfSome o (HasKey (tree_of xs))
    at None top = tt
    at (Some p) up = let above = hung_up xs key p e hung is up in HasKey-entry xs p above.0 above.1

-- the root of a `Shape`
keys_above : (key : ℕ) (xs : List Entry) → AllByRecursion (λ (later : Entry). key < later.key) xs → AllByRecursion (λ (later : ℕ × Option ℕ). key < later.0) (tree_of xs)
keys_above key [] all = tt
keys_above key (x ∷ xs) all = (all.0, keys_above key xs all.1)

keys_rise : (xs : List Entry) → IsRising xs → AreRising (tree_of xs)
keys_rise [] rising = tt
keys_rise (x ∷ xs) rising = (keys_above x.key xs rising.0, keys_rise xs rising.1)

-- what a `Shape` stands for is a tree
pub IsKeys-shape : (xs : List Entry) (nodes : Slab Node) (root : ℕ) → IsShape xs nodes root → IsKeys (tree_of xs) root
IsKeys-shape xs nodes root is =
    record {
      rising = keys_rise xs is.rising;
      there = HasKey-entry xs root is.top.0 is.top.1;
      top = parent_of-entry xs root is.top.0 is.top.1 ∙ is.top.2;
      only = λ key has top. let e = some_from (entry_of xs key) (entry_there xs key has) in is.only key e.0 e.1 (sym (parent_of-entry xs key e.0 e.1) ∙ top);
      up = λ key parent above.
          let e = entry_below xs key (is_some_at (parent_of (tree_of xs) key) parent above) in
          let higher = hung_up xs key parent e.0 is.hung e.1 (sym (parent_of-entry xs key e.0 e.1) ∙ above) in
          HasKey-entry xs parent higher.0 higher.1;
      paths = λ key has. let e = some_from (entry_of xs key) (entry_there xs key has) in has_path xs is.hung (suc e.0.depth) key e.0 e.1 (omega arith);
    }
