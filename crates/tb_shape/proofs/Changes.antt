-- What adding a key, dropping one and moving children up leave of the entries.
use Rattle.std.proofs.Common.{◌≡◌, ◌∙◌, ◌≢◌, ◌⊎◌, ℕ, suc, ◌<◌, Bool, true, false, cond, not, List, [], ◌∷◌, length, map, refl, ap, sym, subst, arith, Option, Some, None, inl, inr, nat_lt, ◌==◌, filter, insert, remove}
use Rattle.std.specs.Prelude.{option_map, option_and_then}
use Rattle.std.specs.List.{AllByRecursion}
use Rattle.std.proofs.lemmas.Bool.{eqb-true, eq-eqb, ltb-true, ltb-false, cases_eq, ne_eqb}
use Rattle.tb_shape.specs.declared.entries.Entry.{Entry}
use Rattle.tb_shape.specs.Entries.{IsRising, place_of, entry_of, is_entry, tree_of, pair_of, reparented}
use Rattle.tb_shape.specs.Tree.{parent_of, is_child_of, with_child, without, moved_up}
use Rattle.tb_shape.proofs.Search.{below_all}
use Rattle.tb_shape.proofs.Climb.{find-tree_of}

-- the entries with a further one at its place
abbrev pub placed : Entry → List Entry → List Entry
placed x [] = x ∷ []
placed x (y ∷ ys) = cond (nat_lt y.key x.key) (y ∷ placed x ys) (x ∷ y ∷ ys)

-- the entries without a key's
abbrev pub dropped : ℕ → List Entry → List Entry
dropped key xs = filter (λ e. not (is_entry key e)) xs

-- the parent in an entry that may be there
abbrev pub up : Option Entry → Option ℕ
up None = None
up (Some e) = e.parent

pub parent_of-up : (xs : List Entry) (c : ℕ) → parent_of (tree_of xs) c ≡ up (entry_of xs c)
parent_of-up xs c = ap (option_and_then (λ (entry : ℕ × Option ℕ). entry.1)) (find-tree_of xs c) ∙ at (entry_of xs c)
  where
    at : (o : Option Entry) → option_and_then (λ (entry : ℕ × Option ℕ). entry.1) (option_map pair_of o) ≡ up o
    at None = refl
    at (Some e) = refl

pub insert-placed : (x : Entry) (xs : List Entry) → insert xs (place_of x.key xs) x ≡ placed x xs
insert-placed x [] = refl
insert-placed x (y ∷ ys) = at (insert-placed x ys) (nat_lt y.key x.key)
  where
    at : insert ys (place_of x.key ys) x ≡ placed x ys → (b : Bool) → insert (y ∷ ys) (cond b (suc (place_of x.key ys)) 0) x ≡ cond b (y ∷ placed x ys) (x ∷ y ∷ ys)
    at later true = ap (λ zs. y ∷ zs) later
    at later false = refl

pub tree_of-placed : (x : Entry) (parent : ℕ) (xs : List Entry) → x.parent ≡ Some parent → tree_of (placed x xs) ≡ with_child parent x.key (tree_of xs)
tree_of-placed x parent [] is = rw is refl
tree_of-placed x parent (y ∷ ys) is = at (tree_of-placed x parent ys is) (nat_lt y.key x.key)
  where
    at : tree_of (placed x ys) ≡ with_child parent x.key (tree_of ys) → (b : Bool) → tree_of (cond b (y ∷ placed x ys) (x ∷ y ∷ ys)) ≡ cond b (pair_of y ∷ with_child parent x.key (tree_of ys)) ((x.key, Some parent) ∷ pair_of y ∷ tree_of ys)
    at later true = ap (λ zs. pair_of y ∷ zs) later
    at later false = ap (λ (o : Option ℕ). (x.key, o) ∷ pair_of y ∷ tree_of ys) is

-- with a new key the other keys have what they had
pub entry_of-placed : (x : Entry) (xs : List Entry) (q : ℕ) → entry_of xs x.key ≡ None → entry_of (placed x xs) q ≡ cond (x.key == q) (Some x) (entry_of xs q)
entry_of-placed x [] q new = refl
entry_of-placed x (y ∷ ys) q new = at (entry_of-placed x ys q (later_new (y.key == x.key) new)) (nat_lt y.key x.key) refl
  where
    later_new : (b : Bool) → cond b (Some y) (entry_of ys x.key) ≡ None → entry_of ys x.key ≡ None
    later_new true h = cc
    later_new false h = h

    swapped : (b c : Bool) (r : Option Entry) → (b ≡ true → c ≡ true → ⊥) → cond b (Some y) (cond c (Some x) r) ≡ cond c (Some x) (cond b (Some y) r)
    swapped true true r never = absurd (never refl refl)
    swapped true false r never = refl
    swapped false c r never = refl

    at : entry_of (placed x ys) q ≡ cond (x.key == q) (Some x) (entry_of ys q) → (b : Bool) → nat_lt y.key x.key ≡ b → entry_of (cond b (y ∷ placed x ys) (x ∷ y ∷ ys)) q ≡ cond (x.key == q) (Some x) (cond (y.key == q) (Some y) (entry_of ys q))
    at later true is =
        ap (cond (y.key == q) (Some y)) later
        ∙ swapped (y.key == q) (x.key == q) (entry_of ys q) (λ one other. absurd (omega (arith, ltb-true _ _ is, eqb-true _ _ one, eqb-true _ _ other)))
    at later false is = refl

above_placed : (low : ℕ) (x : Entry) (xs : List Entry) → low < x.key → AllByRecursion (λ (later : Entry). low < later.key) xs → AllByRecursion (λ (later : Entry). low < later.key) (placed x xs)
above_placed low x [] less all = (less, tt)
above_placed low x (y ∷ ys) less all = at (above_placed low x ys less all.1) (nat_lt y.key x.key)
  where
    at : AllByRecursion (λ (later : Entry). low < later.key) (placed x ys) → (b : Bool) → AllByRecursion (λ (later : Entry). low < later.key) (cond b (y ∷ placed x ys) (x ∷ y ∷ ys))
    at later true = (all.0, later)
    at later false = (less, all)

above_more : (a b : ℕ) (xs : List Entry) → a < b → AllByRecursion (λ (later : Entry). b < later.key) xs → AllByRecursion (λ (later : Entry). a < later.key) xs
above_more a b [] less all = tt
above_more a b (x ∷ xs) less all = (omega (arith, all.0), above_more a b xs less all.1)

pub IsRising-placed : (x : Entry) (xs : List Entry) → entry_of xs x.key ≡ None → IsRising xs → IsRising (placed x xs)
IsRising-placed x [] new rising = (tt, tt)
IsRising-placed x (y ∷ ys) new rising = at (IsRising-placed x ys (later_new (y.key == x.key) new) rising.1) (nat_lt y.key x.key) refl
  where
    later_new : (b : Bool) → cond b (Some y) (entry_of ys x.key) ≡ None → entry_of ys x.key ≡ None
    later_new true h = cc
    later_new false h = h

    differs : y.key ≢ x.key
    differs same = let clash : Some y ≡ None = rw (eq-eqb y.key x.key same) at new in cc

    at : IsRising (placed x ys) → (b : Bool) → nat_lt y.key x.key ≡ b → IsRising (cond b (y ∷ placed x ys) (x ∷ y ∷ ys))
    at later true is = (above_placed y.key x ys (ltb-true _ _ is) rising.0, later)
    at later false is =
        let less : x.key < y.key = omega (arith, ltb-false _ _ is, differs) in
        ((less, above_more x.key y.key ys less rising.0), rising)

pub tree_of-dropped : (key : ℕ) (xs : List Entry) → tree_of (dropped key xs) ≡ without key (tree_of xs)
tree_of-dropped key [] = refl
tree_of-dropped key (x ∷ xs) = at (tree_of-dropped key xs) (x.key == key)
  where
    at : tree_of (dropped key xs) ≡ without key (tree_of xs) → (b : Bool) → tree_of (cond (not b) (x ∷ dropped key xs) (dropped key xs)) ≡ cond (not b) (pair_of x ∷ without key (tree_of xs)) (without key (tree_of xs))
    at later true = later
    at later false = ap (λ zs. pair_of x ∷ zs) later

pub entry_of-dropped : (key : ℕ) (xs : List Entry) (q : ℕ) → entry_of (dropped key xs) q ≡ cond (key == q) None (entry_of xs q)
entry_of-dropped key [] q = at (key == q)
  where
    at : (b : Bool) → ◌≡◌ {A = Option Entry} None (cond b None None)
    at true = refl
    at false = refl
entry_of-dropped key (x ∷ xs) q = at (entry_of-dropped key xs q) (cases_eq x.key key)
  where
    at : entry_of (dropped key xs) q ≡ cond (key == q) None (entry_of xs q) → (x.key ≡ key) ⊎ (x.key ≢ key) → entry_of (cond (not (x.key == key)) (x ∷ dropped key xs) (dropped key xs)) q ≡ cond (key == q) None (cond (x.key == q) (Some x) (entry_of xs q))
    at later (inl same) = rw (eq-eqb x.key key same) (later ∙ skip (key == q) (x.key == q) (ap (λ k. k == q) same))
      where
        skip : (b c : Bool) → c ≡ b → cond b None (entry_of xs q) ≡ cond b None (cond c (Some x) (entry_of xs q))
        skip true c h = refl
        skip false false h = refl
        skip false true h = cc
    at later (inr differs) = rw (ne_eqb x.key key differs) (ap (cond (x.key == q) (Some x)) later ∙ swapped (x.key == q) (key == q) (λ one other. differs (eqb-true _ _ one ∙ sym (eqb-true _ _ other))))
      where
        swapped : (b c : Bool) → (b ≡ true → c ≡ true → ⊥) → cond b (Some x) (cond c None (entry_of xs q)) ≡ cond c None (cond b (Some x) (entry_of xs q))
        swapped true true never = absurd (never refl refl)
        swapped true false never = refl
        swapped false c never = refl

above_dropped : (low key : ℕ) (xs : List Entry) → AllByRecursion (λ (later : Entry). low < later.key) xs → AllByRecursion (λ (later : Entry). low < later.key) (dropped key xs)
above_dropped low key [] all = tt
above_dropped low key (x ∷ xs) all = at (above_dropped low key xs all.1) (x.key == key)
  where
    at : AllByRecursion (λ (later : Entry). low < later.key) (dropped key xs) → (b : Bool) → AllByRecursion (λ (later : Entry). low < later.key) (cond (not b) (x ∷ dropped key xs) (dropped key xs))
    at later true = later
    at later false = (all.0, later)

pub IsRising-dropped : (key : ℕ) (xs : List Entry) → IsRising xs → IsRising (dropped key xs)
IsRising-dropped key [] rising = tt
IsRising-dropped key (x ∷ xs) rising = at (IsRising-dropped key xs rising.1) (x.key == key)
  where
    at : IsRising (dropped key xs) → (b : Bool) → IsRising (cond (not b) (x ∷ dropped key xs) (dropped key xs))
    at later true = later
    at later false = (above_dropped x.key key xs rising.0, later)

dropped_none : (key : ℕ) (xs : List Entry) → AllByRecursion (λ (later : Entry). key < later.key) xs → dropped key xs ≡ xs
dropped_none key [] all = refl
dropped_none key (x ∷ xs) all = rw (ne_eqb x.key key (omega (arith, all.0))) (ap (λ zs. x ∷ zs) (dropped_none key xs all.1))

-- a key that is there stands at its place
pub remove-dropped : (key : ℕ) (e : Entry) (xs : List Entry) → IsRising xs → entry_of xs key ≡ Some e → (place_of key xs < length xs) × (remove xs (place_of key xs) ≡ dropped key xs)
remove-dropped key e [] rising is = cc
remove-dropped key e (x ∷ xs) rising is = at (remove-dropped key e xs rising.1) (nat_lt x.key key) refl (cases_eq x.key key)
  where
    at : (entry_of xs key ≡ Some e → (place_of key xs < length xs) × (remove xs (place_of key xs) ≡ dropped key xs)) → (b : Bool) → nat_lt x.key key ≡ b → (x.key ≡ key) ⊎ (x.key ≢ key) → (cond b (suc (place_of key xs)) 0 < suc (length xs)) × (remove (x ∷ xs) (cond b (suc (place_of key xs)) 0) ≡ cond (not (x.key == key)) (x ∷ dropped key xs) (dropped key xs))
    at later true less (inl same) = absurd (omega (arith, ltb-true _ _ less))
    at later true less (inr differs) =
        let rest = later (rw (ne_eqb x.key key differs) at is) in
        rw (ne_eqb x.key key differs) (omega (arith, rest.0), ap (λ zs. x ∷ zs) rest.1)
    at later false less (inl same) = rw (eq-eqb x.key key same) (omega arith, sym (dropped_none key xs (subst (λ k. AllByRecursion (λ (later : Entry). k < later.key) xs) same rising.0)))
    at later false less (inr differs) =
        let more : key < x.key = omega (arith, ltb-false _ _ less) in
        let clash : None ≡ Some e = sym (below_all key xs (above_more key x.key xs more rising.0)) ∙ (rw (ne_eqb x.key key differs) at is) in
        cc

pub tree_of-reparented : (old : ℕ) (new : Option ℕ) (xs : List Entry) → tree_of (map (reparented old new) xs) ≡ map (moved_up old new) (tree_of xs)
tree_of-reparented old new [] = refl
tree_of-reparented old new (x ∷ xs) = at (tree_of-reparented old new xs) (is_child_of old x.parent)
  where
    at : tree_of (map (reparented old new) xs) ≡ map (moved_up old new) (tree_of xs) → (b : Bool) → pair_of (cond b (record x { parent = new }) x) ∷ tree_of (map (reparented old new) xs) ≡ cond b (x.key, new) (pair_of x) ∷ map (moved_up old new) (tree_of xs)
    at later true = ap (λ zs. (x.key, new) ∷ zs) later
    at later false = ap (λ zs. pair_of x ∷ zs) later

pub key-reparented : (old : ℕ) (new : Option ℕ) (x : Entry) → (reparented old new x).key ≡ x.key
key-reparented old new x = at (is_child_of old x.parent)
  where
    at : (b : Bool) → (cond b (record x { parent = new }) x).key ≡ x.key
    at true = refl
    at false = refl

pub entry_of-reparented : (old : ℕ) (new : Option ℕ) (xs : List Entry) (q : ℕ) → entry_of (map (reparented old new) xs) q ≡ option_map (reparented old new) (entry_of xs q)
entry_of-reparented old new [] q = refl
entry_of-reparented old new (x ∷ xs) q = rw (key-reparented old new x) (at (entry_of-reparented old new xs q) (x.key == q))
  where
    at : entry_of (map (reparented old new) xs) q ≡ option_map (reparented old new) (entry_of xs q) → (b : Bool) → cond b (Some (reparented old new x)) (entry_of (map (reparented old new) xs) q) ≡ option_map (reparented old new) (cond b (Some x) (entry_of xs q))
    at later true = refl
    at later false = later

above_reparented : (low old : ℕ) (new : Option ℕ) (xs : List Entry) → AllByRecursion (λ (later : Entry). low < later.key) xs → AllByRecursion (λ (later : Entry). low < later.key) (map (reparented old new) xs)
above_reparented low old new [] all = tt
above_reparented low old new (x ∷ xs) all = (rw (key-reparented old new x) all.0, above_reparented low old new xs all.1)

pub IsRising-reparented : (old : ℕ) (new : Option ℕ) (xs : List Entry) → IsRising xs → IsRising (map (reparented old new) xs)
IsRising-reparented old new [] rising = tt
IsRising-reparented old new (x ∷ xs) rising = (rw (key-reparented old new x) (above_reparented x.key old new xs rising.0), IsRising-reparented old new xs rising.1)

pub depth-reparented : (old : ℕ) (new : Option ℕ) (x : Entry) → (reparented old new x).depth ≡ x.depth
depth-reparented old new x = at (is_child_of old x.parent)
  where
    at : (b : Bool) → (cond b (record x { parent = new }) x).depth ≡ x.depth
    at true = refl
    at false = refl

pub slot-reparented : (old : ℕ) (new : Option ℕ) (x : Entry) → (reparented old new x).slot ≡ x.slot
slot-reparented old new x = at (is_child_of old x.parent)
  where
    at : (b : Bool) → (cond b (record x { parent = new }) x).slot ≡ x.slot
    at true = refl
    at false = refl

pub reparented_child : (old : ℕ) (new : Option ℕ) (x : Entry) → is_child_of old x.parent ≡ true → (reparented old new x).parent ≡ new
reparented_child old new x is = ap (λ b. (cond {A = Entry} b (record x { parent = new }) x).parent) is

pub reparented_other : (old : ℕ) (new : Option ℕ) (x : Entry) → is_child_of old x.parent ≡ false → reparented old new x ≡ x
reparented_other old new x is = ap (λ b. cond {A = Entry} b (record x { parent = new }) x) is

pub child_true : (key : ℕ) (o : Option ℕ) → is_child_of key o ≡ true → o ≡ Some key
child_true key None is = cc
child_true key (Some p) is = ap Some (eqb-true p key is)

pub true_child : (key : ℕ) (o : Option ℕ) → o ≡ Some key → is_child_of key o ≡ true
true_child key o is = ap (is_child_of key) is ∙ eq-eqb key key refl

pub child_false : (key : ℕ) (o : Option ℕ) → is_child_of key o ≡ false → o ≢ Some key
child_false key o is same = let clash : false ≡ true = sym is ∙ true_child key o same in cc

pub false_child : (key : ℕ) (o : Option ℕ) → o ≢ Some key → is_child_of key o ≡ false
false_child key None differs = refl
false_child key (Some p) differs = ne_eqb p key (λ same. differs (ap Some same))

-- what was mapped to something was there
pub map_some : {X : Type 0} (h : X → X) (o : Option X) (y : X) → option_map h o ≡ Some y → (x : X) × (o ≡ Some x) × (h x ≡ y)
map_some h None y is = cc
map_some h (Some x) y is = (x, refl, cc)
