-- The way of an event, and the children from which its walk begins.
use Rattle.std.proofs.Common.{◌≡◌, ◌∙◌, ◌+◌, ◌-◌, ◌≤◌, ◌<◌, ◌||◌, ℕ, zero, suc, Bool, true, false, cond, not, List, [], ◌∷◌, ◌++◌, length, filter, take, drop, refl, ap, sym, subst, arith, ◌==◌, Option, Some, None, slice_index_or}
use Rattle.std.proofs.lemmas.Bool.{eqb-true, eq-eqb}
use Rattle.std.proofs.lemmas.Option.{same_Some}
use Rattle.std.proofs.lemmas.List.{take_more, get_or-drop, length-drop, append-nil}
use Rattle.tb_shape.specs.Tree.{Keys, parent_of, is_child_of, AreChildren, IsPath, IsAncestor}
use Rattle.tb_marks.specs.Event.{contains}
use Rattle.tb_marks.proofs.Ways.{one_path, path_from_key, above_on_way}
use Rattle.tb_walk.specs.Walk.{count_of, is_left_out, seeded, opened, AreOpened}
use Rattle.tb_walk.specs.Steps.{before, Adds}
use Rattle.tb_walk.proofs.Counts.{count_cons, count_append, count_lacks, count_left_out}

-- no key of a way comes again
not_again : (tree : Keys) (t next : ℕ) (rest : List ℕ) → IsPath tree t (t ∷ next ∷ rest) → contains (next ∷ rest) t ≡ true → ⊥
not_again tree t next rest is has =
    let from = path_from_key tree next t (next ∷ rest) is.2 has in
    let same : length from.0 ≡ length (t ∷ next ∷ rest) = ap length (one_path tree t from.0 (t ∷ next ∷ rest) from.1 is) in
    absurd (omega (arith, same, from.3))

pub head_once : (tree : Keys) (t k next : ℕ) (rest : List ℕ) → IsPath tree t (k ∷ next ∷ rest) → contains (next ∷ rest) k ≡ false
head_once tree t k next rest is = at (contains (next ∷ rest) k) refl
  where
    at : (b : Bool) → contains (next ∷ rest) k ≡ b → contains (next ∷ rest) k ≡ false
    at false is_not = is_not
    at true has = absurd (not_again tree k next rest (refl, ap (parent_of tree) is.0 ∙ is.1, is.2) has)

pub once_on_way : (tree : Keys) (t key : ℕ) (path : List ℕ) → IsPath tree t path → count_of key path ≤ 1
once_on_way tree t key [] is = omega arith
once_on_way tree t key (k ∷ []) is = at (k == key)
  where
    at : (b : Bool) → count_of key (k ∷ []) ≤ 1
    at b = let head = count_cons key k [] in least (k == key) head
      where
        least : (c : Bool) → count_of key (k ∷ []) ≡ cond c 1 0 + 0 → count_of key (k ∷ []) ≤ 1
        least true h = omega (arith, h)
        least false h = omega (arith, h)
once_on_way tree t key (k ∷ next ∷ rest) is = at (k == key) refl (once_on_way tree next key (next ∷ rest) is.2)
  where
    at : (b : Bool) → (k == key) ≡ b → count_of key (next ∷ rest) ≤ 1 → count_of key (k ∷ next ∷ rest) ≤ 1
    at true same later =
        let none : contains (next ∷ rest) key ≡ false = subst (λ n. contains (next ∷ rest) n ≡ false) (eqb-true k key same) (head_once tree t k next rest is) in
        let head : cond {A = ℕ} (k == key) 1 0 ≡ 1 = ap (λ b. cond {A = ℕ} b 1 0) same in
        omega (arith, count_cons key k (next ∷ rest), head, count_lacks key (next ∷ rest) none)
    at false other later =
        let head : cond {A = ℕ} (k == key) 1 0 ≡ 0 = ap (λ b. cond {A = ℕ} b 1 0) other in
        omega (arith, count_cons key k (next ∷ rest), head, later)

-- a key of a list
pub index_has : (keys : List ℕ) (at : ℕ) → at < length keys → contains keys (slice_index_or keys at 0) ≡ true
index_has [] at within = absurd (omega arith)
index_has (k ∷ keys) zero within = ap (λ b. b || contains keys k) (eq-eqb k k refl)
index_has (k ∷ keys) (suc at) within = at_head (k == slice_index_or keys at 0) (index_has keys at (omega arith))
  where
    at_head : (b : Bool) → contains keys (slice_index_or keys at 0) ≡ true → (b || contains keys (slice_index_or keys at 0)) ≡ true
    at_head true later = refl
    at_head false later = later

-- the child of a key of the way that is itself on the way stands before it
pub child_on_way : (tree : Keys) (t key : ℕ) (path : List ℕ) (at : ℕ) → IsPath tree t path → at < length path → contains path key ≡ true → parent_of tree key ≡ Some (slice_index_or path at 0) → before path at ≡ Some key
child_on_way tree t key [] at is within has up = absurd is
child_on_way tree t key (k ∷ []) at is within has up = absurd (clash (k == key) refl has)
  where
    clash : (b : Bool) → (k == key) ≡ b → (b || false) ≡ true → ⊥
    clash true same h =
        let top : parent_of tree key ≡ None = ap (parent_of tree) (sym (eqb-true k key same) ∙ is.0) ∙ is.2 in
        let both : Some (slice_index_or (k ∷ []) at 0) ≡ None = sym up ∙ top in
        absurd (cc)
    clash false same h = absurd (cc)
child_on_way tree t key (k ∷ next ∷ rest) at is within has up = here (λ n less h above. child_on_way tree next key (next ∷ rest) n is.2 less h above) at within up (k == key) refl has
  where
    none : contains (next ∷ rest) k ≡ false
    none = head_once tree t k next rest is

    here : ((n : ℕ) → n < length (next ∷ rest) → contains (next ∷ rest) key ≡ true → parent_of tree key ≡ Some (slice_index_or (next ∷ rest) n 0) → before (next ∷ rest) n ≡ Some key) → (at : ℕ) → at < length (k ∷ next ∷ rest) → parent_of tree key ≡ Some (slice_index_or (k ∷ next ∷ rest) at 0) → (b : Bool) → (k == key) ≡ b → (b || contains (next ∷ rest) key) ≡ true → before (k ∷ next ∷ rest) at ≡ Some key
    here deeper zero within up true same h =
        let one : next ≡ k = same_Some next k (sym is.1 ∙ ap (parent_of tree) (sym is.0 ∙ eqb-true k key same) ∙ up) in
        let clash : true ≡ false = sym (ap (λ b. b || contains rest k) (eq-eqb next k one)) ∙ none in
        absurd (cc)
    here deeper zero within up false same h =
        let from = path_from_key tree next key (next ∷ rest) is.2 h in
        let above : IsAncestor tree k key = (from.0, from.1, second from.0 from.1 up) in
        let clash : true ≡ false = sym (above_on_way tree next k key (next ∷ rest) is.2 h above) ∙ none in
        absurd (cc)
      where
        at_tail : (b c : Bool) → c ≡ true → (b || c) ≡ true
        at_tail true c h = refl
        at_tail false c h = h

        second : (q : List ℕ) → IsPath tree key q → parent_of tree key ≡ Some k → contains q k ≡ true
        second [] way up = absurd way
        second (x ∷ []) way up = let clash : Some k ≡ None = sym up ∙ way.2 in absurd (cc)
        second (x ∷ y ∷ q) way up =
            let one : y ≡ k = same_Some y k (sym way.1 ∙ up) in
            at_tail (x == k) (contains (y ∷ q) k) (ap (λ b. b || contains q k) (eq-eqb y k one))
    here deeper (suc at) within up true same h =
        let one : slice_index_or (next ∷ rest) at 0 ≡ next = same_Some _ _ (sym up ∙ ap (parent_of tree) (sym (eqb-true k key same) ∙ is.0) ∙ is.1) in
        first at rest is.2 (omega arith) one
      where
        first : (at : ℕ) (rest : List ℕ) → IsPath tree next (next ∷ rest) → at < length (next ∷ rest) → slice_index_or (next ∷ rest) at 0 ≡ next → before (k ∷ next ∷ rest) (suc at) ≡ Some key
        first zero rest way within one = ap Some (eqb-true k key same)
        first (suc at) [] way within one = absurd (omega arith)
        first (suc at) (r ∷ rest) way within one =
            let again : contains (r ∷ rest) next ≡ true = subst (λ n. contains (r ∷ rest) n ≡ true) one (index_has (r ∷ rest) at (omega arith)) in
            let clash : true ≡ false = sym again ∙ head_once tree next next r rest way in
            absurd (cc)
    here deeper (suc at) within up false same h = later at (deeper at (omega arith) h up)
      where
        later : (at : ℕ) → before (next ∷ rest) at ≡ Some key → before (k ∷ next ∷ rest) (suc at) ≡ Some key
        later zero found = absurd (cc)
        later (suc at) found = found

-- the key before a place of a way is on it
before_has : (keys : List ℕ) (at key : ℕ) → at < length keys → before keys at ≡ Some key → contains keys key ≡ true
before_has keys zero key within found = absurd (cc)
before_has keys (suc at) key within found = subst (λ k. contains keys k ≡ true) (same_Some _ _ found) (index_has keys at (omega arith))

left_out_is : (o : Option ℕ) (key : ℕ) → is_left_out o key ≡ true → o ≡ Some key
left_out_is None key is = absurd (cc)
left_out_is (Some k) key is = ap Some (sym (eqb-true key k is))

is_left_out-self : (o : Option ℕ) (key : ℕ) → o ≡ Some key → is_left_out o key ≡ true
is_left_out-self o key is = ap (λ x. is_left_out x key) is ∙ eq-eqb key key refl

-- the seeds so far, and the children of one more key of the way
abbrev pub AreSeeds : Keys → List ℕ → List ℕ → List ℕ → Type 0
AreSeeds tree path front keys = (key : ℕ) → count_of key keys ≡ seeded path front key (parent_of tree key)

pub seeds_none : (tree : Keys) (path keys : List ℕ) → keys ≡ [] → AreSeeds tree path [] keys
seeds_none tree path keys empty = λ key. ap (count_of key) empty ∙ at (parent_of tree key) key
  where
    at : (o : Option ℕ) (key : ℕ) → ◌≡◌ {A = ℕ} 0 (seeded path [] key o)
    at None key = refl
    at (Some p) key = both (contains path key)
      where
        both : (b : Bool) → ◌≡◌ {A = ℕ} 0 (cond b 0 0)
        both true = refl
        both false = refl

pub seeds_more : (tree : Keys) (t : ℕ) (path front keys children : List ℕ) (at : ℕ) → IsPath tree t path → at < length path → AreChildren tree (slice_index_or path at 0) children → AreSeeds tree path front keys → AreSeeds tree path (front ++ slice_index_or path at 0 ∷ []) (keys ++ filter (λ child. not (is_left_out (before path at) child)) children)
seeds_more tree t path front keys children at is within are so_far = λ key.
    count_append key keys (filter (λ child. not (is_left_out (before path at) child)) children)
    ∙ ap (λ n. n + count_of key (filter (λ child. not (is_left_out (before path at) child)) children)) (so_far key)
    ∙ ap (λ n. seeded path front key (parent_of tree key) + n) (count_left_out (before path at) key children ∙ ap (λ n. cond (is_left_out (before path at) key) 0 n) (are key))
    ∙ step key (parent_of tree key) refl (is_left_out (before path at) key) refl (contains path key) refl
  where
    Here : ℕ
    Here = slice_index_or path at 0

    step : (key : ℕ) (o : Option ℕ) → parent_of tree key ≡ o → (l : Bool) → is_left_out (before path at) key ≡ l → (on : Bool) → contains path key ≡ on → seeded path front key o + cond l 0 (cond (is_child_of Here o) 1 0) ≡ seeded path (front ++ Here ∷ []) key o
    step key None up true out on is_on = refl
    step key None up false out on is_on = refl
    step key (Some p) up true out true is_on = rw is_on refl
    step key (Some p) up true out false is_on =
        let clash : true ≡ false = sym (before_has path at key within (left_out_is (before path at) key out)) ∙ is_on in
        absurd (cc)
    step key (Some p) up false out true is_on = on_way (p == Here) refl
      where
        on_way : (b : Bool) → (p == Here) ≡ b → cond (contains path key) 0 (count_of p front) + cond b 1 0 ≡ cond (contains path key) 0 (count_of p (front ++ Here ∷ []))
        on_way true same =
            let found = child_on_way tree t key path at is within is_on (up ∙ ap Some (eqb-true p Here same)) in
            let clash : true ≡ false = sym (is_left_out-self (before path at) key found) ∙ out in
            absurd (cc)
        on_way false other = rw is_on refl
    step key (Some p) up false out false is_on = rw is_on (sum (p == Here) refl)
      where
        flip : (b c : Bool) → (p == Here) ≡ b → (Here == p) ≡ c → cond {A = ℕ} b 1 0 ≡ cond c 1 0
        flip true true same other = refl
        flip false false same other = refl
        flip true false same other = absurd (let clash : true ≡ false = sym (eq-eqb Here p (sym (eqb-true p Here same))) ∙ other in cc)
        flip false true same other = absurd (let clash : true ≡ false = sym (eq-eqb p Here (sym (eqb-true Here p other))) ∙ same in cc)

        sum : (b : Bool) → (p == Here) ≡ b → count_of p front + cond b 1 0 ≡ count_of p (front ++ Here ∷ [])
        sum b same = omega (arith, count_append p front (Here ∷ []), count_cons p Here [], flip b (Here == p) same refl)

-- one more key of a list from a place on
pub front_more : (path : List ℕ) (from at : ℕ) → from ≤ at → at < length path → take (at + 1 - from) (drop from path) ≡ take (at - from) (drop from path) ++ slice_index_or path at 0 ∷ []
front_more path from at order within =
    ap (λ n. take n (drop from path)) count ∙ take_more (drop from path) (at - from) 0 (omega (arith, length-drop from path, order, within)) ∙ ap (λ x. take (at - from) (drop from path) ++ x ∷ []) (get_or-drop from path (at - from) 0 ∙ ap (λ n. slice_index_or path n 0) place)
  where
    count : at + 1 - from ≡ (at - from) + 1
    count = omega (arith, order)

    place : from + (at - from) ≡ at
    place = omega (arith, order)

-- seeds that nothing was opened of
pub seeds_open : (tree : Keys) (path from keys : List ℕ) → AreSeeds tree path from keys → (shut : ℕ → Bool) → AreOpened tree path from shut [] keys
seeds_open tree path from keys seeds shut = λ key. seeds key ∙ at (seeded path from key (parent_of tree key)) (parent_of tree key)
  where
    at : (n : ℕ) (o : Option ℕ) → n ≡ n + opened shut [] o
    at n None = omega arith
    at n (Some p) = both (shut p)
      where
        both : (b : Bool) → n ≡ n + cond b 0 0
        both true = omega arith
        both false = omega arith

-- one more key visited, and its children added
pub opened_more : (tree : Keys) (path from done keys more : List ℕ) (shut : ℕ → Bool) (u : ℕ) → AreOpened tree path from shut done keys → ((k : ℕ) → count_of k more ≡ cond (shut u) 0 (cond (is_child_of u (parent_of tree k)) 1 0)) → AreOpened tree path from shut (done ++ u ∷ []) (keys ++ more)
opened_more tree path from done keys more shut u so_far adds = λ key. at key (parent_of tree key) (so_far key) (adds key)
  where
    at : (key : ℕ) (o : Option ℕ) → count_of key keys ≡ seeded path from key o + opened shut done o → count_of key more ≡ cond (shut u) 0 (cond (is_child_of u o) 1 0) → count_of key (keys ++ more) ≡ seeded path from key o + opened shut (done ++ u ∷ []) o
    at key None before now = none (shut u) now
      where
        none : (b : Bool) → count_of key more ≡ cond b 0 0 → count_of key (keys ++ more) ≡ 0 + 0
        none true is = omega (arith, count_append key keys more, before, is)
        none false is = omega (arith, count_append key keys more, before, is)
    at key (Some p) before now = some (shut p) refl (shut u) refl (p == u) refl (before) now
      where
        Seeds : ℕ
        Seeds = seeded path from key (Some p)

        flip : (b c : Bool) → (p == u) ≡ b → (u == p) ≡ c → cond {A = ℕ} b 1 0 ≡ cond c 1 0
        flip true true same other = refl
        flip false false same other = refl
        flip true false same other = absurd (let clash : true ≡ false = sym (eq-eqb u p (sym (eqb-true p u same))) ∙ other in cc)
        flip false true same other = absurd (let clash : true ≡ false = sym (eq-eqb p u (sym (eqb-true u p other))) ∙ same in cc)

        some : (sp : Bool) → shut p ≡ sp → (su : Bool) → shut u ≡ su → (b : Bool) → (p == u) ≡ b → count_of key keys ≡ Seeds + cond sp 0 (count_of p done) → count_of key more ≡ cond su 0 (cond b 1 0) → count_of key (keys ++ more) ≡ Seeds + cond sp 0 (count_of p (done ++ u ∷ []))
        some true is_p true is_u b same old new = omega (arith, count_append key keys more, old, new)
        some true is_p false is_u true same old new = absurd (let clash : true ≡ false = sym is_p ∙ ap shut (eqb-true p u same) ∙ is_u in cc)
        some true is_p false is_u false same old new = omega (arith, count_append key keys more, old, new)
        some false is_p true is_u true same old new = absurd (let clash : true ≡ false = sym is_u ∙ ap shut (sym (eqb-true p u same)) ∙ is_p in cc)
        some false is_p true is_u false same old new = omega (arith, count_append key keys more, old, new, count_append p done (u ∷ []), count_cons p u [], flip false (u == p) same refl)
        some false is_p false is_u b same old new = omega (arith, count_append key keys more, old, new, count_append p done (u ∷ []), count_cons p u [], flip b (u == p) same refl)

-- a tag that is not shut has its children added, each once
pub adds_children : (tree : Keys) (shut : ℕ → Bool) (u : ℕ) (old new children : List ℕ) → shut u ≡ false → AreChildren tree u children → new ≡ old ++ filter (λ child. not (is_left_out None child)) children → Adds tree shut u old new
adds_children tree shut u old new children is_open are is =
    (filter (λ child. not (is_left_out None child)) children, is, λ k. count_left_out None k children ∙ are k ∙ sym (ap (λ b. cond {A = ℕ} b 0 (cond (is_child_of u (parent_of tree k)) 1 0)) is_open))

pub adds_none : (tree : Keys) (shut : ℕ → Bool) (u : ℕ) (keys : List ℕ) → shut u ≡ true → Adds tree shut u keys keys
adds_none tree shut u keys is_shut =
    ([], sym (append-nil keys), λ k. sym (ap (λ b. cond {A = ℕ} b 0 (cond (is_child_of u (parent_of tree k)) 1 0)) is_shut))

-- the seeds with one more key of the way, as the loop has them
pub seeds_step : (tree : Keys) (path old new children : List ℕ) (from at : ℕ) → ((t : ℕ) × IsPath tree t path) → from ≤ at → at < length path → (left_out : Option ℕ) → left_out ≡ before path at → AreChildren tree (slice_index_or path at 0) children → AreSeeds tree path (take (at - from) (drop from path)) old → new ≡ old ++ filter (λ child. not (is_left_out left_out child)) children → AreSeeds tree path (take (at + 1 - from) (drop from path)) new
seeds_step tree path old new children from at way order within left_out is_before are so_far is =
    subst (λ front. AreSeeds tree path front new) (sym (front_more path from at order within))
    (subst (AreSeeds tree path (take (at - from) (drop from path) ++ slice_index_or path at 0 ∷ [])) (sym (is ∙ ap (λ o. old ++ filter (λ child. not (is_left_out o child)) children) is_before)) (seeds_more tree way.0 path (take (at - from) (drop from path)) old children at way.1 within are so_far))
