-- How often keys are in lists.
use Rattle.std.proofs.Common.{◌≡◌, ◌∙◌, ◌+◌, ◌≤◌, ◌<◌, ◌||◌, ℕ, suc, Bool, true, false, cond, not, List, [], ◌∷◌, ◌++◌, length, filter, take, drop, map, refl, ap, sym, arith, ◌==◌, Option}
use Rattle.std.specs.List.{list_any}
use Rattle.std.proofs.lemmas.Bool.{eqb-true, eq-eqb}
use Rattle.std.proofs.lemmas.List.Sums.{sum_by-cons, sum_by-append, sum_by-take-drop}
use Rattle.tb_shape.specs.Tree.{Keys, is_key, HasKey}
use Rattle.tb_marks.specs.Event.{contains}
use Rattle.tb_walk.specs.Walk.{count_of, is_left_out}

pub count_cons : (key k : ℕ) (keys : List ℕ) → count_of key (k ∷ keys) ≡ cond (k == key) 1 0 + count_of key keys
count_cons key k keys = sum_by-cons (λ x. cond (x == key) 1 0) k keys

pub count_append : (key : ℕ) (xs ys : List ℕ) → count_of key (xs ++ ys) ≡ count_of key xs + count_of key ys
count_append key xs ys = sum_by-append (λ x. cond (x == key) 1 0) xs ys

one_le : (b : Bool) → cond b 1 0 ≤ 1
one_le true = omega arith
one_le false = omega arith

-- a key is among those that have it
pub count_has : (key : ℕ) (keys : List ℕ) → contains keys key ≡ true → 0 < count_of key keys
count_has key [] has = cc
count_has key (k ∷ keys) has = at (k == key) refl has (count_has key keys)
  where
    at : (b : Bool) → (k == key) ≡ b → (b || contains keys key) ≡ true → (contains keys key ≡ true → 0 < count_of key keys) → 0 < count_of key (k ∷ keys)
    at true same h later = let head : cond {A = ℕ} (k == key) 1 0 ≡ 1 = ap (λ b. cond {A = ℕ} b 1 0) same in omega (arith, count_cons key k keys, head)
    at false same h later = omega (arith, count_cons key k keys, later h)

pub count_lacks : (key : ℕ) (keys : List ℕ) → contains keys key ≡ false → count_of key keys ≡ 0
count_lacks key [] lacks = refl
count_lacks key (k ∷ keys) lacks = at (k == key) refl lacks (count_lacks key keys)
  where
    at : (b : Bool) → (k == key) ≡ b → (b || contains keys key) ≡ false → (contains keys key ≡ false → count_of key keys ≡ 0) → count_of key (k ∷ keys) ≡ 0
    at true same h later = cc
    at false same h later = let head : cond {A = ℕ} (k == key) 1 0 ≡ 0 = ap (λ b. cond {A = ℕ} b 1 0) same in omega (arith, count_cons key k keys, head, later h)

pub has_count : (key : ℕ) (keys : List ℕ) → 0 < count_of key keys → contains keys key ≡ true
has_count key keys some = at (contains keys key) refl
  where
    at : (b : Bool) → contains keys key ≡ b → contains keys key ≡ true
    at true is = is
    at false is = absurd (omega (arith, some, count_lacks key keys is))

-- the first keys of a list are among its keys
pub count_front : (key n : ℕ) (keys : List ℕ) → count_of key (take n keys) ≤ count_of key keys
count_front key n keys = omega (arith, sum_by-take-drop (λ x. cond (x == key) 1 0) keys n)

pub count_back : (key n : ℕ) (keys : List ℕ) → count_of key (drop n keys) ≤ count_of key keys
count_back key n keys = omega (arith, sum_by-take-drop (λ x. cond (x == key) 1 0) keys n)

-- keys of which one is left out
pub count_left_out : (left_out : Option ℕ) (key : ℕ) (keys : List ℕ) → count_of key (filter (λ k. not (is_left_out left_out k)) keys) ≡ cond (is_left_out left_out key) 0 (count_of key keys)
count_left_out left_out key [] = at (is_left_out left_out key)
  where
    at : (b : Bool) → ◌≡◌ {A = ℕ} 0 (cond b 0 0)
    at true = refl
    at false = refl
count_left_out left_out key (k ∷ keys) = at (k == key) refl (is_left_out left_out k) refl (is_left_out left_out key) refl (count_left_out left_out key keys)
  where
    at : (s : Bool) → (k == key) ≡ s → (b : Bool) → is_left_out left_out k ≡ b → (c : Bool) → is_left_out left_out key ≡ c → count_of key (filter (λ x. not (is_left_out left_out x)) keys) ≡ cond (is_left_out left_out key) 0 (count_of key keys) → count_of key (cond (not b) (k ∷ filter (λ x. not (is_left_out left_out x)) keys) (filter (λ x. not (is_left_out left_out x)) keys)) ≡ cond c 0 (count_of key (k ∷ keys))
    at s is true out true own later = later ∙ ap (λ b. cond b 0 (count_of key keys)) own
    at true is true out false own later = absurd (let clash : true ≡ false = sym out ∙ ap (is_left_out left_out) (eqb-true k key is) ∙ own in cc)
    at false is true out false own later = omega (arith, later ∙ ap (λ b. cond b 0 (count_of key keys)) own, count_cons key k keys, ap (λ b. cond {A = ℕ} b 1 0) is)
    at true is false out true own later = absurd (let clash : true ≡ false = sym own ∙ sym (ap (is_left_out left_out) (eqb-true k key is)) ∙ out in cc)
    at false is false out true own later = omega (arith, later ∙ ap (λ b. cond b 0 (count_of key keys)) own, count_cons key k (filter (λ x. not (is_left_out left_out x)) keys), ap (λ b. cond {A = ℕ} b 1 0) is)
    at s is false out false own later = omega (arith, later ∙ ap (λ b. cond b 0 (count_of key keys)) own, count_cons key k (filter (λ x. not (is_left_out left_out x)) keys), count_cons key k keys)

-- a list without one of its keys
abbrev drop_one : ℕ → List ℕ → List ℕ
drop_one key [] = []
drop_one key (k ∷ keys) = cond (k == key) keys (k ∷ drop_one key keys)

drop_one_length : (key : ℕ) (keys : List ℕ) → contains keys key ≡ true → length keys ≡ suc (length (drop_one key keys))
drop_one_length key [] has = cc
drop_one_length key (k ∷ keys) has = at (k == key) has (drop_one_length key keys)
  where
    at : (b : Bool) → (b || contains keys key) ≡ true → (contains keys key ≡ true → length keys ≡ suc (length (drop_one key keys))) → suc (length keys) ≡ suc (length (cond b keys (k ∷ drop_one key keys)))
    at true h later = refl
    at false h later = ap suc (later h)

drop_one_count : (key other : ℕ) (keys : List ℕ) → contains keys key ≡ true → count_of other keys ≡ cond (key == other) 1 0 + count_of other (drop_one key keys)
drop_one_count key other [] has = cc
drop_one_count key other (k ∷ keys) has = at (k == key) refl has (drop_one_count key other keys)
  where
    at : (b : Bool) → (k == key) ≡ b → (b || contains keys key) ≡ true → (contains keys key ≡ true → count_of other keys ≡ cond (key == other) 1 0 + count_of other (drop_one key keys)) → count_of other (k ∷ keys) ≡ cond (key == other) 1 0 + count_of other (cond b keys (k ∷ drop_one key keys))
    at true same h later = count_cons other k keys ∙ ap (λ x. cond (x == other) 1 0 + count_of other keys) (eqb-true k key same)
    at false same h later = omega (arith, count_cons other k keys, later h, count_cons other k (drop_one key keys))

-- a list whose keys are each at least as often in another is not longer
pub length_from_counts : (xs ys : List ℕ) → ((key : ℕ) → count_of key xs ≤ count_of key ys) → length xs ≤ length ys
length_from_counts [] ys counts = omega arith
length_from_counts (x ∷ xs) ys counts =
    omega (arith, drop_one_length x ys has, length_from_counts xs (drop_one x ys) (λ key. omega (arith, counts key, count_cons key x xs, drop_one_count x key ys has)))
  where
    has : contains ys x ≡ true
    has = has_count x ys (omega (arith, counts x, count_has x (x ∷ xs) (ap (λ b. b || contains xs x) (eq-eqb x x refl))))

-- a key of the tree that passes a test is among the keys that do
pub count_kept : (f : ℕ → Bool) (tree : Keys) (key : ℕ) → HasKey tree key → f key ≡ true → 0 < count_of key (filter f (map (λ (e : ℕ × Option ℕ). e.0) tree))
count_kept f [] key has passes = cc
count_kept f (e ∷ tree) key has passes = at (e.0 == key) refl (f e.0) refl has (λ h. count_kept f tree key h passes)
  where
    Rest : List ℕ
    Rest = filter f (map (λ (x : ℕ × Option ℕ). x.0) tree)

    at : (b : Bool) → (e.0 == key) ≡ b → (c : Bool) → f e.0 ≡ c → (b || list_any (is_key key) tree) ≡ true → (HasKey tree key → 0 < count_of key Rest) → 0 < count_of key (cond c (e.0 ∷ Rest) Rest)
    at true same true is h later = let head : cond {A = ℕ} (e.0 == key) 1 0 ≡ 1 = ap (λ b. cond {A = ℕ} b 1 0) same in omega (arith, count_cons key e.0 Rest, head)
    at true same false is h later = absurd (let clash : true ≡ false = sym passes ∙ ap f (sym (eqb-true e.0 key same)) ∙ is in cc)
    at false same true is h later = omega (arith, count_cons key e.0 Rest, later h)
    at false same false is h later = later h
