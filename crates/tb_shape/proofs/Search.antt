-- The search for a key among rising entries.
use Rattle.std.proofs.Common.{◌≡◌, ◌≢◌, ◌⊎◌, ℕ, suc, zero, ◌<◌, ◌≤◌, Bool, true, false, cond, List, [], ◌∷◌, length, refl, ap, sym, subst, arith, Some, None, inl, inr, nat_lt, ◌==◌, slice_index_or}
use Rattle.std.specs.List.{AllByRecursion, AllWithin}
use Rattle.std.specs.List.Sorted.{IsPartitionedBy}
use Rattle.std.proofs.lemmas.Bool.{eqb-true, eq-eqb, ltb-true, ltb-false, lt-ltb, cases_Bool, false_from_ne_true, ne_eqb}
use Rattle.std.proofs.lemmas.List.Elements.{All-from_recursion}
use Rattle.tb_shape.specs.declared.entries.Entry.{Entry}
use Rattle.tb_shape.specs.Entries.{IsRising, place_of, entry_of}

-- a key below all entries is not among them
pub below_all : (key : ℕ) (xs : List Entry) → AllByRecursion (λ (later : Entry). key < later.key) xs → entry_of xs key ≡ None
below_all key [] all = refl
below_all key (x ∷ xs) all = rw (ne_eqb x.key key (omega (arith, all.0))) (below_all key xs all.1)

weaker : (a b : ℕ) (xs : List Entry) → a ≤ b → AllByRecursion (λ (later : Entry). b < later.key) xs → AllByRecursion (λ (later : Entry). a < later.key) xs
weaker a b [] less all = tt
weaker a b (x ∷ xs) less all = (omega (arith, all.0), weaker a b xs less all.1)

-- an earlier entry has a lesser key
pub rising_at : (xs : List Entry) (i j : ℕ) (d : Entry) → IsRising xs → i < j → j < length xs → (slice_index_or xs i d).key < (slice_index_or xs j d).key
rising_at [] i j d rising before within = absurd (omega arith)
rising_at (x ∷ xs) zero zero d rising before within = absurd (omega arith)
rising_at (x ∷ xs) (suc i) zero d rising before within = absurd (omega arith)
rising_at (x ∷ xs) zero (suc j) d rising before within = All-from_recursion (λ (later : Entry). x.key < later.key) xs rising.0 j d (omega arith)
rising_at (x ∷ xs) (suc i) (suc j) d rising before within = rising_at xs i j d rising.1 (omega arith) (omega arith)

pub parted : (key : ℕ) (xs : List Entry) → IsRising xs → IsPartitionedBy (λ (e : Entry). nat_lt e.key key) xs
parted key xs rising i j d before within is_below = elim (cases_eq_lt i j before) as (λ w. nat_lt (slice_index_or xs i d).key key ≡ true) [
  | inl same ↦ rw same is_below
  | inr less ↦ lt-ltb _ _ (omega (arith, rising_at xs i j d rising less within, ltb-true _ _ is_below))
]
  where
    cases_eq_lt : (i j : ℕ) → i ≤ j → (i ≡ j) ⊎ (i < j)
    cases_eq_lt i j h =
        elim (cases_Bool (nat_lt i j)) [
          | inl is ↦ inr (ltb-true i j is)
          | inr is ↦ inl (omega (arith, ltb-false i j is))
        ]

-- the place that parts the entries is the place of the key
pub parted_at : (key i : ℕ) (xs : List Entry) → i ≤ length xs → AllWithin (λ (e : Entry). nat_lt e.key key ≡ true) xs 0 i → AllWithin (λ (e : Entry). nat_lt e.key key ≡ false) xs i (length xs) → i ≡ place_of key xs
parted_at key i [] bound front back = omega arith
parted_at key zero (x ∷ xs) bound front back = rw (back 0 x (omega arith) (omega arith)) refl
parted_at key (suc i) (x ∷ xs) bound front back =
    rw (front 0 x (omega arith) (omega arith)) (ap suc (parted_at key i xs (omega arith) (λ k d from to. front (suc k) d (omega arith) (omega arith)) (λ k d from to. back (suc k) d (omega arith) (omega arith))))

-- the entry at the place, if it has the key, is the one that is looked up
pub found : (key : ℕ) (xs : List Entry) (d : Entry) → place_of key xs < length xs → (slice_index_or xs (place_of key xs) d).key ≡ key → entry_of xs key ≡ Some (slice_index_or xs (place_of key xs) d)
found key [] d within same = absurd (omega arith)
found key (x ∷ xs) d within same = at (found key xs d) (nat_lt x.key key) refl within same
  where
    at : (place_of key xs < length xs → (slice_index_or xs (place_of key xs) d).key ≡ key → entry_of xs key ≡ Some (slice_index_or xs (place_of key xs) d)) → (b : Bool) → nat_lt x.key key ≡ b → cond b (suc (place_of key xs)) 0 < suc (length xs) → (slice_index_or (x ∷ xs) (cond b (suc (place_of key xs)) 0) d).key ≡ key → cond (x.key == key) (Some x) (entry_of xs key) ≡ Some (slice_index_or (x ∷ xs) (cond b (suc (place_of key xs)) 0) d)
    at later true is within same = rw (differs) (later (omega arith) same)
      where
        differs : (x.key == key) ≡ false
        differs = ne_eqb x.key key (omega (arith, ltb-true x.key key is))
    at later false is within same = rw (eq-eqb x.key key same) refl

pub missing_past : (key : ℕ) (xs : List Entry) → length xs ≤ place_of key xs → entry_of xs key ≡ None
missing_past key [] past = refl
missing_past key (x ∷ xs) past = at (missing_past key xs) (nat_lt x.key key) refl past
  where
    at : (length xs ≤ place_of key xs → entry_of xs key ≡ None) → (b : Bool) → nat_lt x.key key ≡ b → suc (length xs) ≤ cond b (suc (place_of key xs)) 0 → cond (x.key == key) (Some x) (entry_of xs key) ≡ None
    at later true is past = rw (ne_eqb x.key key (omega (arith, ltb-true x.key key is))) (later (omega arith))
    at later false is past = absurd (omega arith)

pub missing_at : (key : ℕ) (xs : List Entry) (d : Entry) → IsRising xs → place_of key xs < length xs → (slice_index_or xs (place_of key xs) d).key ≢ key → entry_of xs key ≡ None
missing_at key [] d rising within differs = refl
missing_at key (x ∷ xs) d rising within differs = at (missing_at key xs d rising.1) (nat_lt x.key key) refl within differs
  where
    at : (place_of key xs < length xs → (slice_index_or xs (place_of key xs) d).key ≢ key → entry_of xs key ≡ None) → (b : Bool) → nat_lt x.key key ≡ b → cond b (suc (place_of key xs)) 0 < suc (length xs) → (slice_index_or (x ∷ xs) (cond b (suc (place_of key xs)) 0) d).key ≢ key → cond (x.key == key) (Some x) (entry_of xs key) ≡ None
    at later true is within differs = rw (ne_eqb x.key key (omega (arith, ltb-true x.key key is))) (later (omega arith) differs)
    at later false is within differs =
        rw (ne_eqb x.key key differs) (below_all key xs (weaker key x.key xs (ltb-false x.key key is) rising.0))

-- the same at a place that was computed
pub found_by : (key at : ℕ) (xs : List Entry) (d : Entry) → at ≡ place_of key xs → at < length xs → (slice_index_or xs at d).key ≡ key → entry_of xs key ≡ Some (slice_index_or xs at d)
found_by key at xs d is =
    subst (λ i. i < length xs → (slice_index_or xs i d).key ≡ key → entry_of xs key ≡ Some (slice_index_or xs i d)) (sym is) (found key xs d)

pub missing_by : (key at : ℕ) (xs : List Entry) (d : Entry) → IsRising xs → at ≡ place_of key xs → at < length xs → (slice_index_or xs at d).key ≢ key → entry_of xs key ≡ None
missing_by key at xs d rising is =
    subst (λ i. i < length xs → (slice_index_or xs i d).key ≢ key → entry_of xs key ≡ None) (sym is) (missing_at key xs d rising)
