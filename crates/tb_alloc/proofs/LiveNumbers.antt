-- The numbers of the live allocations.
use Rattle.std.proofs.Common.{◌≡◌, ◌⊎◌, ℕ, zero, suc, ◌+◌, ◌<◌, ◌≤◌, Bool, true, false, cond, not, ◌==◌, nat_lt, List, [], ◌∷◌, ◌++◌, length, map, take, drop, get_or, Option, Some, None, refl, ap, sym, ◌∙◌, subst, arith, inl, inr, append_assoc, length-append}
use Rattle.std.specs.Prelude.{filter, find, slice_get, slice_set}
use Rattle.std.specs.List.{remove, AllWithin}
use Rattle.std.specs.List.Sorted.{IsPartitionedBy}
use Rattle.std.specs.Option.{option_map}
use Rattle.std.proofs.lemmas.List.{map-append}
use Rattle.std.proofs.lemmas.Bool.{cases_Bool, eqb-true, eq-eqb, ltb-true, lt-ltb}
use Rattle.tb_perm.specs.declared.tag.AllocId.{AllocId}
use Rattle.tb_perm.specs.declared.span.Span.{Span}
use Rattle.tb_alloc.specs.declared.allocation.Allocation.{Allocation}
use Rattle.tb_alloc.specs.Allocations.{dead, dead_at, killed, live_from, live_numbers, is_heap, is_live_heap, least_live_heap, allocation_at}
use Rattle.tb_alloc.specs.Kept.{number_of, AreRisingFrom, heap_made, or_made, first_made}

but_same : (id number : ℕ) → number ≡ id → not (number == id) ≡ false
but_same id number is = ap not (eq-eqb number id is)

but_other : (id number : ℕ) → (number ≡ id → ⊥) → not (number == id) ≡ true
but_other id number differs = elim (cases_Bool (number == id)) [
  | inl e ↦ absurd (differs (eqb-true number id e))
  | inr e ↦ ap not e
]

-- a live one more
pub live_from-push : (number : ℕ) (xs : List Allocation) (a : Allocation) → a.live ≡ true → live_from number (xs ++ a ∷ []) ≡ live_from number xs ++ (number + length xs) ∷ []
live_from-push number [] a live =
    let here : number ≡ number + 0 = omega arith in
    ap (λ b. cond b (number ∷ []) []) live ∙ ap (λ n. n ∷ []) here
live_from-push number (x ∷ xs) a live =
    let next : suc number + length xs ≡ number + suc (length xs) = omega arith in
    let rest = live_from-push (suc number) xs a live ∙ ap (λ n. live_from (suc number) xs ++ n ∷ []) next in
    elim (cases_Bool x.live) [
      | inl e ↦ ap (λ b. cond b (number ∷ live_from (suc number) (xs ++ a ∷ [])) (live_from (suc number) (xs ++ a ∷ []))) e ∙ ap (λ ns. number ∷ ns) rest ∙ sym (ap (λ b. cond b (number ∷ live_from (suc number) xs) (live_from (suc number) xs) ++ (number + suc (length xs)) ∷ []) e)
      | inr e ↦ ap (λ b. cond b (number ∷ live_from (suc number) (xs ++ a ∷ [])) (live_from (suc number) (xs ++ a ∷ []))) e ∙ rest ∙ sym (ap (λ b. cond b (number ∷ live_from (suc number) xs) (live_from (suc number) xs) ++ (number + suc (length xs)) ∷ []) e)
    ]

-- one that is less than all
above_all : (id number : ℕ) (xs : List Allocation) → id < number → filter (λ n. not (n == id)) (live_from number xs) ≡ live_from number xs
above_all id number [] less = refl
above_all id number (x ∷ xs) less =
    let rest = above_all id (suc number) xs (omega arith) in
    elim (cases_Bool x.live) [
      | inl e ↦ rw (e, but_other id number (λ is. omega (arith, is))) (ap (λ ns. number ∷ ns) rest)
      | inr e ↦ rw e rest
    ]

-- the dead one goes
struck : (number k : ℕ) (xs : List Allocation) → live_from number (dead_at xs k (slice_get xs k)) ≡ filter (λ n. not (n == number + k)) (live_from number xs)
struck number k [] = refl
struck number zero (x ∷ xs) =
    let here : number + 0 ≡ number = omega arith in
    let rest = above_all number (suc number) xs (omega arith) in
    rw here
    (elim (cases_Bool x.live) [
      | inl e ↦ rw (e, but_same number number refl) (sym rest)
      | inr e ↦ rw e (sym rest)
    ])
struck number (suc k) (x ∷ xs) =
    let next : suc number + k ≡ number + suc k = omega arith in
    let rest : live_from (suc number) (dead_at xs k (slice_get xs k)) ≡ filter (λ n. not (n == number + suc k)) (live_from (suc number) xs) = struck (suc number) k xs ∙ ap (λ m. filter (λ n. not (n == m)) (live_from (suc number) xs)) next in
    by_entry (slice_get xs k) rest
  where
    with_first : (ys : List Allocation) → live_from (suc number) ys ≡ filter (λ n. not (n == number + suc k)) (live_from (suc number) xs) → live_from number (x ∷ ys) ≡ filter (λ n. not (n == number + suc k)) (live_from number (x ∷ xs))
    with_first ys rest = elim (cases_Bool x.live) [
      | inl e ↦ rw (e, but_other (number + suc k) number (λ is. omega (arith, is))) (ap (λ ns. number ∷ ns) rest)
      | inr e ↦ rw e rest
    ]

    by_entry : (o : Option Allocation) → live_from (suc number) (dead_at xs k o) ≡ filter (λ n. not (n == number + suc k)) (live_from (suc number) xs) → live_from number (dead_at (x ∷ xs) (suc k) o) ≡ filter (λ n. not (n == number + suc k)) (live_from number (x ∷ xs))
    by_entry None rest = with_first xs rest
    by_entry (Some a) rest = with_first (slice_set xs k (dead a)) rest

live_numbers-killed : (xs : List Allocation) (id : ℕ) → live_numbers (killed xs id) ≡ filter (λ n. not (n == id)) (live_numbers xs)
live_numbers-killed xs zero = sym (above_all 0 1 xs (omega arith))
live_numbers-killed xs (suc place) =
    let at : 1 + place ≡ suc place = omega arith in
    struck 1 place xs ∙ ap (λ m. filter (λ n. not (n == m)) (live_numbers xs)) at

map-filter : (id : ℕ) (ids : List AllocId) → map number_of (filter (λ (other : AllocId). not (number_of other == id)) ids) ≡ filter (λ n. not (n == id)) (map number_of ids)
map-filter id [] = refl
map-filter id (x ∷ xs) = elim (cases_Bool (not (number_of x == id))) [
  | inl e ↦ rw e (ap (λ ns. number_of x ∷ ns) (map-filter id xs))
  | inr e ↦ rw e (map-filter id xs)
]

pub numbers-killed : (xs : List Allocation) (id : ℕ) (ids : List AllocId) → map number_of ids ≡ live_numbers xs → map number_of (filter (λ (other : AllocId). not (number_of other == id)) ids) ≡ live_numbers (killed xs id)
numbers-killed xs id ids are = map-filter id ids ∙ ap (filter (λ n. not (n == id))) are ∙ sym (live_numbers-killed xs id)

pub numbers-push : (xs : List Allocation) (a : Allocation) (ids : List AllocId) (id : AllocId) → map number_of ids ≡ live_numbers xs → a.live ≡ true → id.0 ≡ length xs + 1 → map number_of (ids ++ id ∷ []) ≡ live_numbers (xs ++ a ∷ [])
numbers-push xs a ids id are live is =
    let at : id.0 ≡ 1 + length xs = omega (arith, is) in
    map-append number_of ids (id ∷ []) ∙ ap (λ ns. ns ++ id.0 ∷ []) are ∙ ap (λ n. live_numbers xs ++ n ∷ []) at ∙ sym (live_from-push 1 xs a live)

-- the numbers rise
rising_numbers : (low number : ℕ) (xs : List Allocation) (ids : List AllocId) → map number_of ids ≡ live_from number xs → low ≤ number → AreRisingFrom low ids
rising_numbers low number xs [] are from = tt
rising_numbers low number [] (id ∷ ids) are from = absurd (cc)
rising_numbers low number (x ∷ xs) (id ∷ ids) are from = elim (cases_Bool x.live) [
  | inl e ↦
      let both : number_of id ∷ map number_of ids ≡ number ∷ live_from (suc number) xs = are ∙ ap (λ b. cond b (number ∷ live_from (suc number) xs) (live_from (suc number) xs)) e in
      let first : id.0 ≡ number = cc in
      let others : map number_of ids ≡ live_from (suc number) xs = cc in
      (omega (arith, first), rising_numbers (suc id.0) (suc number) xs ids others (omega (arith, first)))
  | inr e ↦ rising_numbers low (suc number) xs (id ∷ ids) (are ∙ ap (λ b. cond b (number ∷ live_from (suc number) xs) (live_from (suc number) xs)) e) (omega arith)
]

pub are_rising : (xs : List Allocation) (ids : List AllocId) → map number_of ids ≡ live_numbers xs → AreRisingFrom 0 ids
are_rising xs ids are = rising_numbers 0 1 xs ids are (omega arith)

rest_pass : (id low : ℕ) (ids : List AllocId) → AreRisingFrom low ids → id < low → filter (λ (other : AllocId). not (number_of other == id)) ids ≡ ids
rest_pass id low [] rising less = refl
rest_pass id low (x ∷ xs) rising less =
    rw (but_other id (number_of x) (λ is. omega (arith, is, rising.0))) (ap (λ ys. x ∷ ys) (rest_pass id (suc x.0) xs rising.1 (omega (arith, rising.0))))

above : (low k : ℕ) (ids : List AllocId) (d : AllocId) → AreRisingFrom low ids → k < length ids → low ≤ (get_or ids k d).0
above low k [] d rising within = absurd (omega arith)
above low zero (x ∷ xs) d rising within = rising.0
above low (suc k) (x ∷ xs) d rising within = omega (arith, rising.0, above (suc x.0) k xs d rising.1 (omega arith))

rising_at : (low i j : ℕ) (ids : List AllocId) (d : AllocId) → AreRisingFrom low ids → i ≤ j → j < length ids → (get_or ids i d).0 ≤ (get_or ids j d).0
rising_at low i j [] d rising order within = absurd (omega arith)
rising_at low zero zero (x ∷ xs) d rising order within = omega arith
rising_at low zero (suc j) (x ∷ xs) d rising order within = omega (arith, above (suc x.0) j xs d rising.1 (omega arith))
rising_at low (suc i) zero (x ∷ xs) d rising order within = absurd (omega arith)
rising_at low (suc i) (suc j) (x ∷ xs) d rising order within = rising_at (suc x.0) i j xs d rising.1 (omega arith) (omega arith)

pub parted : (id : ℕ) (ids : List AllocId) → AreRisingFrom 0 ids → IsPartitionedBy (λ (other : AllocId). nat_lt other.0 id) ids
parted id ids rising i j d order within passes = lt-ltb _ _ (omega (arith, rising_at 0 i j ids d rising order within, ltb-true _ _ passes))

-- the number that is found is taken out
pub struck_out : (id low place : ℕ) (ids : List AllocId) (d : AllocId) → AreRisingFrom low ids → place < length ids → (get_or ids place d).0 ≡ id → remove ids place ≡ filter (λ (other : AllocId). not (number_of other == id)) ids
struck_out id low place [] d rising within is = absurd (omega arith)
struck_out id low zero (x ∷ xs) d rising within is = rw (but_same id (number_of x) is) (sym (rest_pass id (suc x.0) xs rising.1 (omega (arith, is))))
struck_out id low (suc place) (x ∷ xs) d rising within is =
    let before = above (suc x.0) place xs d rising.1 (omega arith) in
    rw (but_other id (number_of x) (λ e. omega (arith, e, before, is))) (ap (λ ys. x ∷ ys) (struck_out id (suc x.0) place xs d rising.1 (omega arith) is))

-- one that is not there
pub not_struck : (id low place : ℕ) (ids : List AllocId) (d : AllocId) → AreRisingFrom low ids → AllWithin (λ (other : AllocId). nat_lt other.0 id ≡ true) ids 0 place → place ≤ length ids → (place < length ids → id < (get_or ids place d).0) → ids ≡ filter (λ (other : AllocId). not (number_of other == id)) ids
not_struck id low zero [] d rising front bound past = refl
not_struck id low (suc place) [] d rising front bound past = refl
not_struck id low zero (x ∷ xs) d rising front bound past = sym (rest_pass id x.0 (x ∷ xs) (omega arith, rising.1) (past (omega arith)))
not_struck id low (suc place) (x ∷ xs) d rising front bound past =
    let less = ltb-true _ _ (front 0 d (omega arith) (omega arith)) in
    rw (but_other id (number_of x) (λ e. omega (arith, e, less)))
    (ap (λ ys. x ∷ ys) (not_struck id (suc x.0) place xs d rising.1 (λ k e from to. front (suc k) e (omega arith) (omega arith)) (omega arith) (λ within. past (omega arith))))

-- the first live one of the heap is found among the live ones
slice_get-seam : (front rest : List Allocation) (x : Allocation) → slice_get (front ++ x ∷ rest) (length front) ≡ Some x
slice_get-seam [] rest x = refl
slice_get-seam (y ∷ ys) rest x = slice_get-seam ys rest x

no_heap : (x : Allocation) → x.live ≡ false → is_live_heap x ≡ false
no_heap x dead = elim (cases_Bool (is_heap x.kind)) [
  | inl e ↦ rw (e, dead) refl
  | inr e ↦ rw e refl
]

more : (ys : List Allocation) (y : Allocation) → length (ys ++ y ∷ []) ≡ suc (length ys)
more ys y = omega (arith, length-append ys (y ∷ []))

-- the rest of the list, with the answer for what stands behind its first one
at_live : (whole front xs : List Allocation) (x : Allocation) (n : AllocId) (ns : List AllocId) → whole ≡ front ++ x ∷ xs → n.0 ≡ suc (length front) → first_made whole ns ≡ least_live_heap xs → first_made whole (n ∷ ns) ≡ least_live_heap (x ∷ xs)
at_live whole front xs x n ns is first rest =
    let here : allocation_at whole n.0 ≡ Some x = ap (allocation_at whole) first ∙ ap (λ ys. slice_get ys (length front)) is ∙ slice_get-seam front xs x in
    ap (λ o. or_made (heap_made o) (first_made whole ns)) here
    ∙ elim (cases_Bool (is_live_heap x)) [
      | inl h ↦ rw h refl
      | inr h ↦ rw h rest
    ]

first_from : (whole front rest : List Allocation) (ids : List AllocId) → whole ≡ front ++ rest → map number_of ids ≡ live_from (suc (length front)) rest → first_made whole ids ≡ least_live_heap rest
first_from whole front [] [] is are = refl
first_from whole front [] (id ∷ ids) is are = absurd (cc)
first_from whole front (x ∷ xs) [] is are = elim (cases_Bool x.live) [
  | inl e ↦ let both : [] ≡ suc (length front) ∷ live_from (suc (suc (length front))) xs = are ∙ ap (λ b. cond b (suc (length front) ∷ live_from (suc (suc (length front))) xs) (live_from (suc (suc (length front))) xs)) e in absurd (cc)
  | inr e ↦
      let skip = are ∙ ap (λ b. cond b (suc (length front) ∷ live_from (suc (suc (length front))) xs) (live_from (suc (suc (length front))) xs)) e in
      first_from whole (front ++ x ∷ []) xs [] (is ∙ sym (append_assoc front (x ∷ []) xs)) (skip ∙ ap (λ n. live_from (suc n) xs) (sym (more front x)))
      ∙ sym (ap (λ b. option_map (λ (a : Allocation). a.made) (cond b (Some x) (find is_live_heap xs))) (no_heap x e))
]
first_from whole front (x ∷ xs) (id ∷ ids) is are = elim (cases_Bool x.live) [
  | inl e ↦
      let both : number_of id ∷ map number_of ids ≡ suc (length front) ∷ live_from (suc (suc (length front))) xs = are ∙ ap (λ b. cond b (suc (length front) ∷ live_from (suc (suc (length front))) xs) (live_from (suc (suc (length front))) xs)) e in
      let first : id.0 ≡ suc (length front) = cc in
      let others : map number_of ids ≡ live_from (suc (suc (length front))) xs = cc in
      at_live whole front xs x id ids is first (first_from whole (front ++ x ∷ []) xs ids (is ∙ sym (append_assoc front (x ∷ []) xs)) (others ∙ ap (λ n. live_from (suc n) xs) (sym (more front x))))
  | inr e ↦
      let skip = are ∙ ap (λ b. cond b (suc (length front) ∷ live_from (suc (suc (length front))) xs) (live_from (suc (suc (length front))) xs)) e in
      first_from whole (front ++ x ∷ []) xs (id ∷ ids) (is ∙ sym (append_assoc front (x ∷ []) xs)) (skip ∙ ap (λ n. live_from (suc n) xs) (sym (more front x)))
      ∙ sym (ap (λ b. option_map (λ (a : Allocation). a.made) (cond b (Some x) (find is_live_heap xs))) (no_heap x e))
]

pub first_made_is : (xs : List Allocation) (ids : List AllocId) → map number_of ids ≡ live_numbers xs → first_made xs ids ≡ least_live_heap xs
first_made_is xs ids are = first_from xs [] xs ids refl are
