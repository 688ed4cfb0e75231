-- The search for a tag among rising rows.
use Rattle.std.proofs.Common.{◌≡◌, ◌∙◌, ◌≢◌, ◌≤◌, ◌<◌, ℕ, zero, suc, Bool, true, false, cond, List, [], ◌∷◌, length, refl, ap, arith, get_or, nat_lt, Some, None}
use Rattle.std.specs.List.{AllByRecursion, AllWithin}
use Rattle.std.specs.List.Sorted.{IsPartitionedBy}
use Rattle.std.proofs.lemmas.Bool.{ltb-true, ltb-false, lt-ltb, eq-eqb, ne_eqb}
use Rattle.std.proofs.lemmas.List.Elements.{All-from_recursion}
use Rattle.tb_lazy_rows.specs.declared.row.LazyRow.{LazyRow}
use Rattle.tb_lazy_events.specs.Rows.{row_of, AreRising}

rising_at : (rows : List LazyRow) (i j : ℕ) (d : LazyRow) → AreRising rows → i < j → j < length rows → (get_or rows i d).tag.0 < (get_or rows j d).tag.0
rising_at [] i j d rising before within = absurd (omega arith)
rising_at (x ∷ xs) zero zero d rising before within = absurd (omega arith)
rising_at (x ∷ xs) (suc i) zero d rising before within = absurd (omega arith)
rising_at (x ∷ xs) zero (suc j) d rising before within = All-from_recursion (λ (later : LazyRow). x.tag.0 < later.tag.0) xs rising.0 j d (omega arith)
rising_at (x ∷ xs) (suc i) (suc j) d rising before within = rising_at xs i j d rising.1 (omega arith) (omega arith)

pub parted : (key : ℕ) (rows : List LazyRow) → AreRising rows → IsPartitionedBy (λ (row : LazyRow). nat_lt row.tag.0 key) rows
parted key rows rising i j d before within is_below = at (nat_lt i j) refl
  where
    at : (b : Bool) → nat_lt i j ≡ b → nat_lt (get_or rows i d).tag.0 key ≡ true
    at true is = lt-ltb _ _ (omega (arith, rising_at rows i j d rising (ltb-true i j is) within, ltb-true _ _ is_below))
    at false is = let same : i ≡ j = omega (arith, before, ltb-false i j is) in ap (λ n. nat_lt (get_or rows n d).tag.0 key) same ∙ is_below

-- the row at the place that parts the rows
pub found_at : (key at : ℕ) (rows : List LazyRow) (d : LazyRow) → AllWithin (λ (row : LazyRow). nat_lt row.tag.0 key ≡ true) rows 0 at → at < length rows → (get_or rows at d).tag.0 ≡ key → row_of rows key ≡ Some (get_or rows at d)
found_at key at [] d below within same = absurd (omega arith)
found_at key zero (x ∷ xs) d below within same = ap (λ b. cond b (Some x) (row_of xs key)) (eq-eqb x.tag.0 key same)
found_at key (suc at) (x ∷ xs) d below within same =
    let less : x.tag.0 < key = ltb-true x.tag.0 key (below 0 x (omega arith) (omega arith)) in
    ap (λ b. cond b (Some x) (row_of xs key)) (ne_eqb x.tag.0 key (omega (arith, less)))
    ∙ found_at key at xs d (λ k e from to. below (suc k) e (omega arith) (omega arith)) (omega arith) same

none_above : (key : ℕ) (rows : List LazyRow) → AllByRecursion (λ (row : LazyRow). key < row.tag.0) rows → row_of rows key ≡ None
none_above key [] all = refl
none_above key (x ∷ xs) all = ap (λ b. cond b (Some x) (row_of xs key)) (ne_eqb x.tag.0 key (omega (arith, all.0))) ∙ none_above key xs all.1

weaker : (a b : ℕ) (rows : List LazyRow) → a < b → AllByRecursion (λ (row : LazyRow). b < row.tag.0) rows → AllByRecursion (λ (row : LazyRow). a < row.tag.0) rows
weaker a b [] less all = tt
weaker a b (x ∷ xs) less all = (omega (arith, all.0), weaker a b xs less all.1)

-- no row has the tag
pub missing_at : (key at : ℕ) (rows : List LazyRow) → AreRising rows → at ≤ length rows → AllWithin (λ (row : LazyRow). nat_lt row.tag.0 key ≡ true) rows 0 at → AllWithin (λ (row : LazyRow). nat_lt row.tag.0 key ≡ false) rows at (length rows) → (at < length rows → (d : LazyRow) → (get_or rows at d).tag.0 ≢ key) → row_of rows key ≡ None
missing_at key at [] rising bound below above other = refl
missing_at key zero (x ∷ xs) rising bound below above other =
    let least : key ≤ x.tag.0 = ltb-false x.tag.0 key (above 0 x (omega arith) (omega arith)) in
    let differs : x.tag.0 ≢ key = other (omega arith) x in
    let more : key < x.tag.0 = greater least differs in
    ap (λ b. cond b (Some x) (row_of xs key)) (ne_eqb x.tag.0 key differs) ∙ none_above key xs (weaker key x.tag.0 xs more rising.0)
  where
    greater : key ≤ x.tag.0 → x.tag.0 ≢ key → key < x.tag.0
    greater least differs = omega (arith, least, differs)
missing_at key (suc at) (x ∷ xs) rising bound below above other =
    let less : x.tag.0 < key = ltb-true x.tag.0 key (below 0 x (omega arith) (omega arith)) in
    ap (λ b. cond b (Some x) (row_of xs key)) (ne_eqb x.tag.0 key (omega (arith, less)))
    ∙ missing_at key at xs rising.1 (omega arith) (λ k e from to. below (suc k) e (omega arith) (omega arith)) (λ k e from to. above (suc k) e (omega arith) (omega arith)) (λ within d. other (omega arith) d)
