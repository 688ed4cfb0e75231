-- Which run has a place, and what is known of a run that is read.
use Rattle.std.proofs.Common.{◌≡◌, ◌≢◌, ℕ, zero, suc, ◌+◌, ◌-◌, ◌<◌, ◌≤◌, true, false, List, [], ◌∷◌, ◌++◌, length, take, drop, replicate, get_or, Option, Some, None, refl, ap, sym, ◌∙◌, subst, arith, nat_le, nat_lt}
use Rattle.std.specs.List.{AllWithin, slice_range, slice_get}
use Rattle.std.specs.List.Sorted.{IsPartitionedBy}
use Rattle.std.proofs.lemmas.Bool.{leb-true, leb-false, le-leb, ltb-true, lt-ltb}
use Rattle.std.proofs.lemmas.List.{take_all, take_more}
use Rattle.tb_ranges.specs.declared.run.Run.{Run}
use Rattle.tb_ranges.specs.Runs.{expanded, GoOn, AreRuns}
use Rattle.tb_ranges.specs.Pieces.{end_of, last_of}
use Rattle.tb_ranges.proofs.Places.{ends, rises, front, back, end_of-take, begins, has_place, goes_on, slice_range-run, drop-run}

module _ {V : Type 0} where
  above : (before : Option V) (lo hi j : ℕ) (xs : List (Run V)) (d : Run V) → GoOn before lo hi xs → j < length xs → lo < (get_or xs j d).hi
  above before lo hi j [] d on within = absurd (omega arith)
  above before lo hi zero (x ∷ xs) d on within = on.1
  above before lo hi (suc j) (x ∷ xs) d on within = omega (arith, on.1, above (Some x.value) x.hi hi j xs d on.3 (omega arith))

  -- a later run does not end earlier
  rising : (before : Option V) (lo hi i j : ℕ) (xs : List (Run V)) (d : Run V) → GoOn before lo hi xs → i ≤ j → j < length xs → (get_or xs i d).hi ≤ (get_or xs j d).hi
  rising before lo hi i j [] d on order within = absurd (omega arith)
  rising before lo hi zero zero (x ∷ xs) d on order within = omega arith
  rising before lo hi zero (suc j) (x ∷ xs) d on order within = omega (arith, above (Some x.value) x.hi hi j xs d on.3 (omega arith))
  rising before lo hi (suc i) zero (x ∷ xs) d on order within = absurd (omega arith)
  rising before lo hi (suc i) (suc j) (x ∷ xs) d on order within = rising (Some x.value) x.hi hi i j xs d on.3 (omega arith) (omega arith)

  pub parted : (size at : ℕ) (xs : List (Run V)) → AreRuns size xs → IsPartitionedBy (λ (run : Run V). nat_le run.hi at) xs
  parted size at xs runs i j d order within passes = le-leb _ _ (omega (arith, rising None 0 size i j xs d runs order within, leb-true _ _ passes))

  -- a later run does not begin earlier
  rising_begin : (before : Option V) (lo hi i j : ℕ) (xs : List (Run V)) (d : Run V) → GoOn before lo hi xs → i ≤ j → j < length xs → (get_or xs i d).lo ≤ (get_or xs j d).lo
  rising_begin before lo hi i j [] d on order within = absurd (omega arith)
  rising_begin before lo hi zero zero (x ∷ xs) d on order within = omega arith
  rising_begin before lo hi zero (suc j) (x ∷ xs) d on order within =
      omega (arith, on.0, on.1, rising_begin (Some x.value) x.hi hi zero j xs d on.3 (omega arith) (omega arith), first_begin (Some x.value) x.hi hi xs d on.3 (omega arith))
    where
      first_begin : (b : Option V) (m n : ℕ) (ys : List (Run V)) (e : Run V) → GoOn b m n ys → 0 < length ys → (get_or ys 0 e).lo ≡ m
      first_begin b m n [] e runs some = absurd (omega arith)
      first_begin b m n (y ∷ ys) e runs some = runs.0
  rising_begin before lo hi (suc i) zero (x ∷ xs) d on order within = absurd (omega arith)
  rising_begin before lo hi (suc i) (suc j) (x ∷ xs) d on order within = rising_begin (Some x.value) x.hi hi i j xs d on.3 (omega arith) (omega arith)

  pub parted_begin : (size s at : ℕ) (xs : List (Run V)) → AreRuns size xs → IsPartitionedBy (λ (run : Run V). nat_lt run.lo at) (drop s xs)
  parted_begin size s at xs runs i j d order within passes =
      lt-ltb _ _ (omega (arith, rising_begin (last_of None (take s xs)) (end_of 0 (take s xs)) size i j (drop s xs) d (back None 0 size s xs runs) order within, ltb-true _ _ passes))

  -- the runs that end before a place end before it together
  pub ended : (lo at i : ℕ) (xs : List (Run V)) → i ≤ length xs → lo ≤ at → AllWithin (λ (run : Run V). nat_le run.hi at ≡ true) xs 0 i → end_of lo (take i xs) ≤ at
  ended lo at zero xs bound from all = from
  ended lo at (suc i) [] bound from all = from
  ended lo at (suc i) (x ∷ xs) bound from all =
      omega (arith, end_of-take lo i (x ∷ xs) x bound, leb-true _ _ (all i x (omega arith) (omega arith)))

  -- not all runs end before a place below the size
  pub some_has : (size at i : ℕ) (xs : List (Run V)) → AreRuns size xs → at < size → i ≤ length xs → AllWithin (λ (run : Run V). nat_le run.hi at ≡ true) xs 0 i → length xs ≤ i → ⊥
  some_has size at i xs runs within bound all past =
      omega (arith, ended 0 at i xs bound (omega arith) all, ap (end_of 0) (take_all i xs past), ends None 0 size xs runs)

  pub not_ended : (at i : ℕ) (xs : List (Run V)) → i < length xs → AllWithin (λ (run : Run V). nat_le run.hi at ≡ false) xs i (length xs) → at < end_of 0 (take (suc i) xs)
  not_ended at i [] bound all = absurd (omega arith)
  not_ended at i (x ∷ xs) bound all =
      omega (arith, end_of-take 0 i (x ∷ xs) x bound, leb-false _ _ (all i x (omega arith) bound))

  -- what is known of the run at a place of the list
  pub record StandsAt (size : ℕ) (runs : List (Run V)) (at : ℕ) (run : Run V) : Type 0 where
    pub from : run.lo ≡ end_of 0 (take at runs)
    pub to : run.hi ≡ end_of 0 (take (at + 1) runs)
    pub some : run.lo < run.hi
    pub within : run.hi ≤ size
    pub next : take (at + 1) runs ≡ take at runs ++ run ∷ []
    pub part : (a b : ℕ) → run.lo ≤ a → a ≤ b → b ≤ run.hi → slice_range (expanded runs) a b ≡ replicate (b - a) run.value
    pub rest : (a : ℕ) → run.lo ≤ a → a ≤ run.hi → drop a (expanded runs) ≡ replicate (run.hi - a) run.value ++ expanded (drop (at + 1) runs)
    pub on : GoOn (Some run.value) run.hi size (drop (at + 1) runs)

  stands_by : (size at : ℕ) (runs : List (Run V)) (d : Run V) → AreRuns size runs → at < length runs → StandsAt size runs at (get_or runs at d)
  stands_by size at runs d are within =
      let next : at + 1 ≡ suc at = omega arith in
      record {
        from = begins None 0 size at runs d are within;
        to = sym (end_of-take 0 at runs d within) ∙ ap (λ n. end_of 0 (take n runs)) (sym next);
        some = has_place None 0 size at runs d are within;
        within = rises _ _ size _ (goes_on None 0 size at runs d are within);
        next = take_more runs at d within;
        part = λ a b. slice_range-run size at runs d a b are within;
        rest = λ a above below. drop-run size at runs d a are within above below ∙ ap (λ n. replicate ((get_or runs at d).hi - a) (get_or runs at d).value ++ expanded (drop n runs)) (sym next);
        on = subst (λ n. GoOn (Some (get_or runs at d).value) (get_or runs at d).hi size (drop n runs)) (sym next) (goes_on None 0 size at runs d are within);
      }

  pub stands_at : (size at : ℕ) (runs : List (Run V)) (run : Run V) → AreRuns size runs → at < length runs → run ≡ get_or runs at run → StandsAt size runs at run
  stands_at size at runs run are within is = subst (StandsAt size runs at) (sym is) (stands_by size at runs run are within)

  -- the value of the last run
  last_at : (xs : List (Run V)) (i : ℕ) (x : Run V) → suc i ≡ length xs → slice_get xs i ≡ Some x → last_of None xs ≡ Some x.value
  last_at [] i x is e = absurd (omega arith)
  last_at (y ∷ []) zero x is e = ap (λ (o : Option (Run V)). value_of o) e
    where
      value_of : Option (Run V) → Option V
      value_of None = None
      value_of (Some r) = Some r.value
  last_at (y ∷ []) (suc i) x is e = absurd (omega arith)
  last_at (y ∷ z ∷ zs) zero x is e = absurd (omega arith)
  last_at (y ∷ z ∷ zs) (suc i) x is e = last_at (z ∷ zs) i x (omega arith) e

  pub last_item : (xs : List (Run V)) (x : Run V) → Some x ≡ slice_get xs (length xs - 1) → last_of None xs ≡ Some x.value
  last_item [] x e = absurd (cc)
  last_item (y ∷ ys) x e =
      let at : suc (length ys) - 1 ≡ length ys = omega arith in
      last_at (y ∷ ys) (length ys) x refl (sym (e ∙ ap (slice_get (y ∷ ys)) at))

  -- of two places the run of the lesser one stands no later
  ends_rise : (before : Option V) (lo hi i j : ℕ) (xs : List (Run V)) → GoOn before lo hi xs → i ≤ j → end_of lo (take i xs) ≤ end_of lo (take j xs)
  ends_rise before lo hi zero j xs on order = rises before lo _ _ (front before lo hi j xs on)
  ends_rise before lo hi (suc i) zero xs on order = absurd (omega arith)
  ends_rise before lo hi (suc i) (suc j) [] on order = omega arith
  ends_rise before lo hi (suc i) (suc j) (x ∷ xs) on order = ends_rise (Some x.value) x.hi hi i j xs on.3 (omega arith)

  pub in_order : (size i j a b : ℕ) (xs : List (Run V)) → AreRuns size xs → end_of 0 (take i xs) ≤ a → a ≤ b → b < end_of 0 (take (j + 1) xs) → i ≤ j
  in_order size i j a b xs are starts order ends =
      let no : j + 1 ≤ i → ⊥ = λ past. omega (arith, ends_rise None 0 size (j + 1) i xs are past) in
      omega (arith, no)

  -- where the last run ends, the runs do
  pub last_ends : (before : Option V) (lo hi : ℕ) (xs : List (Run V)) (x : Run V) → GoOn before lo hi xs → Some x ≡ slice_get xs (length xs - 1) → x.hi ≡ hi
  last_ends before lo hi [] x on e = absurd (cc)
  last_ends before lo hi (y ∷ []) x on e = let same : x ≡ y = cc in ap (λ (r : Run V). r.hi) same ∙ on.3
  last_ends before lo hi (y ∷ z ∷ zs) x on e =
      let at : suc (suc (length zs)) - 1 ≡ suc (suc (length zs) - 1) = omega arith in
      last_ends (Some y.value) y.hi hi (z ∷ zs) x on.3 (e ∙ ap (slice_get (y ∷ z ∷ zs)) at)

  pub some_item : (xs : List (Run V)) → last_of None xs ≢ None → 0 < length xs
  some_item [] some = absurd (some refl)
  some_item (x ∷ xs) some = omega arith
