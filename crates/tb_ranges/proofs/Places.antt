-- Where runs begin and end, and which values they have.
use Rattle.std.proofs.Common.{◌≡◌, ℕ, zero, suc, ◌+◌, ◌-◌, ◌<◌, ◌≤◌, List, [], ◌∷◌, ◌++◌, length, take, drop, replicate, get_or, Option, Some, None, refl, ap, sym, ◌∙◌, subst, arith, append_assoc, length-append}
use Rattle.std.proofs.lemmas.List.{length-replicate, take-append-drop, take_at, drop_at, length-take-le}
use Rattle.std.proofs.Math.Seq.{drop-cons}
use Rattle.std.specs.List.{slice_range}
use Rattle.tb_ranges.specs.declared.run.Run.{Run}
use Rattle.tb_ranges.specs.Runs.{expanded, GoOn, AreRuns}
use Rattle.tb_ranges.specs.Pieces.{end_of, last_of}
use Rattle.tb_ranges.proofs.Lists.{part_of_row, drop_in_row}

module _ {V : Type 0} where
  pub ends : (before : Option V) (lo hi : ℕ) (xs : List (Run V)) → GoOn before lo hi xs → end_of lo xs ≡ hi
  ends before lo hi [] on = on
  ends before lo hi (x ∷ xs) on = ends (Some x.value) x.hi hi xs on.3

  pub rises : (before : Option V) (lo hi : ℕ) (xs : List (Run V)) → GoOn before lo hi xs → lo ≤ hi
  rises before lo hi [] on = omega (arith, on)
  rises before lo hi (x ∷ xs) on = omega (arith, on.1, rises (Some x.value) x.hi hi xs on.3)

  -- there are not more runs than places
  pub count_of : (before : Option V) (lo hi : ℕ) (xs : List (Run V)) → GoOn before lo hi xs → length xs + lo ≤ hi
  count_of before lo hi [] on = omega (arith, on)
  count_of before lo hi (x ∷ xs) on = omega (arith, on.1, count_of (Some x.value) x.hi hi xs on.3)

  -- there are as many values as places
  pub length-expanded : (before : Option V) (lo hi : ℕ) (xs : List (Run V)) → GoOn before lo hi xs → length (expanded xs) + lo ≡ hi
  length-expanded before lo hi [] on = omega (arith, on)
  length-expanded before lo hi (x ∷ xs) on =
      omega (arith, length-append (replicate (x.hi - x.lo) x.value) (expanded xs), length-replicate (x.hi - x.lo) x.value, length-expanded (Some x.value) x.hi hi xs on.3, on.0, on.1)

  pub joined : (before : Option V) (lo mid hi : ℕ) (xs ys : List (Run V)) → GoOn before lo mid xs → GoOn (last_of before xs) mid hi ys → GoOn before lo hi (xs ++ ys)
  joined before lo mid hi [] ys on off = subst (λ n. GoOn before n hi ys) (sym on) off
  joined before lo mid hi (x ∷ xs) ys on off = (on.0, on.1, on.2, joined (Some x.value) x.hi mid hi xs ys on.3 off)

  pub split_front : (before : Option V) (lo hi : ℕ) (xs ys : List (Run V)) → GoOn before lo hi (xs ++ ys) → GoOn before lo (end_of lo xs) xs
  split_front before lo hi [] ys on = refl
  split_front before lo hi (x ∷ xs) ys on = (on.0, on.1, on.2, split_front (Some x.value) x.hi hi xs ys on.3)

  pub split_back : (before : Option V) (lo hi : ℕ) (xs ys : List (Run V)) → GoOn before lo hi (xs ++ ys) → GoOn (last_of before xs) (end_of lo xs) hi ys
  split_back before lo hi [] ys on = on
  split_back before lo hi (x ∷ xs) ys on = split_back (Some x.value) x.hi hi xs ys on.3

  pub expanded-append : (xs ys : List (Run V)) → expanded (xs ++ ys) ≡ expanded xs ++ expanded ys
  expanded-append [] ys = refl
  expanded-append (x ∷ xs) ys =
      ap (λ values. replicate (x.hi - x.lo) x.value ++ values) (expanded-append xs ys)
      ∙ sym (append_assoc (replicate (x.hi - x.lo) x.value) (expanded xs) (expanded ys))

  pub last_of-append : (before : Option V) (xs ys : List (Run V)) → last_of before (xs ++ ys) ≡ last_of (last_of before xs) ys
  last_of-append before [] ys = refl
  last_of-append before (x ∷ xs) ys = last_of-append (Some x.value) xs ys

  -- the first runs end where the last of them does
  pub end_of-take : (lo k : ℕ) (xs : List (Run V)) (d : Run V) → k < length xs → end_of lo (take (suc k) xs) ≡ (get_or xs k d).hi
  end_of-take lo k [] d within = absurd (omega arith)
  end_of-take lo zero (x ∷ xs) d within = refl
  end_of-take lo (suc k) (x ∷ xs) d within = end_of-take x.hi k xs d (omega arith)

  pub begins : (before : Option V) (lo hi k : ℕ) (xs : List (Run V)) (d : Run V) → GoOn before lo hi xs → k < length xs → (get_or xs k d).lo ≡ end_of lo (take k xs)
  begins before lo hi k [] d on within = absurd (omega arith)
  begins before lo hi zero (x ∷ xs) d on within = on.0
  begins before lo hi (suc k) (x ∷ xs) d on within = begins (Some x.value) x.hi hi k xs d on.3 (omega arith)

  pub has_place : (before : Option V) (lo hi k : ℕ) (xs : List (Run V)) (d : Run V) → GoOn before lo hi xs → k < length xs → (get_or xs k d).lo < (get_or xs k d).hi
  has_place before lo hi k [] d on within = absurd (omega arith)
  has_place before lo hi zero (x ∷ xs) d on within = omega (arith, on.0, on.1)
  has_place before lo hi (suc k) (x ∷ xs) d on within = has_place (Some x.value) x.hi hi k xs d on.3 (omega arith)

  -- the runs behind the one at a place of the list
  pub goes_on : (before : Option V) (lo hi k : ℕ) (xs : List (Run V)) (d : Run V) → GoOn before lo hi xs → k < length xs → GoOn (Some (get_or xs k d).value) (get_or xs k d).hi hi (drop (suc k) xs)
  goes_on before lo hi k [] d on within = absurd (omega arith)
  goes_on before lo hi zero (x ∷ xs) d on within = on.3
  goes_on before lo hi (suc k) (x ∷ xs) d on within = goes_on (Some x.value) x.hi hi k xs d on.3 (omega arith)

  -- the first runs
  pub front : (before : Option V) (lo hi k : ℕ) (xs : List (Run V)) → GoOn before lo hi xs → GoOn before lo (end_of lo (take k xs)) (take k xs)
  front before lo hi zero xs on = refl
  front before lo hi (suc k) [] on = refl
  front before lo hi (suc k) (x ∷ xs) on = (on.0, on.1, on.2, front (Some x.value) x.hi hi k xs on.3)

  -- the runs behind the first ones
  pub back : (before : Option V) (lo hi k : ℕ) (xs : List (Run V)) → GoOn before lo hi xs → GoOn (last_of before (take k xs)) (end_of lo (take k xs)) hi (drop k xs)
  back before lo hi zero xs on = on
  back before lo hi (suc k) [] on = on
  back before lo hi (suc k) (x ∷ xs) on = back (Some x.value) x.hi hi k xs on.3

  expanded_parts : (k : ℕ) (xs : List (Run V)) → expanded (take k xs) ++ expanded (drop k xs) ≡ expanded xs
  expanded_parts k xs = sym (expanded-append (take k xs) (drop k xs)) ∙ ap expanded (take-append-drop k xs)

  length_front : (size k : ℕ) (xs : List (Run V)) → AreRuns size xs → length (expanded (take k xs)) ≡ end_of 0 (take k xs)
  length_front size k xs runs = omega (arith, length-expanded None 0 (end_of 0 (take k xs)) (take k xs) (front None 0 size k xs runs))

  -- the values of the first runs
  pub expanded-take : (size k : ℕ) (xs : List (Run V)) → AreRuns size xs → expanded (take k xs) ≡ take (end_of 0 (take k xs)) (expanded xs)
  expanded-take size k xs runs =
      let e = take_at (expanded (take k xs)) (expanded (drop k xs)) (end_of 0 (take k xs)) (length_front size k xs runs) in
      sym e ∙ ap (take (end_of 0 (take k xs))) (expanded_parts k xs)

  -- the values of the others
  pub expanded-drop : (size k : ℕ) (xs : List (Run V)) → AreRuns size xs → expanded (drop k xs) ≡ drop (end_of 0 (take k xs)) (expanded xs)
  expanded-drop size k xs runs =
      let e = drop_at (expanded (take k xs)) (expanded (drop k xs)) (end_of 0 (take k xs)) (length_front size k xs runs) in
      sym e ∙ ap (drop (end_of 0 (take k xs))) (expanded_parts k xs)

  -- the values from where a run begins
  pub drop-begins : (size k : ℕ) (xs : List (Run V)) (d : Run V) → AreRuns size xs → k < length xs → drop (get_or xs k d).lo (expanded xs) ≡ replicate ((get_or xs k d).hi - (get_or xs k d).lo) (get_or xs k d).value ++ expanded (drop (suc k) xs)
  drop-begins size k xs d runs within =
      ap (λ n. drop n (expanded xs)) (begins None 0 size k xs d runs within)
      ∙ sym (expanded-drop size k xs runs)
      ∙ ap expanded (drop-cons xs k d within)

  -- the values at places of one run
  pub slice_range-run : (size k : ℕ) (xs : List (Run V)) (d : Run V) (a b : ℕ) → AreRuns size xs → k < length xs → (get_or xs k d).lo ≤ a → a ≤ b → b ≤ (get_or xs k d).hi → slice_range (expanded xs) a b ≡ replicate (b - a) (get_or xs k d).value
  slice_range-run size k xs d a b runs within from order to =
      let run = get_or xs k d in
      let some : run.lo < run.hi = has_place None 0 size k xs d runs within in
      let upto : b ≤ run.lo + (run.hi - run.lo) = omega arith in
      part_of_row (expanded xs) (expanded (drop (suc k) xs)) run.lo (run.hi - run.lo) a b run.value (drop-begins size k xs d runs within) from order upto

  -- the values from a place of a run on
  pub drop-run : (size k : ℕ) (xs : List (Run V)) (d : Run V) (a : ℕ) → AreRuns size xs → k < length xs → (get_or xs k d).lo ≤ a → a ≤ (get_or xs k d).hi → drop a (expanded xs) ≡ replicate ((get_or xs k d).hi - a) (get_or xs k d).value ++ expanded (drop (suc k) xs)
  drop-run size k xs d a runs within from to =
      let run = get_or xs k d in
      let some : run.lo < run.hi = has_place None 0 size k xs d runs within in
      let whole : run.lo + (run.hi - run.lo) ≡ run.hi = omega arith in
      let upto : a ≤ run.lo + (run.hi - run.lo) = omega arith in
      drop_in_row (expanded xs) (expanded (drop (suc k) xs)) run.lo (run.hi - run.lo) a run.value (drop-begins size k xs d runs within) from upto
      ∙ ap (λ n. replicate (n - a) run.value ++ expanded (drop (suc k) xs)) whole

  pub count_before : (size k : ℕ) (xs : List (Run V)) → AreRuns size xs → k < length xs → k ≤ end_of 0 (take k xs)
  count_before size k xs runs within =
      omega (arith, length-take-le k xs (omega arith), count_of None 0 (end_of 0 (take k xs)) (take k xs) (front None 0 size k xs runs))
