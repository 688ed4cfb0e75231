-- The runs of a range, cut to it.
use Rattle.std.proofs.Common.{◌≡◌, ◌≢◌, ℕ, zero, suc, ◌+◌, ◌-◌, ◌<◌, ◌≤◌, ◌&&◌, Bool, true, false, cond, max, min, nat_lt, nat_le, List, [], ◌∷◌, ◌++◌, length, map, take, drop, replicate, get_or, Option, Some, None, refl, ap, sym, ◌∙◌, subst, arith, inl, inr, append-nil, length-append}
use Rattle.std.specs.Prelude.{filter, position}
use Rattle.std.specs.List.{slice_range, list_all, position_or_len, AllWithin}
use Rattle.std.specs.Option.{option_map}
use Rattle.std.proofs.lemmas.Bool.{cases_Bool, ltb-true, ltb-false, lt-ltb, le-ltb, leb-true, leb-false}
use Rattle.std.proofs.lemmas.List.{length-replicate, length-drop, take-append-drop, length-take-le, take_all, drop_all, get_or-take, get_or-drop}
use Rattle.std.proofs.lemmas.List.Elements.{filter-append}
use Rattle.std.proofs.Math.Seq.{drop-cons}
use Rattle.std.proofs.lemmas.List.Folds.{list_all-append, list_all-map}
use Rattle.tb_ranges.specs.declared.run.Run.{Run}
use Rattle.tb_ranges.specs.Runs.{expanded, GoOn, AreRuns}
use Rattle.tb_ranges.specs.Ranges.{touches, cut, first_place}
use Rattle.tb_ranges.proofs.Places.{has_place}

module _ {V : Type 0} where
  -- a part of a row of equal values and what stands behind it
  row_part : (n a b : ℕ) (v : V) (ys : List V) → slice_range (replicate n v ++ ys) a b ≡ replicate (min n b - a) v ++ slice_range ys (a - n) (b - n)
  row_part zero a b v ys =
      let none : min 0 b - a ≡ 0 = omega arith in
      let from : a - 0 ≡ a = omega arith in
      let to : b - 0 ≡ b = omega arith in
      rw (none, from, to) refl
  row_part (suc n) zero zero v ys =
      let none : min (suc n) 0 - 0 ≡ 0 = omega arith in
      let from : 0 - suc n ≡ 0 = omega arith in
      rw (none, from) refl
  row_part (suc n) zero (suc b) v ys =
      let more : min (suc n) (suc b) - 0 ≡ suc (min n b - 0) = omega arith in
      let from : 0 - suc n ≡ 0 - n = omega arith in
      let to : suc b - suc n ≡ b - n = omega arith in
      let all : suc b - 0 ≡ suc (b - 0) = omega arith in
      rw (more, from, to, all) (ap (λ xs. v ∷ xs) (row_part n 0 b v ys))
  row_part (suc n) (suc a) b v ys =
      let less : min (suc n) b - suc a ≡ min n (b - 1) - a = omega arith in
      let from : suc a - suc n ≡ a - n = omega arith in
      let to : b - suc n ≡ (b - 1) - n = omega arith in
      let all : b - suc a ≡ (b - 1) - a = omega arith in
      rw (less, from, to, all) (row_part n a (b - 1) v ys)

  keeps : (lo hi : ℕ) (x : Run V) (xs : List (Run V)) → max lo x.lo < min x.hi hi → filter (touches lo hi) (x ∷ xs) ≡ x ∷ filter (touches lo hi) xs
  keeps lo hi x xs in_both = by_case (touches lo hi x) refl
    where
      by_case : (b : Bool) → touches lo hi x ≡ b → cond b (x ∷ filter (touches lo hi) xs) (filter (touches lo hi) xs) ≡ x ∷ filter (touches lo hi) xs
      by_case true e = refl
      by_case false e = absurd (omega (arith, ltb-false _ _ e))

  passes_over : (lo hi : ℕ) (x : Run V) (xs : List (Run V)) → min x.hi hi ≤ max lo x.lo → filter (touches lo hi) (x ∷ xs) ≡ filter (touches lo hi) xs
  passes_over lo hi x xs apart = by_case (touches lo hi x) refl
    where
      by_case : (b : Bool) → touches lo hi x ≡ b → cond b (x ∷ filter (touches lo hi) xs) (filter (touches lo hi) xs) ≡ filter (touches lo hi) xs
      by_case true e = absurd (omega (arith, ltb-true _ _ e))
      by_case false e = refl

  -- no run behind the range has a place of it
  none_behind : (before : Option V) (m size lo hi : ℕ) (xs : List (Run V)) → GoOn before m size xs → hi ≤ m → filter (touches lo hi) xs ≡ []
  none_behind before m size lo hi [] on past = refl
  none_behind before m size lo hi (x ∷ xs) on past =
      passes_over lo hi x xs (omega (arith, on.0)) ∙ none_behind (Some x.value) x.hi size lo hi xs on.3 (omega (arith, on.1))

  -- what a first run brings to the values
  cut_more : (lo hi : ℕ) (x : Run V) (xs : List (Run V)) → expanded (map (cut lo hi) (filter (touches lo hi) (x ∷ xs))) ≡ replicate (min x.hi hi - max lo x.lo) x.value ++ expanded (map (cut lo hi) (filter (touches lo hi) xs))
  cut_more lo hi x xs = elim (cases_Bool (touches lo hi x)) [
    | inl e ↦ ap (λ ys. expanded (map (cut lo hi) ys)) (keeps lo hi x xs (ltb-true _ _ e))
    | inr e ↦
        let none : min x.hi hi - max lo x.lo ≡ 0 = omega (arith, ltb-false _ _ e) in
        ap (λ ys. expanded (map (cut lo hi) ys)) (passes_over lo hi x xs (ltb-false _ _ e)) ∙ sym (ap (λ n. replicate n x.value ++ expanded (map (cut lo hi) (filter (touches lo hi) xs))) none)
  ]

  no_part : (a b : ℕ) → slice_range {X = V} [] a b ≡ []
  no_part a b = ap (take (b - a)) (drop_all a [] (omega arith)) ∙ take_all (b - a) [] (omega arith)

  -- cut to the range, the runs have the values of the range
  pub cut_values : (before : Option V) (m size lo hi : ℕ) (xs : List (Run V)) → GoOn before m size xs → expanded (map (cut lo hi) (filter (touches lo hi) xs)) ≡ slice_range (expanded xs) (lo - m) (hi - m)
  cut_values before m size lo hi [] on = sym (no_part (lo - m) (hi - m))
  cut_values before m size lo hi (x ∷ xs) on =
      let many : min x.hi hi - max lo x.lo ≡ min (x.hi - x.lo) (hi - m) - (lo - m) = omega (arith, on.0, on.1) in
      let from : lo - x.hi ≡ lo - m - (x.hi - x.lo) = omega (arith, on.0, on.1) in
      let to : hi - x.hi ≡ hi - m - (x.hi - x.lo) = omega (arith, on.0, on.1) in
      cut_more lo hi x xs
      ∙ ap (λ ys. replicate (min x.hi hi - max lo x.lo) x.value ++ ys) (cut_values (Some x.value) x.hi size lo hi xs on.3)
      ∙ ap (λ n. replicate n x.value ++ slice_range (expanded xs) (lo - x.hi) (hi - x.hi)) many
      ∙ ap (λ a. replicate (min (x.hi - x.lo) (hi - m) - (lo - m)) x.value ++ slice_range (expanded xs) a (hi - x.hi)) from
      ∙ ap (λ b. replicate (min (x.hi - x.lo) (hi - m) - (lo - m)) x.value ++ slice_range (expanded xs) (lo - m - (x.hi - x.lo)) b) to
      ∙ sym (row_part (x.hi - x.lo) (lo - m) (hi - m) x.value (expanded xs))

  pub cut_all : (size lo hi : ℕ) (xs : List (Run V)) → AreRuns size xs → expanded (map (cut lo hi) (filter (touches lo hi) xs)) ≡ slice_range (expanded xs) lo hi
  cut_all size lo hi xs are =
      let from : lo - 0 ≡ lo = omega arith in
      let to : hi - 0 ≡ hi = omega arith in
      cut_values None 0 size lo hi xs are ∙ ap (λ a. slice_range (expanded xs) a (hi - 0)) from ∙ ap (slice_range (expanded xs) lo) to

  -- the first of the runs, cut
  cut_first : (before : Option V) (from size lo hi : ℕ) (x : Run V) (xs : List (Run V)) → before ≢ Some x.value → max lo x.lo ≡ from → from < min x.hi hi → GoOn (Some x.value) (min x.hi hi) hi (map (cut lo hi) (filter (touches lo hi) xs)) → GoOn before from hi (map (cut lo hi) (filter (touches lo hi) (x ∷ xs)))
  cut_first before from size lo hi x xs unlike is some rest =
      subst (λ ys. GoOn before from hi (map (cut lo hi) ys)) (sym (keeps lo hi x xs (omega arith))) (is, some, unlike, rest)

  cut_none : (before : Option V) (from m size lo hi : ℕ) (xs : List (Run V)) (known : Option V) → GoOn before m size xs → hi ≤ m → from ≡ hi → GoOn known from hi (map (cut lo hi) (filter (touches lo hi) xs))
  cut_none before from m size lo hi xs known on past is =
      subst (λ ys. GoOn known from hi (map (cut lo hi) ys)) (sym (none_behind before m size lo hi xs on past)) is

  -- runs that begin in the range
  cut_rest : (before : Option V) (m size lo hi : ℕ) (xs : List (Run V)) → GoOn before m size xs → lo ≤ m → m ≤ hi → hi ≤ size → GoOn before m hi (map (cut lo hi) (filter (touches lo hi) xs))
  cut_rest before m size lo hi [] on from to within = omega (arith, on)
  cut_rest before m size lo hi (x ∷ xs) on from to within = elim (cases_Bool (nat_lt m hi)) [
    | inr e ↦ cut_none before m m size lo hi (x ∷ xs) before on (ltb-false _ _ e) (omega (arith, ltb-false _ _ e))
    | inl e ↦ cut_first before m size lo hi x xs on.2 (omega (arith, on.0)) (omega (arith, on.1, ltb-true _ _ e)) (elim (cases_Bool (nat_le x.hi hi)) [
      | inl f ↦
          let whole : x.hi ≡ min x.hi hi = omega (arith, leb-true _ _ f) in
          subst (λ n. GoOn (Some x.value) n hi (map (cut lo hi) (filter (touches lo hi) xs))) whole (cut_rest (Some x.value) x.hi size lo hi xs on.3 (omega (arith, on.1)) (leb-true _ _ f) within)
      | inr f ↦ cut_none (Some x.value) (min x.hi hi) x.hi size lo hi xs (Some x.value) on.3 (omega (arith, leb-false _ _ f)) (omega (arith, leb-false _ _ f))
    ])
  ]

  -- no run has a place of a range without places
  pub none_touches : (lo : ℕ) (xs : List (Run V)) → filter (touches lo lo) xs ≡ []
  none_touches lo [] = refl
  none_touches lo (x ∷ xs) = passes_over lo lo x xs (omega arith) ∙ none_touches lo xs

  cut_some : (before : Option V) (m size lo hi : ℕ) (xs : List (Run V)) → GoOn before m size xs → m ≤ lo → lo < hi → hi ≤ size → GoOn None lo hi (map (cut lo hi) (filter (touches lo hi) xs))
  cut_some before m size lo hi [] on from some within = absurd (omega (arith, on))
  cut_some before m size lo hi (x ∷ xs) on from some within = elim (cases_Bool (nat_le x.hi lo)) [
    | inl e ↦
        subst (λ ys. GoOn None lo hi (map (cut lo hi) ys)) (sym (passes_over lo hi x xs (omega (arith, leb-true _ _ e)))) (cut_some (Some x.value) x.hi size lo hi xs on.3 (leb-true _ _ e) some within)
    | inr e ↦ cut_first None lo size lo hi x xs (λ no_value. cc) (omega (arith, on.0)) (omega (arith, leb-false _ _ e)) (elim (cases_Bool (nat_le x.hi hi)) [
      | inl f ↦
          let whole : x.hi ≡ min x.hi hi = omega (arith, leb-true _ _ f) in
          subst (λ n. GoOn (Some x.value) n hi (map (cut lo hi) (filter (touches lo hi) xs))) whole (cut_rest (Some x.value) x.hi size lo hi xs on.3 (omega (arith, leb-false _ _ e)) (leb-true _ _ f) within)
      | inr f ↦ cut_none (Some x.value) (min x.hi hi) x.hi size lo hi xs (Some x.value) on.3 (omega (arith, leb-false _ _ f)) (omega (arith, leb-false _ _ f))
    ])
  ]

  -- cut to the range, they are runs of the range
  pub cut_runs : (size lo hi : ℕ) (xs : List (Run V)) → AreRuns size xs → lo ≤ hi → hi ≤ size → GoOn None lo hi (map (cut lo hi) (filter (touches lo hi) xs))
  cut_runs size lo hi xs are order within = elim (cases_Bool (nat_lt lo hi)) [
    | inl e ↦ cut_some None 0 size lo hi xs are (omega arith) (ltb-true _ _ e) within
    | inr e ↦
        let same : lo ≡ hi = omega (arith, ltb-false _ _ e) in
        subst (λ n. GoOn None lo n (map (cut lo n) (filter (touches lo n) xs))) same (subst (λ ys. GoOn None lo lo (map (cut lo lo) ys)) (sym (none_touches lo xs)) refl)
  ]

  all_pass : (p : Run V → Bool) (xs : List (Run V)) → ((k : ℕ) (d : Run V) → k < length xs → p (get_or xs k d) ≡ true) → filter p xs ≡ xs
  all_pass p [] all = refl
  all_pass p (x ∷ xs) all =
      ap (λ b. cond b (x ∷ filter p xs) (filter p xs)) (all 0 x (omega arith)) ∙ ap (λ ys. x ∷ ys) (all_pass p xs (λ k d within. all (suc k) d (omega arith)))

  none_pass : (p : Run V → Bool) (xs : List (Run V)) → ((k : ℕ) (d : Run V) → k < length xs → p (get_or xs k d) ≡ false) → filter p xs ≡ []
  none_pass p [] all = refl
  none_pass p (x ∷ xs) all =
      ap (λ b. cond b (x ∷ filter p xs) (filter p xs)) (all 0 x (omega arith)) ∙ none_pass p xs (λ k d within. all (suc k) d (omega arith))

  is_touched : (lo hi : ℕ) (x : Run V) → max lo x.lo < min x.hi hi → touches lo hi x ≡ true
  is_touched lo hi x some = elim (cases_Bool (touches lo hi x)) [
    | inl e ↦ e
    | inr e ↦ absurd (omega (arith, ltb-false _ _ e))
  ]

  is_passed : (lo hi : ℕ) (x : Run V) → min x.hi hi ≤ max lo x.lo → touches lo hi x ≡ false
  is_passed lo hi x apart = elim (cases_Bool (touches lo hi x)) [
    | inl e ↦ absurd (omega (arith, ltb-true _ _ e))
    | inr e ↦ e
  ]

  -- the runs between the first that ends behind `lo` and the first of those that begins from `hi` on
  pub between_are : (size lo hi s k : ℕ) (xs rest : List (Run V)) → rest ≡ drop s xs → AreRuns size xs → lo < hi → s ≤ length xs → k ≤ length rest
      → AllWithin (λ (run : Run V). nat_le run.hi lo ≡ true) xs 0 s → AllWithin (λ (run : Run V). nat_le run.hi lo ≡ false) xs s (length xs)
      → AllWithin (λ (run : Run V). nat_lt run.lo hi ≡ true) rest 0 k → AllWithin (λ (run : Run V). nat_lt run.lo hi ≡ false) rest k (length rest)
      → take k rest ≡ filter (touches lo hi) xs
  between_are size lo hi s k xs rest is are some bound inner ended left begun behind =
      let p = touches lo hi in
      let long : length rest ≡ length xs - s = ap length is ∙ length-drop s xs in
      let front : filter p (take s xs) ≡ [] = none_pass p (take s xs) (λ i d within.
      let under : i < s = omega (arith, length-take-le s xs bound) in
      ap p (get_or-take s xs i d under) ∙ is_passed lo hi (get_or xs i d) (omega (arith, leb-true _ _ (ended i d (omega arith) under)))) in
      let middle : filter p (take k rest) ≡ take k rest = all_pass p (take k rest) (λ i d within.
      let under : i < k = omega (arith, length-take-le k rest inner) in
      let here : i < length rest = omega (arith, inner) in
      let there : s + i < length xs = omega (arith, long) in
      let past = leb-false _ _ (left (s + i) d (omega arith) there) in
      let same : get_or rest i d ≡ get_or xs (s + i) d = ap (λ ys. get_or ys i d) is ∙ get_or-drop s xs i d in
      let has = has_place None 0 size (s + i) xs d are there in
      ap p (get_or-take k rest i d under) ∙ is_touched lo hi (get_or rest i d) (omega (arith, ltb-true _ _ (begun i d (omega arith) under), past, has, ap (λ (r : Run V). r.hi) same, ap (λ (r : Run V). r.lo) same))) in
      let last : filter p (drop k rest) ≡ [] = none_pass p (drop k rest) (λ i d within.
      let there : k + i < length rest = omega (arith, length-drop k rest) in
      ap p (get_or-drop k rest i d) ∙ is_passed lo hi (get_or rest (k + i) d) (omega (arith, ltb-false _ _ (behind (k + i) d (omega arith) there)))) in
      sym (ap (filter p) (sym (take-append-drop s xs)) ∙ filter-append p (take s xs) (drop s xs) ∙ ap (λ ys. ys ++ filter p (drop s xs)) front ∙ ap (filter p) (sym is)
      ∙ ap (filter p) (sym (take-append-drop k rest)) ∙ filter-append p (take k rest) (drop k rest) ∙ ap (λ ys. ys ++ filter p (drop k rest)) middle
      ∙ ap (λ ys. take k rest ++ ys) last ∙ append-nil (take k rest))

-- what is found in the runs of a range is found in its values
module _ {V : Type 0} (p : V → Bool) where
  all_in_row : (n : ℕ) (v : V) → 0 < n → list_all p (replicate n v) ≡ p v
  all_in_row zero v some = absurd (omega arith)
  all_in_row (suc zero) v some = elim (cases_Bool (p v)) [
    | inl e ↦ rw e refl
    | inr e ↦ rw e refl
  ]
  all_in_row (suc (suc n)) v some = elim (cases_Bool (p v)) [
    | inl e ↦ ap (λ b. p v && b) (all_in_row (suc n) v (omega arith)) ∙ rw e refl
    | inr e ↦ rw e refl
  ]

  pub all_expanded : (before : Option V) (m hi : ℕ) (xs : List (Run V)) → GoOn before m hi xs → list_all p (expanded xs) ≡ list_all (λ (run : Run V). p run.value) xs
  all_expanded before m hi [] on = refl
  all_expanded before m hi (x ∷ xs) on =
      list_all-append p (replicate (x.hi - x.lo) x.value) (expanded xs)
      ∙ ap (λ b. b && list_all p (expanded xs)) (all_in_row (x.hi - x.lo) x.value (omega (arith, on.0, on.1)))
      ∙ ap (λ b. p x.value && b) (all_expanded (Some x.value) x.hi hi xs on.3)

  -- where a value passes in a range, from the runs that have a place of it
  pub all_in : (lo hi : ℕ) (values : List V) (runs : List (Run V)) → GoOn None lo hi (map (cut lo hi) runs) → expanded (map (cut lo hi) runs) ≡ slice_range values lo hi → list_all (λ (run : Run V). p run.value) runs ≡ list_all p (slice_range values lo hi)
  all_in lo hi values runs on has =
      sym (ap (list_all p) (sym has) ∙ all_expanded None lo hi (map (cut lo hi) runs) on ∙ list_all-map (λ (run : Run V). p run.value) (cut lo hi) runs)

  first_in_row : (n : ℕ) (v : V) (ys : List V) → p v ≡ false → position_or_len p (replicate n v ++ ys) ≡ n + position_or_len p ys
  first_in_row zero v ys fails = omega arith
  first_in_row (suc n) v ys fails = rw fails (omega (arith, first_in_row n v ys fails))

  found_at_once : (n : ℕ) (v : V) (ys : List V) → 0 < n → p v ≡ true → position p (replicate n v ++ ys) ≡ Some 0
  found_at_once zero v ys some passes = absurd (omega arith)
  found_at_once (suc n) v ys some passes = rw passes (ap (λ b. cond b (Some 0) None) (lt-ltb 0 (suc (length (replicate n v ++ ys))) (omega arith)))

  found_later : (m n : ℕ) (v : V) (ys : List V) → p v ≡ false → option_map (λ k. m + k) (position p (replicate n v ++ ys)) ≡ option_map (λ k. (m + n) + k) (position p ys)
  found_later m n v ys fails =
      let all = replicate n v ++ ys in
      let at : position_or_len p all ≡ n + position_or_len p ys = first_in_row n v ys fails in
      let long : length all ≡ n + length ys = length-append (replicate n v) ys ∙ ap (λ k. k + length ys) (length-replicate n v) in
      let there : m + (n + position_or_len p ys) ≡ (m + n) + position_or_len p ys = omega arith in
      rw (at, long) (elim (cases_Bool (nat_lt (position_or_len p ys) (length ys))) [
        | inl e ↦
            let more : nat_lt (n + position_or_len p ys) (n + length ys) ≡ true = lt-ltb _ _ (omega (arith, ltb-true _ _ e)) in
            rw (more, e) (ap (λ k. Some k) there)
        | inr e ↦
            let more : nat_lt (n + position_or_len p ys) (n + length ys) ≡ false = le-ltb _ _ (omega (arith, ltb-false _ _ e)) in
            rw (more, e) refl
      ])

  first_expanded : (before : Option V) (lo m hi : ℕ) (xs : List (Run V)) → GoOn before m hi xs → lo ≤ m → option_map (λ k. m + k) (position p (expanded xs)) ≡ first_place p lo xs
  first_expanded before lo m hi [] on from = refl
  first_expanded before lo m hi (x ∷ xs) on from = elim (cases_Bool (p x.value)) [
    | inl e ↦
        let here : m + 0 ≡ max lo x.lo = omega (arith, on.0) in
        ap (option_map (λ k. m + k)) (found_at_once (x.hi - x.lo) x.value (expanded xs) (omega (arith, on.0, on.1)) e) ∙ rw e (ap (λ k. Some k) here)
    | inr e ↦
        let next : m + (x.hi - x.lo) ≡ x.hi = omega (arith, on.0, on.1) in
        found_later m (x.hi - x.lo) x.value (expanded xs) e ∙ ap (λ n. option_map (λ k. n + k) (position p (expanded xs))) next ∙ first_expanded (Some x.value) lo x.hi hi xs on.3 (omega (arith, on.1)) ∙ rw e refl
  ]

  first_cut : (lo hi : ℕ) (xs : List (Run V)) → first_place p lo (map (cut lo hi) xs) ≡ first_place p lo xs
  first_cut lo hi [] = refl
  first_cut lo hi (x ∷ xs) =
      let same : max lo (max lo x.lo) ≡ max lo x.lo = omega arith in
      ap (λ n. cond (p x.value) (Some n) (first_place p lo (map (cut lo hi) xs))) same ∙ ap (cond (p x.value) (Some (max lo x.lo))) (first_cut lo hi xs)

  pub first_in : (lo hi : ℕ) (values : List V) (runs : List (Run V)) → GoOn None lo hi (map (cut lo hi) runs) → expanded (map (cut lo hi) runs) ≡ slice_range values lo hi → first_place p lo runs ≡ option_map (λ k. lo + k) (position p (slice_range values lo hi))
  first_in lo hi values runs on has =
      sym (ap (λ xs. option_map (λ k. lo + k) (position p xs)) (sym has) ∙ first_expanded None lo lo hi (map (cut lo hi) runs) on (omega arith) ∙ first_cut lo hi runs)

  -- on to the next run
  at_run : (runs : List (Run V)) (at : ℕ) (run : Run V) → at < length runs → run ≡ get_or runs at run → drop at runs ≡ run ∷ drop (at + 1) runs
  at_run runs at run within is =
      let next : suc at ≡ at + 1 = omega arith in
      drop-cons runs at run within ∙ ap (λ (r : Run V). r ∷ drop (suc at) runs) (sym is) ∙ ap (λ n. run ∷ drop n runs) next

  pub all_from : (runs : List (Run V)) (at : ℕ) (run : Run V) → at < length runs → run ≡ get_or runs at run → list_all (λ (r : Run V). p r.value) (drop at runs) ≡ (p run.value && list_all (λ (r : Run V). p r.value) (drop (at + 1) runs))
  all_from runs at run within is = ap (list_all (λ (r : Run V). p r.value)) (at_run runs at run within is)

  pub first_from : (lo : ℕ) (runs : List (Run V)) (at : ℕ) (run : Run V) → at < length runs → run ≡ get_or runs at run → first_place p lo (drop at runs) ≡ cond (p run.value) (Some (max lo run.lo)) (first_place p lo (drop (at + 1) runs))
  first_from lo runs at run within is = ap (first_place p lo) (at_run runs at run within is)
