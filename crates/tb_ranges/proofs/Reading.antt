-- Values that are read one after another.
use Rattle.std.proofs.Common.{◌≡◌, ℕ, suc, ◌+◌, ◌-◌, ◌<◌, ◌≤◌, true, false, nat_le, nat_lt, List, [], ◌∷◌, ◌++◌, length, take, drop, replicate, get_or, Option, Some, None, refl, ap, sym, ◌∙◌, subst, arith, inl, inr}
use Rattle.std.specs.List.{AllWithin}
use Rattle.std.proofs.lemmas.Bool.{cases_Bool, ltb-true, ltb-false}
use Rattle.std.proofs.lemmas.List.{drop_all, take_all, get_or_default}
use Rattle.std.proofs.Math.Seq.{drop-cons}
use Rattle.tb_ranges.specs.declared.run.Run.{Run}
use Rattle.tb_ranges.specs.Runs.{expanded, GoOn, AreRuns}
use Rattle.tb_ranges.specs.Ranges.{from_place}
use Rattle.tb_ranges.specs.Pieces.{end_of}
use Rattle.tb_ranges.proofs.Places.{ends, length-expanded}
use Rattle.tb_ranges.proofs.RunLaws.{stands_at, ended, not_ended}
use Rattle.tb_ranges.proofs.Values.{size_of}

module _ {V : Type 0} where
  -- from a place on, runs that go on to some end
  abbrev pub IsRead : ℕ → List (Run V) → Type 0
  IsRead at runs = GoOn None at (at + length (expanded (from_place at runs))) (from_place at runs)

  pub read_by : (at size : ℕ) (runs : List (Run V)) → GoOn None at size (from_place at runs) → IsRead at runs
  read_by at size runs on =
      let end : size ≡ at + length (expanded (from_place at runs)) = omega (arith, length-expanded None at size (from_place at runs) on) in
      subst (λ n. GoOn None at n (from_place at runs)) end on

  pub some_run : (at : ℕ) (runs : List (Run V)) → 0 < length (expanded (from_place at runs)) → 0 < length runs
  some_run at [] some = some
  some_run at (x ∷ xs) some = omega arith

  -- runs that begin at a place are those from it on
  pub all_from : (before : Option V) (at size : ℕ) (runs : List (Run V)) → GoOn before at size runs → GoOn None at size (from_place at runs) × (expanded runs ≡ expanded (from_place at runs))
  all_from before at size [] on = (on, refl)
  all_from before at size (x ∷ xs) on = ((refl, on.1, λ e. cc, on.3), ap (λ n. replicate (x.hi - n) x.value ++ expanded xs) on.0)

  pub first_ends : (at : ℕ) (runs : List (Run V)) (run : Run V) → IsRead at runs → 0 < length runs → run ≡ get_or runs 0 run → at < run.hi
  first_ends at [] run read some is = absurd (omega arith)
  first_ends at (x ∷ xs) run read some is = subst (λ (r : Run V). at < r.hi) (sym is) read.1

  pub next_value : (at : ℕ) (runs : List (Run V)) (run : Run V) → IsRead at runs → 0 < length runs → run ≡ get_or runs 0 run → at + 1 < run.hi → expanded (from_place at runs) ≡ run.value ∷ expanded (from_place (at + 1) runs)
  next_value at [] run read some is more = absurd (omega arith)
  next_value at (x ∷ xs) run read some is more =
      let left : x.hi - at ≡ suc (x.hi - (at + 1)) = omega (arith, ap (λ (r : Run V). r.hi) is) in
      ap (λ n. replicate n x.value ++ expanded xs) left ∙ ap (λ (r : Run V). r.value ∷ (replicate (x.hi - (at + 1)) x.value ++ expanded xs)) (sym is)

  pub read_on : (at : ℕ) (runs : List (Run V)) (run : Run V) → IsRead at runs → 0 < length runs → run ≡ get_or runs 0 run → at + 1 < run.hi → IsRead (at + 1) runs
  read_on at [] run read some is more = absurd (omega arith)
  read_on at (x ∷ xs) run read some is more = read_by (at + 1) _ (x ∷ xs) (refl, omega (arith, ap (λ (r : Run V). r.hi) is), λ e. cc, read.3)

  pub last_value : (at : ℕ) (runs : List (Run V)) (run : Run V) → IsRead at runs → 0 < length runs → run ≡ get_or runs 0 run → at + 1 ≡ run.hi → expanded (from_place at runs) ≡ run.value ∷ expanded (from_place (at + 1) (drop 1 runs))
  last_value at [] run read some is end = absurd (omega arith)
  last_value at (x ∷ xs) run read some is end =
      let one : x.hi - at ≡ 1 = omega (arith, ap (λ (r : Run V). r.hi) is) in
      let next : x.hi ≡ at + 1 = omega (arith, ap (λ (r : Run V). r.hi) is) in
      ap (λ n. replicate n x.value ++ expanded xs) one ∙ ap (λ (r : Run V). r.value ∷ expanded xs) (sym is)
      ∙ ap (λ ys. run.value ∷ ys) ((all_from (Some x.value) x.hi _ xs read.3).1 ∙ ap (λ n. expanded (from_place n xs)) next)

  pub read_next : (at : ℕ) (runs : List (Run V)) (run : Run V) → IsRead at runs → 0 < length runs → run ≡ get_or runs 0 run → at + 1 ≡ run.hi → IsRead (at + 1) (drop 1 runs)
  read_next at [] run read some is end = absurd (omega arith)
  read_next at (x ∷ xs) run read some is end =
      let next : x.hi ≡ at + 1 = omega (arith, ap (λ (r : Run V). r.hi) is) in
      subst (λ n. IsRead n xs) next (read_by x.hi _ xs (all_from (Some x.value) x.hi _ xs read.3).0)

  -- where reading begins
  abbrev Begins : ℕ → List V → List (Run V) → Type 0
  Begins lo all runs = IsRead lo runs × (expanded (from_place lo runs) ≡ drop lo all)

  begun_at : (size lo first : ℕ) (xs : List (Run V)) → AreRuns size xs → first < length xs → end_of 0 (take first xs) ≤ lo → lo < end_of 0 (take (suc first) xs) → Begins lo (expanded xs) (drop first xs)
  begun_at size lo first [] are within starts past = absurd (omega arith)
  begun_at size lo first (x ∷ xs) are within starts past =
      let all = x ∷ xs in
      let run = get_or all first x in
      let rest = drop (first + 1) all in
      let next : first + 1 ≡ suc first = omega arith in
      let stands = stands_at size first all run are within (get_or_default all first x run within) in
      let above : run.lo ≤ lo = omega (arith, stands.from, starts) in
      let below : lo < run.hi = omega (arith, stands.to, past, ap (λ n. end_of 0 (take n all)) next) in
      let here : drop first all ≡ run ∷ rest = drop-cons all first x within ∙ ap (λ n. run ∷ drop n all) (sym next) in
      subst (Begins lo (expanded all)) (sym here) (read_by lo size (run ∷ rest) (refl, below, λ e. cc, stands.on), sym (stands.rest lo above (omega arith)))

  begun_past : (size lo first : ℕ) (xs : List (Run V)) → AreRuns size xs → length xs ≤ first → size ≤ lo → Begins lo (expanded xs) (drop first xs)
  begun_past size lo first xs are past behind =
      let none : drop first xs ≡ [] = drop_all first xs past in
      let gone : drop lo (expanded xs) ≡ [] = drop_all lo (expanded xs) (omega (arith, size_of size xs are)) in
      subst (Begins lo (expanded xs)) (sym none) (read_by lo lo [] refl, sym gone)

  pub reading_begins : (size lo first : ℕ) (xs : List (Run V)) → AreRuns size xs → first ≤ length xs → AllWithin (λ (run : Run V). nat_le run.hi lo ≡ true) xs 0 first → AllWithin (λ (run : Run V). nat_le run.hi lo ≡ false) xs first (length xs) → Begins lo (expanded xs) (drop first xs)
  reading_begins size lo first xs are bound front back =
      let starts = ended 0 lo first xs bound (omega arith) front in
      elim (cases_Bool (nat_lt first (length xs))) [
        | inl is ↦ begun_at size lo first xs are (ltb-true first (length xs) is) starts (not_ended lo first xs (ltb-true first (length xs) is) back)
        | inr is ↦ begun_past size lo first xs are (ltb-false first (length xs) is) (omega (arith, starts, ap (end_of 0) (take_all first xs (ltb-false first (length xs) is)), ends None 0 size xs are))
      ]
