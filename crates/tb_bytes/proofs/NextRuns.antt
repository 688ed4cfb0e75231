-- The next run with a provenance.
use Rattle.std.proofs.Common.{inl, inr, true, false, nat_lt, nat_le, ◌≡◌, ◌≢◌, ℕ, zero, suc, ◌+◌, ◌-◌, ◌<◌, ◌≤◌, List, [], ◌∷◌, ◌++◌, length, take, drop, replicate, Option, Some, None, refl, ap, sym, ◌∙◌, subst, arith, get_or, append_assoc, MatchOption}
use Rattle.std.specs.List.{slice_get, AllWithin}
use Rattle.std.proofs.lemmas.List.{length-replicate, replicate-append-replicate, drop_at, drop-drop, drop_all, get_or_default, take_all}
use Rattle.std.proofs.lemmas.Bool.{cases_Bool, ltb-true, ltb-false}
use Rattle.std.proofs.Math.Seq.{drop-append-add, drop-cons}
use Rattle.tb_perm.specs.declared.tag.Prov.{Prov}
use Rattle.tb_ranges.specs.declared.run.Run.{Run}
use Rattle.tb_ranges.specs.Runs.{expanded, GoOn, AreRuns}
use Rattle.tb_ranges.specs.Pieces.{end_of}
use Rattle.tb_ranges.proofs.RunLaws.{stands_at, ended, not_ended}
use Rattle.tb_ranges.proofs.Places.{ends}
use Rattle.tb_ranges.proofs.Values.{size_of}
use Rattle.tb_bytes.specs.Bytes.{IsNextRun}
use Rattle.tb_bytes.specs.Parts.{or_first, first_with}

slice_get-drop : {A : Type 0} (n k : ℕ) (xs : List A) → slice_get (drop n xs) k ≡ slice_get xs (n + k)
slice_get-drop zero k xs = let e : k ≡ 0 + k = omega arith in ap (slice_get xs) e
slice_get-drop (suc n) k [] = refl
slice_get-drop (suc n) k (x ∷ xs) = let e : suc n + k ≡ suc (n + k) = omega arith in slice_get-drop n k xs ∙ ap (slice_get (x ∷ xs)) (sym e)

slice_get-behind : {A : Type 0} (n k : ℕ) (x : A) (ys : List A) → slice_get (replicate n x ++ ys) (n + k) ≡ slice_get ys k
slice_get-behind zero k x ys = let e : 0 + k ≡ k = omega arith in ap (slice_get ys) e
slice_get-behind (suc n) k x ys = let e : suc n + k ≡ suc (n + k) = omega arith in ap (slice_get (x ∷ (replicate n x ++ ys))) e ∙ slice_get-behind n k x ys

slice_get-row : {A : Type 0} (n k : ℕ) (x : A) (ys : List A) → k < n → slice_get (replicate n x ++ ys) k ≡ Some x
slice_get-row zero k x ys below = absurd (omega arith)
slice_get-row (suc n) zero x ys below = refl
slice_get-row (suc n) (suc k) x ys below = slice_get-row n k x ys (omega arith)

drop-behind : {A : Type 0} (n k : ℕ) (x : A) (ys : List A) → drop (n + k) (replicate n x ++ ys) ≡ drop k ys
drop-behind n k x ys = ap (λ m. drop (m + k) (replicate n x ++ ys)) (sym (length-replicate n x)) ∙ drop-append-add (replicate n x) ys k

-- what `IsNextRun` says, in parts of the list of the values from the place on
record NextIn (at : ℕ) (values : List (Option Prov)) (end : ℕ) (prov : Prov) : Type 0 where
  pub gap : ℕ
  pub more : ℕ
  pub places : values ≡ replicate gap None ++ (replicate (suc more) (Some prov) ++ drop (end - at) values)
  pub ends : end ≡ at + (gap + suc more)
  pub other : slice_get values (end - at) ≢ Some (Some prov)

abbrev NoneIn : List (Option Prov) → Type 0
NoneIn values = (k : ℕ) (prov : Prov) → slice_get values k ≢ Some (Some prov)

abbrev FoundIn : ℕ → List (Option Prov) → Option (ℕ × Prov) → Type 0
FoundIn at values result = MatchOption result (NoneIn values) (λ run. NextIn at values run.0 run.1)

-- the first place behind a run has another value
differs : (before : Option Prov) (lo hi : ℕ) (xs : List (Run (Option Prov))) → GoOn (Some before) lo hi xs → slice_get (expanded xs) 0 ≢ Some before
differs before lo hi [] on is = cc
differs before lo hi (x ∷ xs) on is = on.2 (sym (first (x.hi - x.lo) (omega (arith, on.0, on.1)) is))
  where
    first : (n : ℕ) → 0 < n → slice_get (replicate n x.value ++ expanded xs) 0 ≡ Some before → Some x.value ≡ Some before
    first zero some e = absurd (omega arith)
    first (suc n) some e = e

none_behind : (n : ℕ) (values : List (Option Prov)) → NoneIn values → NoneIn (replicate n None ++ values)
none_behind zero values none k prov is = none k prov is
none_behind (suc n) values none zero prov is = cc
none_behind (suc n) values none (suc k) prov is = none_behind n values none k prov is

found_behind : (n lo hi end : ℕ) (prov : Prov) (values : List (Option Prov)) → lo + n ≡ hi → NextIn hi values end prov → NextIn lo (replicate n None ++ values) end prov
found_behind n lo hi end prov values is next =
    let there : n + (end - hi) ≡ end - lo = omega (arith, next.ends) in
    let row = replicate (suc next.more) (Some prov) in
    record {
      gap = n + next.gap;
      more = next.more;
      places =
          ap (λ xs. replicate n None ++ xs) next.places
          ∙ sym (append_assoc (replicate n None) (replicate next.gap None) (row ++ drop (end - hi) values))
          ∙ ap (λ xs. xs ++ (row ++ drop (end - hi) values)) (replicate-append-replicate n next.gap None)
          ∙ ap (λ xs. replicate (n + next.gap) None ++ (row ++ xs)) (sym (drop-behind n (end - hi) None values) ∙ ap (λ m. drop m (replicate n None ++ values)) there);
      ends = omega (arith, next.ends);
      other = λ e. next.other (sym (slice_get-behind n (end - hi) None values) ∙ ap (slice_get (replicate n None ++ values)) there ∙ e);
    }

found_here : (n lo hi : ℕ) (prov : Prov) (values : List (Option Prov)) → lo + n ≡ hi → 0 < n → slice_get values 0 ≢ Some (Some prov) → NextIn lo (replicate n (Some prov) ++ values) hi prov
found_here n lo hi prov values is some unlike =
    let many : suc (n - 1) ≡ n = omega arith in
    let at : hi - lo ≡ n = omega arith in
    let behind : n + 0 ≡ hi - lo = omega arith in
    record {
      gap = 0;
      more = n - 1;
      places =
          ap (λ m. replicate m (Some prov) ++ values) (sym many)
          ∙ ap (λ xs. replicate (suc (n - 1)) (Some prov) ++ xs) (sym (ap (λ m. drop m (replicate n (Some prov) ++ values)) at ∙ drop_at (replicate n (Some prov)) values n (length-replicate n (Some prov))));
      ends = omega arith;
      other = λ e. unlike (sym (slice_get-behind n 0 (Some prov) values) ∙ ap (slice_get (replicate n (Some prov) ++ values)) behind ∙ e);
    }

step : (value : Option Prov) (n lo hi : ℕ) (values : List (Option Prov)) (rest : Option (ℕ × Prov)) → lo + n ≡ hi → 0 < n → slice_get values 0 ≢ Some value → FoundIn hi values rest → FoundIn lo (replicate n value ++ values) (or_first value hi rest)
step None n lo hi values None is some unlike found = none_behind n values found
step None n lo hi values (Some run) is some unlike found = found_behind n lo hi run.0 run.1 values is found
step (Some prov) n lo hi values rest is some unlike found = found_here n lo hi prov values is some unlike

found_in : (before : Option (Option Prov)) (lo hi : ℕ) (xs : List (Run (Option Prov))) → GoOn before lo hi xs → FoundIn lo (expanded xs) (first_with xs)
found_in before lo hi [] on = λ k prov is. cc
found_in before lo hi (x ∷ xs) on =
    step x.value (x.hi - x.lo) lo x.hi (expanded xs) (first_with xs) (omega (arith, on.0, on.1)) (omega (arith, on.0, on.1)) (differs x.value x.hi hi xs on.3) (found_in (Some x.value) x.hi hi xs on.3)

from_place : (at : ℕ) (whole : List (Option Prov)) (result : Option (ℕ × Prov)) → FoundIn at (drop at whole) result → MatchOption result ((k : ℕ) (prov : Prov) → at ≤ k → slice_get whole k ≢ Some (Some prov)) (λ run. IsNextRun at whole run.0 run.1)
from_place at whole None none =
    λ k prov from is.
    let there : at + (k - at) ≡ k = omega arith in
    none (k - at) prov (slice_get-drop at (k - at) whole ∙ ap (slice_get whole) there ∙ is)
from_place at whole (Some run) next =
    let there : at + (run.0 - at) ≡ run.0 = omega (arith, next.ends) in
    let row = replicate (suc next.more) (Some run.1) ++ drop (run.0 - at) (drop at whole) in
    record {
      from = at + next.gap;
      order = omega arith;
      some = omega (arith, next.ends);
      bare = λ k from to.
          let in_all : at + (k - at) ≡ k = omega arith in
          sym (slice_get-drop at (k - at) whole ∙ ap (slice_get whole) in_all) ∙ ap (λ xs. slice_get xs (k - at)) next.places ∙ slice_get-row next.gap (k - at) None row (omega arith);
      same = λ k from to.
          let in_all : at + (k - at) ≡ k = omega arith in
          let in_row : next.gap + (k - at - next.gap) ≡ k - at = omega arith in
          sym (slice_get-drop at (k - at) whole ∙ ap (slice_get whole) in_all)
          ∙ ap (λ xs. slice_get xs (k - at)) next.places
          ∙ ap (slice_get (replicate next.gap None ++ row)) (sym in_row)
          ∙ slice_get-behind next.gap (k - at - next.gap) None row
          ∙ slice_get-row (suc next.more) (k - at - next.gap) (Some run.1) (drop (run.0 - at) (drop at whole)) (omega (arith, next.ends));
      other = λ e. next.other (slice_get-drop at (run.0 - at) whole ∙ ap (slice_get whole) there ∙ e);
    }

-- from a place of a run
pub next_at : (size at first : ℕ) (xs : List (Run (Option Prov))) → AreRuns size xs → first < length xs → end_of 0 (take first xs) ≤ at → at < end_of 0 (take (suc first) xs) → MatchOption (first_with (drop first xs)) ((k : ℕ) (prov : Prov) → at ≤ k → slice_get (expanded xs) k ≢ Some (Some prov)) (λ run. IsNextRun at (expanded xs) run.0 run.1)
next_at size at first [] runs within starts ends = absurd (omega arith)
next_at size at first (x ∷ xs) runs within starts ends = from_place at whole (first_with (drop first all)) found
  where
    all : List (Run (Option Prov))
    all = x ∷ xs

    whole : List (Option Prov)
    whole = expanded all

    run : Run (Option Prov)
    run = get_or all first x

    rest : List (Run (Option Prov))
    rest = drop (first + 1) all

    found : FoundIn at (drop at whole) (first_with (drop first all))
    found =
        let next : first + 1 ≡ suc first = omega arith in
        let stands = stands_at size first all run runs within (get_or_default all first x run within) in
        let above : run.lo ≤ at = omega (arith, stands.from, starts) in
        let below : at < run.hi = omega (arith, stands.to, ends, ap (λ n. end_of 0 (take n all)) next) in
        let here : drop first all ≡ run ∷ rest = drop-cons all first x within ∙ ap (λ n. run ∷ drop n all) (sym next) in
        let behind = found_in (Some run.value) run.hi size rest stands.on in
        let found = step run.value (run.hi - at) at run.hi (expanded rest) (first_with rest) (omega arith) (omega arith) (differs run.value run.hi size rest stands.on) behind in
        subst (λ ys. FoundIn at (drop at whole) (first_with ys)) (sym here)
        (subst (λ values. FoundIn at values (or_first run.value run.hi (first_with rest))) (sym (stands.rest at above (omega arith))) found)

-- from the size on there is nothing
pub next_past : (size at first : ℕ) (xs : List (Run (Option Prov))) → AreRuns size xs → length xs ≤ first → size ≤ at → MatchOption (first_with (drop first xs)) ((k : ℕ) (prov : Prov) → at ≤ k → slice_get (expanded xs) k ≢ Some (Some prov)) (λ run. IsNextRun at (expanded xs) run.0 run.1)
next_past size at first xs runs past behind =
    let none : drop first xs ≡ [] = drop_all first xs past in
    let gone : drop at (expanded xs) ≡ [] = drop_all at (expanded xs) (omega (arith, size_of size xs runs)) in
    from_place at (expanded xs) (first_with (drop first xs)) (subst (λ ys. FoundIn at (drop at (expanded xs)) (first_with ys)) (sym none) (subst NoneIn (sym gone) (λ k prov is. cc)))

-- from any place, at the run that was found for it
pub next_by : (size at first : ℕ) (xs : List (Run (Option Prov))) → AreRuns size xs → first ≤ length xs → AllWithin (λ (run : Run (Option Prov)). nat_le run.hi at ≡ true) xs 0 first → AllWithin (λ (run : Run (Option Prov)). nat_le run.hi at ≡ false) xs first (length xs) → MatchOption (first_with (drop first xs)) ((k : ℕ) (prov : Prov) → at ≤ k → slice_get (expanded xs) k ≢ Some (Some prov)) (λ run. IsNextRun at (expanded xs) run.0 run.1)
next_by size at first xs runs bound front back =
    let starts = ended 0 at first xs bound (omega arith) front in
    elim (cases_Bool (nat_lt first (length xs))) [
      | inl is ↦ next_at size at first xs runs (ltb-true first (length xs) is) starts (not_ended at first xs (ltb-true first (length xs) is) back)
      | inr is ↦ next_past size at first xs runs (ltb-false first (length xs) is) (omega (arith, starts, ap (end_of 0) (take_all first xs (ltb-false first (length xs) is)), ends None 0 size xs runs))
    ]
