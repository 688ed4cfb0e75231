-- A value that is put behind runs.
use Rattle.std.proofs.Common.{◌≡◌, ◌≢◌, ℕ, zero, suc, ◌+◌, ◌-◌, ◌<◌, ◌≤◌, List, [], ◌∷◌, ◌++◌, length, replicate, set, get_or, Option, Some, None, refl, ap, sym, ◌∙◌, subst, arith, append_assoc, append-nil}
use Rattle.std.proofs.lemmas.List.{replicate-append-replicate, length_push}
use Rattle.tb_ranges.specs.declared.run.Run.{Run}
use Rattle.tb_ranges.specs.Runs.{expanded, GoOn, AreRuns}
use Rattle.tb_ranges.specs.Pieces.{end_of, last_of, stretched, IsRebuilt}
use Rattle.tb_ranges.proofs.Places.{joined, split_front, split_back, expanded-append, last_of-append}

module _ {V : Type 0} where
  -- the last of runs that are put behind others is the last of all
  pub last_of_all : (front out : List (Run V)) → (out ≡ [] → front ≡ []) → last_of None (front ++ out) ≡ last_of None out
  last_of_all front [] opens = ap (λ xs. last_of None (xs ++ [])) (opens refl)
  last_of_all front (x ∷ xs) opens = last_of-append None front (x ∷ xs)

  no_push : (xs : List (Run V)) (x : Run V) → xs ++ x ∷ [] ≡ [] → ⊥
  no_push xs x e = omega (arith, ap length e, length_push xs x)

  -- a run of its own
  pub pushed : (front old : List (Run V)) (lo hi : ℕ) (value : V) (values : List V) (run : Run V) → run.lo ≡ lo → run.hi ≡ hi → run.value ≡ value → lo < hi → last_of None old ≢ Some value → IsRebuilt front old lo values → IsRebuilt front (old ++ run ∷ []) hi (values ++ replicate (hi - lo) value)
  pushed front old lo hi value values run from to is order differs was = record {
    opens = λ e. absurd (no_push old run e);
    runs = subst (AreRuns hi) (append_assoc front old (run ∷ [])) on;
    has = ap expanded (sym (append_assoc front old (run ∷ []))) ∙ expanded-append (front ++ old) (run ∷ []) ∙ same;
  }
    where
      unlike : last_of None (front ++ old) ≢ Some run.value
      unlike e = differs (sym (last_of_all front old was.opens) ∙ e ∙ ap (λ v. Some v) is)

      on : AreRuns hi ((front ++ old) ++ run ∷ [])
      on = joined None 0 lo hi (front ++ old) (run ∷ []) was.runs (from, omega (arith, to), unlike, to)

      same : expanded (front ++ old) ++ (replicate (run.hi - run.lo) run.value ++ []) ≡ values ++ replicate (hi - lo) value
      same =
          ap (λ xs. xs ++ (replicate (run.hi - run.lo) run.value ++ [])) was.has
          ∙ ap (λ xs. values ++ xs) (append-nil (replicate (run.hi - run.lo) run.value) ∙ rw (from, to, is) refl)

  -- the last run made longer
  on_stretched : (before : Option V) (from lo hi : ℕ) (xs : List (Run V)) → lo ≤ hi → GoOn before from lo xs → last_of None xs ≢ None → GoOn before from hi (stretched hi xs)
  on_stretched before from lo hi [] order on some = absurd (some refl)
  on_stretched before from lo hi (x ∷ []) order on some = (on.0, omega (arith, on.1, on.3), on.2, refl)
  on_stretched before from lo hi (x ∷ y ∷ ys) order on some = (on.0, on.1, on.2, on_stretched (Some x.value) x.hi lo hi (y ∷ ys) order on.3 some)

  expanded-stretched : (before : Option V) (from lo hi : ℕ) (value : V) (xs : List (Run V)) → lo ≤ hi → GoOn before from lo xs → last_of None xs ≡ Some value → expanded (stretched hi xs) ≡ expanded xs ++ replicate (hi - lo) value
  expanded-stretched before from lo hi value [] order on is = absurd (cc)
  expanded-stretched before from lo hi value (x ∷ []) order on is =
      let v : x.value ≡ value = cc in
      let n : (x.hi - x.lo) + (hi - lo) ≡ hi - x.lo = omega (arith, on.0, on.1, on.3) in
      append-nil (replicate (hi - x.lo) x.value)
      ∙ sym
      (ap (λ xs. xs ++ replicate (hi - lo) value) (append-nil (replicate (x.hi - x.lo) x.value))
      ∙ ap (λ w. replicate (x.hi - x.lo) x.value ++ replicate (hi - lo) w) (sym v)
      ∙ replicate-append-replicate (x.hi - x.lo) (hi - lo) x.value
      ∙ ap (λ m. replicate m x.value) n)
  expanded-stretched before from lo hi value (x ∷ y ∷ ys) order on is =
      ap (λ values. replicate (x.hi - x.lo) x.value ++ values) (expanded-stretched (Some x.value) x.hi lo hi value (y ∷ ys) order on.3 is)
      ∙ sym (append_assoc (replicate (x.hi - x.lo) x.value) (expanded (y ∷ ys)) (replicate (hi - lo) value))

  none_is_stretched : (hi : ℕ) (xs : List (Run V)) → stretched hi xs ≡ [] → xs ≡ []
  none_is_stretched hi [] e = refl
  none_is_stretched hi (x ∷ []) e = absurd (cc)
  none_is_stretched hi (x ∷ y ∷ ys) e = absurd (cc)

  pub grown : (front old : List (Run V)) (lo hi : ℕ) (value : V) (values : List V) → lo < hi → last_of None old ≡ Some value → IsRebuilt front old lo values → IsRebuilt front (stretched hi old) hi (values ++ replicate (hi - lo) value)
  grown front old lo hi value values order is was = record {
    opens = λ e. was.opens (none_is_stretched hi old e);
    runs = joined None 0 (end_of 0 front) hi front (stretched hi old) (split_front None 0 lo front old was.runs) (on_stretched (last_of None front) (end_of 0 front) lo hi old (omega arith) behind some);
    has =
        expanded-append front (stretched hi old)
        ∙ ap (λ xs. expanded front ++ xs) (expanded-stretched (last_of None front) (end_of 0 front) lo hi value old (omega arith) behind is)
        ∙ sym (append_assoc (expanded front) (expanded old) (replicate (hi - lo) value))
        ∙ ap (λ xs. xs ++ replicate (hi - lo) value) (sym (expanded-append front old) ∙ was.has);
  }
    where
      behind : GoOn (last_of None front) (end_of 0 front) lo old
      behind = split_back None 0 lo front old was.runs

      some : last_of None old ≢ None
      some e = cc

  -- nothing is put behind
  pub kept : (front old : List (Run V)) (lo hi : ℕ) (value : V) (values : List V) → lo ≡ hi → IsRebuilt front old lo values → IsRebuilt front old hi (values ++ replicate (hi - lo) value)
  kept front old lo hi value values same was =
      let none : hi - lo ≡ 0 = omega arith in
      record {
        opens = was.opens;
        runs = subst (λ n. AreRuns n (front ++ old)) same was.runs;
        has = was.has ∙ sym (ap (λ n. values ++ replicate n value) none ∙ append-nil values);
      }

  -- what `stretch` writes
  pub set_last : (xs : List (Run V)) (i hi : ℕ) (d : Run V) → suc i ≡ length xs → set xs i (record (get_or xs i d) { hi = hi }) ≡ stretched hi xs
  set_last [] i hi d is = absurd (omega arith)
  set_last (x ∷ []) zero hi d is = refl
  set_last (x ∷ []) (suc i) hi d is = absurd (omega arith)
  set_last (x ∷ y ∷ ys) zero hi d is = absurd (omega arith)
  set_last (x ∷ y ∷ ys) (suc i) hi d is = ap (λ zs. x ∷ zs) (set_last (y ∷ ys) i hi d (omega arith))

  pub last_of-stretched : (before : Option V) (hi : ℕ) (xs : List (Run V)) → last_of before (stretched hi xs) ≡ last_of before xs
  last_of-stretched before hi [] = refl
  last_of-stretched before hi (x ∷ []) = refl
  last_of-stretched before hi (x ∷ y ∷ ys) = last_of-stretched (Some x.value) hi (y ∷ ys)
