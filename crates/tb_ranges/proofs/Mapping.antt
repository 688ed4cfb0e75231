-- How a range of values is mapped, run by run.
use Rattle.std.proofs.Common.{◌≡◌, ℕ, zero, suc, ◌+◌, ◌-◌, ◌<◌, ◌≤◌, List, [], ◌∷◌, ◌++◌, length, map, take, drop, replicate, get_or, refl, Some, None, ap, sym, ◌∙◌, subst, arith, append_assoc, append-nil}
use Rattle.std.specs.List.{AllZip, AllByRecursion, slice_range}
use Rattle.std.proofs.lemmas.List.{take_all, drop_all, length-take-le, length-drop, nil_from_length, take_more}
use Rattle.std.proofs.Math.Seq.{take-add}
use Rattle.tb_ranges.specs.declared.run.Run.{Run}
use Rattle.tb_ranges.specs.Runs.{expanded, GoOn, AreRuns}
use Rattle.tb_ranges.specs.Ranges.{cut}
use Rattle.tb_ranges.specs.Pieces.{end_of, last_of, IsRebuilt, Adds, EndsIn, AddsMapped}
use Rattle.tb_ranges.proofs.Lists.{slice_range-append}
use Rattle.tb_ranges.proofs.Places.{front, expanded-take, expanded-drop, ends, begins, has_place, end_of-take, joined, expanded-append}
use Rattle.tb_ranges.proofs.Growth.{last_of_all}
use Rattle.tb_ranges.proofs.RunLaws.{StandsAt}
use Rattle.tb_ranges.proofs.Values.{size_of}

AllZip-append : {T V : Type 0} (R : T → V → Type 0) (xs : List T) (ys : List V) (zs : List T) (ws : List V) → AllZip R xs ys → AllZip R zs ws → AllZip R (xs ++ zs) (ys ++ ws)
AllZip-append R [] [] zs ws first second = second
AllZip-append R [] (y ∷ ys) zs ws first second = absurd first
AllZip-append R (x ∷ xs) [] zs ws first second = absurd first
AllZip-append R (x ∷ xs) (y ∷ ys) zs ws first second = (first.0, AllZip-append R xs ys zs ws first.1 second)

AllZip-replicate : {V : Type 0} (R : V → V → Type 0) (n : ℕ) (x y : V) → R x y → AllZip R (replicate n x) (replicate n y)
AllZip-replicate R zero x y r = tt
AllZip-replicate R (suc n) x y r = (r, AllZip-replicate R n x y r)

-- the values from `lo` to before `from` are mapped, and the run `at` has the place `from`
pub record IsMappedTo {V : Type 0} (R : V → V → Type 0) (runs : List (Run V)) (first lo hi : ℕ) (old out : List (Run V)) (at from : ℕ) : Type 0 where
  pub past : first ≤ at
  pub bound : at < length runs
  pub starts : end_of 0 (take at runs) ≤ from
  pub ends : from < end_of 0 (take (at + 1) runs)
  pub order : lo ≤ from
  pub below : from < hi
  pub adds : AddsMapped R lo from (expanded runs) old out

module _ {V : Type 0} (R : V → V → Type 0) where
  -- nothing is mapped yet
  pub none_mapped : (lo : ℕ) (whole : List V) (old : List (Run V)) → AddsMapped R lo lo whole old old
  none_mapped lo whole old front values was =
      let none : lo - lo ≡ 0 = omega arith in
      ([], subst (IsRebuilt front old lo) (sym (append-nil values)) was, subst (λ n. AllZip R (take n (drop lo whole)) []) (sym none) tt)

  -- the part of one run that is mapped next
  pub mapped_more : (size : ℕ) (runs : List (Run V)) (at lo from to : ℕ) (run : Run V) (value : V) (old out new : List (Run V)) → StandsAt size runs at run → run.lo ≤ from → lo ≤ from → from ≤ to → to ≤ run.hi → R run.value value → AddsMapped R lo from (expanded runs) old out → Adds from to value out new → AddsMapped R lo to (expanded runs) old new
  mapped_more size runs at lo from to run value old out new stands above order grows below maps adds put front values was =
      let so_far = adds front values was in
      let more = so_far.0 in
      let row = replicate (to - from) value in
      let built = put front (values ++ more) so_far.1 in
      let here = AllZip-append R (slice_range (expanded runs) lo from) more (replicate (to - from) run.value) row so_far.2 (AllZip-replicate R (to - from) run.value value maps) in
      let cut : slice_range (expanded runs) lo from ++ replicate (to - from) run.value ≡ slice_range (expanded runs) lo to =
      ap (λ xs. slice_range (expanded runs) lo from ++ xs) (sym (stands.part from to above grows below)) ∙ slice_range-append (expanded runs) lo from to order grows
      in
      (more ++ row, subst (IsRebuilt front new to) (append_assoc values more row) built, subst (λ xs. AllZip R xs (more ++ row)) cut here)

  -- on to the next run
  pub mapped_on : (size : ℕ) (runs : List (Run V)) (first lo hi at from to : ℕ) (run : Run V) (old out new : List (Run V)) → AreRuns size runs → hi ≤ size → StandsAt size runs at run → to ≡ run.hi → to < hi → IsMappedTo R runs first lo hi old out at from → AddsMapped R lo to (expanded runs) old new → IsMappedTo R runs first lo hi old new (at + 1) to
  mapped_on size runs first lo hi at from to run old out new are within stands is less was adds = record {
    past = omega (arith, was.past);
    bound = more;
    starts = omega (arith, stands.to);
    ends = omega (arith, stands.to, begins None 0 size (at + 1) runs run are more, has_place None 0 size (at + 1) runs run are more, end_of-take 0 (at + 1) runs run more, next);
    order = omega (arith, was.order, was.ends, stands.to);
    below = less;
    adds = adds;
  }
    where
      more : at + 1 < length runs
      more =
          let no : length runs ≤ at + 1 → ⊥ = λ past. omega (arith, stands.to, ap (end_of 0) (take_all (at + 1) runs past), ends None 0 size runs are) in
          omega (arith, no)

      next : end_of 0 (take (at + 1 + 1) runs) ≡ end_of 0 (take (suc (at + 1)) runs)
      next = let e : at + 1 + 1 ≡ suc (at + 1) = omega arith in ap (λ n. end_of 0 (take n runs)) e

-- the first ones of some runs are put behind others
abbrev pub IsAddedTo : {V : Type 0} → ℕ → List (Run V) → List (Run V) → List (Run V) → ℕ → Type 0
IsAddedTo {V} lo runs old out at =
    (front : List (Run V)) (values : List V) → IsRebuilt front old lo values → IsRebuilt front out (lo + end_of 0 (take at runs)) (values ++ expanded (take at runs))

-- the first of the new runs, and how they are completed
module _ {V : Type 0} where
  -- runs of which the last is the one before some other runs, together with these
  pub completed : (size at : ℕ) (runs front out : List (Run V)) (value : V) (n : ℕ) (values : List V) → GoOn (Some value) n size (drop at runs) → IsRebuilt front out n values → EndsIn value out → AreRuns size (front ++ (out ++ drop at runs)) × (expanded (front ++ (out ++ drop at runs)) ≡ values ++ expanded (drop at runs))
  completed size at runs front out value n values on built ending =
      let all = append_assoc front out (drop at runs) in
      let last : last_of None (front ++ out) ≡ Some value = last_of_all front out built.opens ∙ ending in
      let whole : AreRuns size ((front ++ out) ++ drop at runs) = joined None 0 n size (front ++ out) (drop at runs) built.runs (subst (λ o. GoOn o n size (drop at runs)) (sym last) on) in
      (subst (AreRuns size) all whole, ap expanded (sym all) ∙ expanded-append (front ++ out) (drop at runs) ∙ ap (λ xs. xs ++ expanded (drop at runs)) built.has)

  -- runs behind which there are no others
  pub complete : (size at : ℕ) (runs front out : List (Run V)) (values : List V) → length runs ≤ at → IsRebuilt front out size values → AreRuns size (front ++ (out ++ drop at runs)) × (expanded (front ++ (out ++ drop at runs)) ≡ values ++ expanded (drop at runs))
  complete size at runs front out values past built =
      let none : drop at runs ≡ [] = drop_all at runs past in
      subst (λ xs. AreRuns size (front ++ (out ++ xs)) × (expanded (front ++ (out ++ xs)) ≡ values ++ expanded xs)) (sym none)
      (subst (λ xs. AreRuns size (front ++ xs)) (sym (append-nil out)) built.runs, ap (λ xs. expanded (front ++ xs)) (append-nil out) ∙ built.has ∙ sym (append-nil values))

  -- behind the rest of the last run there are no others
  pub right_end : (size past hi : ℕ) (runs : List (Run V)) (last : Run V) (old out : List (Run V)) → AreRuns size runs → StandsAt size runs (past - 1) last → 0 < past → past ≡ length runs → last.lo < hi → hi ≤ last.hi → Adds hi last.hi last.value old out → (front : List (Run V)) (values : List V) → IsRebuilt front old hi values → AreRuns size (front ++ (out ++ drop past runs)) × (expanded (front ++ (out ++ drop past runs)) ≡ values ++ drop hi (expanded runs))
  right_end size past hi runs last old out are stands some all above below adds front values was =
      let here : past - 1 + 1 ≡ past = omega arith in
      let row = replicate (last.hi - hi) last.value in
      let built = adds front values was in
      let at_end : last.hi ≡ size = stands.to ∙ ap (λ n. end_of 0 (take n runs)) here ∙ ap (end_of 0) (take_all past runs (omega arith)) ∙ ends None 0 size runs are in
      let done = complete size past runs front out (values ++ row) (omega arith) (subst (λ n. IsRebuilt front out n (values ++ row)) at_end built) in
      let rest : drop hi (expanded runs) ≡ row ++ expanded (drop past runs) = stands.rest hi (omega arith) below ∙ ap (λ n. row ++ expanded (drop n runs)) here in
      (done.0, done.1 ∙ append_assoc values row (expanded (drop past runs)) ∙ ap (λ xs. values ++ xs) (sym rest))

  -- behind the rest of the last run stands the next one
  pub right_next : (size past hi : ℕ) (runs : List (Run V)) (last next : Run V) (old mid out : List (Run V)) → AreRuns size runs → StandsAt size runs (past - 1) last → StandsAt size runs past next → 0 < past → last.lo < hi → hi ≤ last.hi → Adds hi last.hi last.value old mid → Adds next.lo next.hi next.value mid out → EndsIn next.value out → (front : List (Run V)) (values : List V) → IsRebuilt front old hi values → AreRuns size (front ++ (out ++ drop (past + 1) runs)) × (expanded (front ++ (out ++ drop (past + 1) runs)) ≡ values ++ drop hi (expanded runs))
  right_next size past hi runs last next old mid out are stands follows some above below adds more ending front values was =
      let here : past - 1 + 1 ≡ past = omega arith in
      let row = replicate (last.hi - hi) last.value in
      let second = replicate (next.hi - next.lo) next.value in
      let left = expanded (drop (past + 1) runs) in
      let meets : last.hi ≡ next.lo = stands.to ∙ ap (λ n. end_of 0 (take n runs)) here ∙ sym follows.from in
      let built = more front (values ++ row) (subst (λ n. IsRebuilt front mid n (values ++ row)) meets (adds front values was)) in
      let done = completed size (past + 1) runs front out next.value next.hi ((values ++ row) ++ second) follows.on built ending in
      let others : expanded (drop past runs) ≡ second ++ left = expanded-drop size past runs are ∙ ap (λ n. drop n (expanded runs)) (sym follows.from) ∙ follows.rest next.lo (omega arith) (omega (arith, follows.some)) in
      let rest : drop hi (expanded runs) ≡ row ++ (second ++ left) = stands.rest hi (omega arith) below ∙ ap (λ n. row ++ expanded (drop n runs)) here ∙ ap (λ xs. row ++ xs) others in
      (done.0, done.1 ∙ append_assoc (values ++ row) second left ∙ append_assoc values row (second ++ left) ∙ ap (λ xs. values ++ xs) (sym rest))

  -- the run before a run, if there is one, behind those before that
  pub begun : (size first start : ℕ) (runs : List (Run V)) (run : Run V) → AreRuns size runs → first < length runs → start ≡ first - 1 → StandsAt size runs first run → IsRebuilt (take start runs) (slice_range runs start first) run.lo (expanded (take first runs))
  begun size first start runs run are within is stands = record {
    opens = λ none. nil_from_length (take start runs) (omega (arith, length-take-le start runs (omega arith), ap length none, length-take-le (first - start) (drop start runs) (omega (arith, length-drop start runs))));
    runs = subst (AreRuns run.lo) (sym parts) (subst (λ n. AreRuns n (take first runs)) (sym stands.from) (front None 0 size first runs are));
    has = ap expanded parts;
  }
    where
      whole : start + (first - start) ≡ first
      whole = omega arith

      parts : take start runs ++ slice_range runs start first ≡ take first runs
      parts = sym (take-add start (first - start) runs) ∙ ap (λ n. take n runs) whole

  -- the values before a place of a run
  before : (size first lo : ℕ) (runs : List (Run V)) (run : Run V) → AreRuns size runs → StandsAt size runs first run → run.lo ≤ lo → lo ≤ run.hi → expanded (take first runs) ++ replicate (lo - run.lo) run.value ≡ take lo (expanded runs)
  before size first lo runs run are stands above below =
      let whole : run.lo + (lo - run.lo) ≡ lo = omega arith in
      ap (λ xs. xs ++ replicate (lo - run.lo) run.value) (expanded-take size first runs are ∙ ap (λ n. take n (expanded runs)) (sym stands.from))
      ∙ ap (λ xs. take run.lo (expanded runs) ++ xs) (sym (stands.part run.lo lo (omega arith) above below))
      ∙ sym (take-add run.lo (lo - run.lo) (expanded runs))
      ∙ ap (λ n. take n (expanded runs)) whole

  -- the values before a place of a run, in its two parts
  pub opened : (size first start lo : ℕ) (runs out : List (Run V)) (run : Run V) → AreRuns size runs → StandsAt size runs first run → run.lo ≤ lo → lo ≤ run.hi → IsRebuilt (take start runs) out lo (expanded (take first runs) ++ replicate (lo - run.lo) run.value) → IsRebuilt (take start runs) out lo (take lo (expanded runs))
  opened size first start lo runs out run are stands above below built =
      subst (IsRebuilt (take start runs) out lo) (before size first lo runs run are stands above below) built

-- other runs put behind
module _ {V : Type 0} where
  pub added_none : (lo : ℕ) (runs old : List (Run V)) → IsAddedTo lo runs old old 0
  added_none lo runs old front values was =
      let here : lo ≡ lo + 0 = omega arith in
      subst (λ n. IsRebuilt front old n (values ++ [])) here (subst (IsRebuilt front old lo) (sym (append-nil values)) was)

  pub added_more : (size lo at : ℕ) (runs old out new : List (Run V)) (run : Run V) → AreRuns size runs → at < length runs → StandsAt size runs at run → IsAddedTo lo runs old out at → Adds (lo + run.lo) (lo + run.hi) run.value out new → IsAddedTo lo runs old new (at + 1)
  added_more size lo at runs old out new run are within stands added adds front values was =
      let row = replicate (run.hi - run.lo) run.value in
      let whole : take (at + 1) runs ≡ take at runs ++ run ∷ [] = stands.next in
      let many : (lo + run.hi) - (lo + run.lo) ≡ run.hi - run.lo = omega arith in
      let from : lo + end_of 0 (take at runs) ≡ lo + run.lo = omega (arith, stands.from) in
      let to : lo + run.hi ≡ lo + end_of 0 (take (at + 1) runs) = omega (arith, stands.to) in
      let all : (values ++ expanded (take at runs)) ++ row ≡ values ++ expanded (take (at + 1) runs) =
      append_assoc values (expanded (take at runs)) row
      ∙ ap (λ xs. values ++ xs) (ap (λ xs. expanded (take at runs) ++ xs) (sym (append-nil row)) ∙ sym (expanded-append (take at runs) (run ∷ [])) ∙ ap expanded (sym whole))
      in
      let built = adds front (values ++ expanded (take at runs)) (subst (λ n. IsRebuilt front out n (values ++ expanded (take at runs))) from (added front values was)) in
      subst (λ n. IsRebuilt front new n (values ++ expanded (take (at + 1) runs))) to
      (subst (IsRebuilt front new (lo + run.hi)) all (subst (λ n. IsRebuilt front new (lo + run.hi) ((values ++ expanded (take at runs)) ++ replicate n run.value)) many built))

  pub added_all : (size lo at : ℕ) (runs old out : List (Run V)) → AreRuns size runs → length runs ≤ at → IsAddedTo lo runs old out at → (front : List (Run V)) (values : List V) → IsRebuilt front old lo values → IsRebuilt front out (lo + length (expanded runs)) (values ++ expanded runs)
  added_all size lo at runs old out are past added front values was =
      let all = take_all at runs past in
      let end : lo + end_of 0 (take at runs) ≡ lo + length (expanded runs) = omega (arith, ap (end_of 0) all, ends None 0 size runs are, size_of size runs are) in
      subst (λ n. IsRebuilt front out n (values ++ expanded runs)) end (subst (λ xs. IsRebuilt front out (lo + end_of 0 (take at runs)) (values ++ expanded xs)) all (added front values was))

-- one more item, with a place of its own
pub collected : {T V : Type 0} (R : T → V → Type 0) (items : List T) (at : ℕ) (item : T) (value : V) (old new : List (Run V)) → at < length items → item ≡ get_or items at item → R item value → AreRuns at old × AllZip R (take at items) (expanded old) → Adds at (at + 1) value old new → AreRuns (at + 1) new × AllZip R (take (at + 1) items) (expanded new)
collected R items at item value old new within is made was adds =
    let one : at + 1 - at ≡ 1 = omega arith in
    let built = adds [] (expanded old) (record { opens = λ e. refl; runs = was.0; has = refl }) in
    let values : expanded new ≡ expanded old ++ value ∷ [] = built.has ∙ ap (λ n. expanded old ++ replicate n value) one in
    let front : take (at + 1) items ≡ take at items ++ item ∷ [] = take_more items at item within ∙ ap (λ x. take at items ++ x ∷ []) (sym is) in
    (built.runs, subst (λ xs. AllZip R xs (expanded new)) (sym front) (subst (AllZip R (take at items ++ item ∷ [])) (sym values) (AllZip-append R (take at items) (expanded old) (item ∷ []) (value ∷ []) was.1 (made, tt))))

all_push : {A : Type 0} (P : A → Type 0) (xs : List A) (x : A) → AllByRecursion P xs → P x → AllByRecursion P (xs ++ x ∷ [])
all_push P [] x all here = (here, tt)
all_push P (y ∷ ys) x all here = (all.0, all_push P ys x all.1 here)

pub fixed_more : {V : Type 0} (P : Run V → Type 0) (runs : List (Run V)) (at : ℕ) (run : Run V) → at < length runs → run ≡ get_or runs at run → P run → AllByRecursion P (take at runs) → AllByRecursion P (take (at + 1) runs)
fixed_more P runs at run within is here all =
    subst (AllByRecursion P) (sym (take_more runs at run within ∙ ap (λ x. take at runs ++ x ∷ []) (sym is))) (all_push P (take at runs) run all here)

-- values of runs that are mapped to themselves
pub fixed : {V : Type 0} (R : V → V → Type 0) (lo hi : ℕ) (runs : List (Run V)) → AllByRecursion (λ (run : Run V). R run.value run.value) runs → AllZip R (expanded (map (cut lo hi) runs)) (expanded (map (cut lo hi) runs))
fixed R lo hi [] all = tt
fixed R lo hi (run ∷ runs) all =
    let row = replicate ((cut lo hi run).hi - (cut lo hi run).lo) run.value in
    let rest = expanded (map (cut lo hi) runs) in
    AllZip-append R row row rest rest (AllZip-replicate R ((cut lo hi run).hi - (cut lo hi run).lo) run.value run.value all.0) (fixed R lo hi runs all.1)
