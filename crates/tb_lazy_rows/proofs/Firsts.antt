-- The first byte at which a tag refuses, run by run.
use Rattle.std.proofs.Common.{◌≡◌, ◌∙◌, ◌+◌, ◌-◌, ◌≤◌, ◌<◌, ℕ, zero, suc, Bool, true, false, cond, List, [], ◌∷◌, length, take, drop, refl, ap, sym, subst, arith, find, is_some, get_or, nat_lt, ◌==◌, Option, Some, None}
use Rattle.std.specs.Prelude.{option_map}
use Rattle.std.specs.List.{range_with_len}
use Rattle.std.specs.Prelude.{position}
use Rattle.std.specs.Option.{option_and_then}
use Rattle.std.specs.List.{slice_range, slice_get, position_or_len}
use Rattle.std.proofs.lemmas.Bool.{eqb-true, eq-eqb, ltb-true, ltb-false}
use Rattle.std.proofs.lemmas.List.{length-take-le, length-drop, take_all}
use Rattle.std.proofs.lemmas.List.Sums.{fails_before_first}
use Rattle.std.proofs.lemmas.List.Quantifiers.{position-Some}
use Rattle.std.proofs.lemmas.Option.{slice_get-get_or, get_or_from_slice_get}
use Rattle.tb_perm.specs.declared.perm.Kind.{Kind}
use Rattle.tb_perm.specs.declared.perm.Rel.{Rel}
use Rattle.tb_perm.specs.declared.perm.State.{State}
use Rattle.tb_perm.specs.declared.perm.Perm.TheVariants.{Disabled}
use Rattle.tb_perm.specs.Event.{refusal_of}
use Rattle.tb_ranges.specs.declared.run.Run.{Run}
use Rattle.tb_ranges.specs.Runs.{expanded, AreRuns}
use Rattle.tb_ranges.specs.Pieces.{end_of}
use Rattle.tb_ranges.proofs.Places.{ends}
use Rattle.tb_lazy_rows.specs.Kinds.{kind_at, refuses_at, IsFirstIn, MeetsRun, first_refusal}
use Rattle.tb_lazy_rows.proofs.Changes.{run_stands, kind_in}

pub first_none : (passes : ℕ → Bool) (lo hi mid : ℕ) → lo ≤ mid → IsFirstIn passes lo mid None → IsFirstIn passes mid hi None → IsFirstIn passes lo hi None
first_none passes lo hi mid order low high = λ k above below. at k (nat_lt k mid) refl above below
  where
    at : (k : ℕ) (b : Bool) → nat_lt k mid ≡ b → lo ≤ k → k < hi → passes k ≡ false
    at k true is above below = low k above (ltb-true k mid is)
    at k false is above below = high k (ltb-false k mid is) below

pub first_some : (passes : ℕ → Bool) (lo hi mid first : ℕ) → IsFirstIn passes lo mid None → lo ≤ mid → IsFirstIn passes mid hi (Some first) → IsFirstIn passes lo hi (Some first)
first_some passes lo hi mid first low order high =
    (omega (arith, order, high.0), high.1, high.2, λ k above below. at k (nat_lt k mid) refl above below)
  where
    at : (k : ℕ) (b : Bool) → nat_lt k mid ≡ b → lo ≤ k → k < first → passes k ≡ false
    at k true is above below = low k above (ltb-true k mid is)
    at k false is above below = high.3 k (ltb-false k mid is) below

slice_get-take : {V : Type 0} (xs : List V) (n k : ℕ) → k < n → slice_get (take n xs) k ≡ slice_get xs k
slice_get-take xs zero k below = absurd (omega arith)
slice_get-take [] (suc n) k below = refl
slice_get-take (x ∷ xs) (suc n) zero below = refl
slice_get-take (x ∷ xs) (suc n) (suc k) below = slice_get-take xs n k (omega arith)

slice_get-drop : {V : Type 0} (xs : List V) (n k : ℕ) → slice_get (drop n xs) k ≡ slice_get xs (n + k)
slice_get-drop xs zero k = let e : k ≡ 0 + k = omega arith in ap (slice_get xs) e
slice_get-drop [] (suc n) k = refl
slice_get-drop (x ∷ xs) (suc n) k = let e : suc n + k ≡ suc (n + k) = omega arith in slice_get-drop xs n k ∙ ap (slice_get (x ∷ xs)) (sym e)

-- where none is found, none passes
position-None : {V : Type 0} (p : V → Bool) (xs : List V) (k : ℕ) (d : V) → position p xs ≡ None → k < length xs → p (get_or xs k d) ≡ false
position-None p xs k d none within = fails_before_first p xs k d (omega (arith, within, past (nat_lt (position_or_len p xs) (length xs)) refl none))
  where
    past : (b : Bool) → nat_lt (position_or_len p xs) (length xs) ≡ b → cond b (Some (position_or_len p xs)) None ≡ None → length xs ≤ position_or_len p xs
    past true is clash = absurd (cc)
    past false is same = ltb-false (position_or_len p xs) (length xs) is

-- the search of a range of numbers
find_none : (passes : ℕ → Bool) (lo n : ℕ) → ((k : ℕ) → lo ≤ k → k < lo + n → passes k ≡ false) → find passes (range_with_len lo n) ≡ None
find_none passes lo zero none = refl
find_none passes lo (suc n) none =
    ap (λ b. cond b (Some lo) (find passes (range_with_len (lo + 1) n))) (none lo (omega arith) (omega arith))
    ∙ find_none passes (lo + 1) n (λ k above below. none k (omega (arith, above)) (omega (arith, below)))

find_some : (passes : ℕ → Bool) (lo n first : ℕ) → lo ≤ first → first < lo + n → passes first ≡ true → ((k : ℕ) → lo ≤ k → k < first → passes k ≡ false) → find passes (range_with_len lo n) ≡ Some first
find_some passes lo zero first above below found none = absurd (omega (arith, above, below))
find_some passes lo (suc n) first above below found none = at (lo == first) refl (λ more. find_some passes (lo + 1) n first more (omega (arith, below)) found (λ k high low. none k (omega (arith, high)) low))
  where
    ne : (lo == first) ≡ false → (lo ≡ first → ⊥)
    ne is same = let clash : true ≡ false = sym (eq-eqb lo first same) ∙ is in absurd (cc)

    less : lo ≤ first → (lo ≡ first → ⊥) → lo < first
    less le differs = omega (arith, le, differs)

    at : (b : Bool) → (lo == first) ≡ b → (lo + 1 ≤ first → find passes (range_with_len (lo + 1) n) ≡ Some first) → cond (passes lo) (Some lo) (find passes (range_with_len (lo + 1) n)) ≡ Some first
    at true is deeper =
        let same : lo ≡ first = eqb-true lo first is in
        ap (λ b. cond b (Some lo) (find passes (range_with_len (lo + 1) n))) (ap passes same ∙ found) ∙ ap Some same
    at false is deeper =
        let more : lo < first = less above (ne is) in
        ap (λ b. cond b (Some lo) (find passes (range_with_len (lo + 1) n))) (none lo (omega arith) more)
        ∙ deeper (omega (arith, more))

-- the first byte of the whole, and the search for it
pub first_found : (passes : ℕ → Bool) (size : ℕ) (first : ℕ) → IsFirstIn passes 0 size (Some first) → Some first ≡ find passes (range_with_len 0 size)
first_found passes size first is = sym (find_some passes 0 size first is.0 (omega (arith, is.1)) is.2 is.3)

pub none_found : (passes : ℕ → Bool) (size end : ℕ) → size ≤ end → IsFirstIn passes 0 end None → None ≡ find passes (range_with_len 0 size)
none_found passes size end long is = sym (find_none passes 0 size (λ k above below. is k above (omega (arith, below, long))))

-- bytes that meet nothing are not refused
pub first_quiet : (kinds : List (Option Kind)) (g : Bool) (rel : Rel) (states : List State) (lo hi : ℕ) → ((byte : ℕ) → lo ≤ byte → byte < hi → kind_at kinds byte ≡ None) → IsFirstIn (refuses_at kinds g rel states) lo hi None
first_quiet kinds g rel states lo hi none = λ k above below. ap (λ o. is_some (option_and_then (λ s. refusal_of o g rel s) (slice_get states k))) (none k above below) ∙ at (slice_get states k)
  where
    at : (o : Option State) → is_some (option_and_then (λ s. refusal_of None g rel s) o) ≡ false
    at None = refl
    at (Some s) = refl

module _ (kinds : List (Option Kind)) (kind : Kind) (g : Bool) (rel : Rel) (states : List State) (lo hi : ℕ) (order : lo ≤ hi) (within : hi ≤ length states) (meets : (byte : ℕ) → lo ≤ byte → byte < hi → kind_at kinds byte ≡ Some kind) where
  abbrev pub d : State
  d = record { perm = Disabled; accessed = false }

  abbrev pub p : State → Bool
  p = λ s. is_some (refusal_of (Some kind) g rel s)

  -- a state of the range
  read : (k : ℕ) → k < hi - lo → refuses_at kinds g rel states (lo + k) ≡ is_some (refusal_of (Some kind) g rel (get_or (slice_range states lo hi) k d))
  read k below =
      ap (λ o. is_some (option_and_then (λ s. refusal_of o g rel s) (slice_get states (lo + k)))) (meets (lo + k) (omega arith) (omega (arith, below)))
      ∙ ap (λ o. is_some (option_and_then (λ s. refusal_of (Some kind) g rel s) o)) found
      ∙ ap (λ s. is_some (refusal_of (Some kind) g rel s)) (sym same)
    where
      found : slice_get states (lo + k) ≡ Some (get_or states (lo + k) d)
      found = slice_get-get_or states (lo + k) d (omega (arith, below, within))

      part : slice_get (slice_range states lo hi) k ≡ slice_get states (lo + k)
      part = slice_get-take (drop lo states) (hi - lo) k (omega (arith, below)) ∙ slice_get-drop states lo k

      same : get_or (slice_range states lo hi) k d ≡ get_or states (lo + k) d
      same = get_or_from_slice_get (slice_range states lo hi) k (get_or states (lo + k) d) d (part ∙ found)

  long : length (slice_range states lo hi) ≡ hi - lo
  long = length-take-le (hi - lo) (drop lo states) (omega (arith, length-drop lo states, within))

  pub first_in_run : (o : Option ℕ) → position p (slice_range states lo hi) ≡ o → IsFirstIn (refuses_at kinds g rel states) lo hi (option_map (λ k. lo + k) o)
  first_in_run None is = λ k above below.
      let there : lo + (k - lo) ≡ k = omega arith in
      subst (λ n. refuses_at kinds g rel states n ≡ false) there (read (k - lo) (omega arith) ∙ position-None p (slice_range states lo hi) (k - lo) d is (omega (arith, long)))
  first_in_run (Some i) is =
      let at = position-Some p (slice_range states lo hi) i d is in (
        omega arith,
        omega (arith, at.0, long),
        read i (omega (arith, at.0, long)) ∙ at.1,
        λ k above below.
            let there : lo + (k - lo) ≡ k = omega arith in
            subst (λ n. refuses_at kinds g rel states n ≡ false) there (read (k - lo) (omega (arith, at.0, long)) ∙ at.2 (k - lo) (omega arith)),
      )

-- a run more, without a refusal
pub first_more : (kinds : List (Option Kind)) (g : Bool) (rel : Rel) (states : List State) (runs : List (Run (Option Kind))) (at : ℕ) (d : Run (Option Kind)) → AreRuns (length kinds) runs → expanded runs ≡ kinds → at < length runs → (MeetsRun kinds (get_or runs at d) → IsFirstIn (refuses_at kinds g rel states) (get_or runs at d).lo (get_or runs at d).hi None) → IsFirstIn (refuses_at kinds g rel states) 0 (end_of 0 (take at runs)) None → IsFirstIn (refuses_at kinds g rel states) 0 (end_of 0 (take (at + 1) runs)) None
first_more kinds g rel states runs at d are has within here before =
    let stands = run_stands (length kinds) at runs d are within in
    let meets : MeetsRun kinds (get_or runs at d) = kind_in (λ (kind : Kind) (s : State). s) kinds runs at (get_or runs at d) has stands in
    first_none (refuses_at kinds g rel states) 0 (end_of 0 (take (at + 1) runs)) (end_of 0 (take at runs)) (omega arith) before
    (subst (λ n. IsFirstIn (refuses_at kinds g rel states) n (end_of 0 (take (at + 1) runs)) None) stands.from (subst (λ n. IsFirstIn (refuses_at kinds g rel states) (get_or runs at d).lo n None) stands.to (here meets)))

-- a run with a refusal
pub first_here : (kinds : List (Option Kind)) (g : Bool) (rel : Rel) (states : List State) (runs : List (Run (Option Kind))) (at : ℕ) (d : Run (Option Kind)) (first : ℕ) → length kinds ≡ length states → AreRuns (length kinds) runs → expanded runs ≡ kinds → at < length runs → (MeetsRun kinds (get_or runs at d) → IsFirstIn (refuses_at kinds g rel states) (get_or runs at d).lo (get_or runs at d).hi (Some first)) → IsFirstIn (refuses_at kinds g rel states) 0 (end_of 0 (take at runs)) None → Some first ≡ first_refusal kinds g rel states
first_here kinds g rel states runs at d first sizes are has within here before =
    let stands = run_stands (length kinds) at runs d are within in
    let found = here (kind_in (λ (kind : Kind) (s : State). s) kinds runs at (get_or runs at d) has stands) in
    first_found (refuses_at kinds g rel states) (length states) first (
      omega arith,
      omega (arith, found.1, stands.within, sizes),
      found.2,
      λ k above below. ahead k (nat_lt k (end_of 0 (take at runs))) refl below,
    )
  where
    ahead : (k : ℕ) (b : Bool) → nat_lt k (end_of 0 (take at runs)) ≡ b → k < first → refuses_at kinds g rel states k ≡ false
    ahead k true is below = before k (omega arith) (ltb-true k (end_of 0 (take at runs)) is)
    ahead k false is below =
        let stands = run_stands (length kinds) at runs d are within in
        (here (kind_in (λ (kind : Kind) (s : State). s) kinds runs at (get_or runs at d) has stands)).3 k (omega (arith, ltb-false k (end_of 0 (take at runs)) is, stands.from)) below

-- no run has one
pub first_nowhere : (kinds : List (Option Kind)) (g : Bool) (rel : Rel) (states : List State) (runs : List (Run (Option Kind))) (at : ℕ) → length kinds ≡ length states → AreRuns (length kinds) runs → length runs ≤ at → IsFirstIn (refuses_at kinds g rel states) 0 (end_of 0 (take at runs)) None → ◌≡◌ {A = Option ℕ} None (first_refusal kinds g rel states)
first_nowhere kinds g rel states runs at sizes are done before =
    none_found (refuses_at kinds g rel states) (length states) (end_of 0 (take at runs)) (omega (arith, sizes, ap (end_of 0) (take_all at runs done), ends None 0 (length kinds) runs are)) before
