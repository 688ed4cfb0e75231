-- Values that are changed run by run.
use Rattle.std.proofs.Common.{◌≡◌, ◌∙◌, ◌+◌, ◌-◌, ◌≤◌, ◌<◌, ℕ, Bool, true, false, cond, List, length, map, take, drop, refl, ap, sym, subst, arith, nat_lt, get_or, Option, Some, None}
use Rattle.std.specs.Prelude.{option_map, Result, Ok, Err, OnErr}
use Rattle.std.specs.Option.{option_and_then}
use Rattle.std.specs.List.{slice_range, slice_get, splice}
use Rattle.std.proofs.lemmas.Bool.{ltb-true, ltb-false, le-ltb}
use Rattle.std.proofs.lemmas.List.{length-take-le, length-drop, length-map, take_all, get_or_default}
use Rattle.std.proofs.lemmas.Option.{slice_get_past}
use Rattle.tb_perm.specs.declared.perm.Kind.{Kind}
use Rattle.tb_ranges.specs.declared.run.Run.{Run}
use Rattle.tb_ranges.specs.Runs.{expanded, AreRuns}
use Rattle.tb_ranges.specs.Pieces.{end_of}
use Rattle.tb_ranges.proofs.RunLaws.{StandsAt, stands_at}
use Rattle.tb_ranges.proofs.Places.{ends}
use Rattle.tb_ranges.proofs.Values.{value_at}
use Rattle.tb_ranges.proofs.SpliceLaws.{slice_get-splice_before, slice_get-splice_behind, slice_get-mapped}
use Rattle.tb_lazy_rows.specs.Kinds.{kind_at, changed, AreChangedBelow, AreChanged, MeetsRun}

module _ {V : Type 0} (by : Kind → V → V) (kinds : List (Option Kind)) where
  pub changed_start : (old : List V) → AreChangedBelow by kinds 0 old old
  changed_start old = λ byte. sym (ap (λ b. cond b (option_map (changed by (kind_at kinds byte)) (slice_get old byte)) (slice_get old byte)) (le-ltb byte 0 (omega arith)))

  same : (o : Option V) → option_map (λ (v : V). v) o ≡ o
  same None = refl
  same (Some v) = refl

  -- bytes that meet nothing
  pub changed_none : (lo hi : ℕ) (old cur : List V) → lo ≤ hi → ((byte : ℕ) → lo ≤ byte → byte < hi → kind_at kinds byte ≡ None) → AreChangedBelow by kinds lo old cur → AreChangedBelow by kinds hi old cur
  changed_none lo hi old cur order none before = λ byte. before byte ∙ at byte (nat_lt byte lo) refl (nat_lt byte hi) refl
    where
      at : (byte : ℕ) (b : Bool) → nat_lt byte lo ≡ b → (c : Bool) → nat_lt byte hi ≡ c → cond b (option_map (changed by (kind_at kinds byte)) (slice_get old byte)) (slice_get old byte) ≡ cond c (option_map (changed by (kind_at kinds byte)) (slice_get old byte)) (slice_get old byte)
      at byte true low true high = refl
      at byte false low false high = refl
      at byte true low false high = absurd (omega (arith, ltb-true byte lo low, ltb-false byte hi high, order))
      at byte false low true high = sym (ap (λ o. option_map (changed by o) (slice_get old byte)) (none byte (ltb-false byte lo low) (ltb-true byte hi high)) ∙ same (slice_get old byte))

  length_range : (cur : List V) (lo hi : ℕ) → lo ≤ hi → hi ≤ length cur → length (slice_range cur lo hi) ≡ hi - lo
  length_range cur lo hi order within = length-take-le (hi - lo) (drop lo cur) (omega (arith, length-drop lo cur))

  -- bytes that all meet an access of one kind
  pub changed_some : (kind : Kind) (lo hi : ℕ) (old cur new : List V) → lo ≤ hi → hi ≤ length cur → ((byte : ℕ) → lo ≤ byte → byte < hi → kind_at kinds byte ≡ Some kind) → new ≡ splice cur lo hi (map (by kind) (slice_range cur lo hi)) → AreChangedBelow by kinds lo old cur → AreChangedBelow by kinds hi old new
  changed_some kind lo hi old cur new order within some is before = λ byte. ap (λ xs. slice_get xs byte) is ∙ at byte (nat_lt byte lo) refl (nat_lt byte hi) refl (before byte)
    where
      parts : List V
      parts = map (by kind) (slice_range cur lo hi)

      long : length parts ≡ hi - lo
      long = length-map (slice_range cur lo hi) (by kind) ∙ length_range cur lo hi order within

      at : (byte : ℕ) (b : Bool) → nat_lt byte lo ≡ b → (c : Bool) → nat_lt byte hi ≡ c → slice_get cur byte ≡ cond (nat_lt byte lo) (option_map (changed by (kind_at kinds byte)) (slice_get old byte)) (slice_get old byte) → slice_get (splice cur lo hi parts) byte ≡ cond c (option_map (changed by (kind_at kinds byte)) (slice_get old byte)) (slice_get old byte)
      at byte true low true high was =
          slice_get-splice_before cur parts lo hi byte (ltb-true byte lo low) (omega (arith, within, order)) ∙ was ∙ ap (λ b. cond b (option_map (changed by (kind_at kinds byte)) (slice_get old byte)) (slice_get old byte)) low
      at byte true low false high was = absurd (omega (arith, ltb-true byte lo low, ltb-false byte hi high, order))
      at byte false low true high was =
          slice_get-mapped cur (by kind) lo hi byte (ltb-false byte lo low) (ltb-true byte hi high) within
          ∙ ap (option_map (by kind)) (was ∙ ap (λ b. cond b (option_map (changed by (kind_at kinds byte)) (slice_get old byte)) (slice_get old byte)) low)
          ∙ sym (ap (λ o. option_map (changed by o) (slice_get old byte)) (some byte (ltb-false byte lo low) (ltb-true byte hi high)))
      at byte false low false high was =
          slice_get-splice_behind cur parts lo hi byte order (ltb-false byte hi high) within long ∙ was ∙ ap (λ b. cond b (option_map (changed by (kind_at kinds byte)) (slice_get old byte)) (slice_get old byte)) low

  -- what a run's bytes meet
  pub kind_in : (runs : List (Run (Option Kind))) (at : ℕ) (run : Run (Option Kind)) → expanded runs ≡ kinds → StandsAt (length kinds) runs at run → MeetsRun kinds run
  kind_in runs at run has stands = λ byte above below.
      ap (λ ks. kind_at ks byte) (sym has) ∙ ap (option_and_then (λ (kind : Option Kind). kind)) (value_at (length kinds) at byte runs run stands above below)

  pub changed_all : (end : ℕ) (old new : List V) → length old ≤ end → AreChangedBelow by kinds end old new → AreChanged by kinds old new
  changed_all end old new long below = λ byte. below byte ∙ at byte (nat_lt byte end) refl
    where
      at : (byte : ℕ) (b : Bool) → nat_lt byte end ≡ b → cond b (option_map (changed by (kind_at kinds byte)) (slice_get old byte)) (slice_get old byte) ≡ option_map (changed by (kind_at kinds byte)) (slice_get old byte)
      at byte true low = refl
      at byte false high =
          let none : slice_get old byte ≡ None = slice_get_past old byte (omega (arith, long, ltb-false byte end high)) in
          none ∙ sym (ap (option_map (changed by (kind_at kinds byte))) none)

-- a run of a list of runs, by its place
pub run_stands : {V : Type 0} (size at : ℕ) (runs : List (Run V)) (d : Run V) → AreRuns size runs → at < length runs → StandsAt size runs at (get_or runs at d)
run_stands size at runs d are within = stands_at size at runs (get_or runs at d) are within (get_or_default runs at d (get_or runs at d) within)

-- a run more
pub changed_more : {V : Type 0} (by : Kind → V → V) (kinds : List (Option Kind)) (runs : List (Run (Option Kind))) (at : ℕ) (d : Run (Option Kind)) (old cur new : List V) → AreRuns (length kinds) runs → expanded runs ≡ kinds → at < length runs → (MeetsRun kinds (get_or runs at d) → AreChangedBelow by kinds (get_or runs at d).lo old cur → AreChangedBelow by kinds (get_or runs at d).hi old new) → AreChangedBelow by kinds (end_of 0 (take at runs)) old cur → AreChangedBelow by kinds (end_of 0 (take (at + 1) runs)) old new
changed_more by kinds runs at d old cur new are has within step before =
    let stands = run_stands (length kinds) at runs d are within in
    subst (λ n. AreChangedBelow by kinds n old new) stands.to
    (step (kind_in by kinds runs at (get_or runs at d) has stands) (subst (λ n. AreChangedBelow by kinds n old cur) (sym stands.from) before))

-- all runs
pub changed_whole : {V : Type 0} (by : Kind → V → V) (kinds : List (Option Kind)) (runs : List (Run (Option Kind))) (at : ℕ) (old new : List V) → AreRuns (length kinds) runs → length kinds ≡ length old → length runs ≤ at → AreChangedBelow by kinds (end_of 0 (take at runs)) old new → AreChanged by kinds old new
changed_whole by kinds runs at old new are sizes done before =
    changed_all by kinds (end_of 0 (take at runs)) old new (omega (arith, sizes, ap (end_of 0) (take_all at runs done), ends None 0 (length kinds) runs are)) before

-- what holds wherever a call fails
pub on_err_from : {T E P : Type 0} (r : Result T E) → P → OnErr r P
on_err_from (Ok x) p = tt
on_err_from (Err e) p = p
