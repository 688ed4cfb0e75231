-- What an event leaves, whether it was carried out or not.
use Rattle.std.proofs.Common.{◌≡◌, ◌∙◌, ℕ, List, map, ap, sym, subst, Option, OnOk, OnErr}
use Rattle.std.specs.Prelude.{Result, Ok, Err}
use Rattle.tb_perm.specs.declared.report.Report.{Report}
use Rattle.tb_perm.specs.declared.report.TreeError.{TreeError}
use Rattle.tb_perm.specs.declared.report.TreeError.TheVariants.{Borrow, Memory}
use Rattle.tb_perm.specs.Event.{Event, after}
use Rattle.tb_perm.specs.Answer.{Answers, OnBorrow, OnMemory, Between}
use Rattle.tb_perm.proofs.Kept.{Between-old_after}
use Rattle.tb_shape.specs.Tree.{Keys}
use Rattle.tb_plain.specs.declared.row.PlainRow.{PlainRow}
use Rattle.tb_plain.specs.declared.sweep.Sweep.{Sweep}
use Rattle.tb_plain.specs.Plain.{rows_in, IsPlain, notes_of}
use Rattle.tb_plain.specs.Fits.{Fits}
use Rattle.tb_plain.specs.Sweep.{swept}
use Rattle.tb_plain.proofs.Reports.{after-swept, notes-swept, IsPlain-swept}

module _ (tree : Keys) (old new : List PlainRow) (size : ℕ) (event : Event) (sweep : Sweep) (is : IsPlain tree old size) (fits : Fits tree old size event sweep) where
  pub outcome_moved : {T : Type 0} (r : Result T TreeError) → OnOk r (new ≡ map (swept sweep) old) → OnOk r (rows_in tree new ≡ after event (rows_in tree old))
  outcome_moved (Ok done) moved = ap (rows_in tree) moved ∙ after-swept tree old size event sweep is fits
  outcome_moved (Err e) moved = tt

  pub outcome_notes : {T : Type 0} (r : Result T TreeError) → OnOk r (new ≡ map (swept sweep) old) → OnErr r (new ≡ old) → notes_of new ≡ notes_of old
  outcome_notes (Ok done) moved kept = ap notes_of moved ∙ notes-swept sweep old
  outcome_notes (Err e) moved kept = ap notes_of kept

  pub outcome_plain : {T : Type 0} (r : Result T TreeError) → OnOk r (new ≡ map (swept sweep) old) → OnErr r (new ≡ old) → IsPlain tree new size
  outcome_plain (Ok done) moved kept = subst (λ rows. IsPlain tree rows size) (sym moved) (IsPlain-swept tree old size event sweep is fits)
  outcome_plain (Err e) moved kept = subst (λ rows. IsPlain tree rows size) (sym kept) is

pub outcome_torn : (tree : Keys) (old new : List PlainRow) (event : Event) {T : Type 0} (r : Result T TreeError) → OnErr r (new ≡ old) → OnMemory r (Between (rows_in tree old) (after event (rows_in tree old)) (rows_in tree new))
outcome_torn tree old new event (Ok done) kept = tt
outcome_torn tree old new event (Err (Borrow report)) kept = tt
outcome_torn tree old new event (Err Memory) kept = subst (λ rows. Between (rows_in tree old) (after event (rows_in tree old)) (rows_in tree rows)) (sym kept) (Between-old_after event (rows_in tree old))

pub outcome_refused : (tree : Keys) (old new : List PlainRow) {T : Type 0} (r : Result T TreeError) → OnErr r (new ≡ old) → OnBorrow r (rows_in tree new ≡ rows_in tree old)
outcome_refused tree old new (Ok done) kept = tt
outcome_refused tree old new (Err (Borrow report)) kept = ap (rows_in tree) kept
outcome_refused tree old new (Err Memory) kept = tt

pub outcome_answer : {T : Type 0} (r : Result T TreeError) (told report : Option Report) → report ≡ told → Answers told r → Answers report r
outcome_answer {T} r told report same answers = subst (λ o. Answers {T = T} o r) (sym same) answers
