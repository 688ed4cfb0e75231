-- A deallocation among the kept rows and among all.
use Rattle.std.proofs.Common.{◌≡◌, ◌∙◌, ◌&&◌, ℕ, Bool, true, false, cond, not, List, refl, ap, sym, Option, Some, None}
use Rattle.std.specs.Prelude.{is_some}
use Rattle.std.specs.Option.{option_or}
use Rattle.tb_perm.specs.declared.perm.Guard.{Guard}
use Rattle.tb_perm.specs.declared.perm.Guard.TheVariants.{Free}
use Rattle.tb_perm.specs.declared.perm.Kind.TheVariants.{Write}
use Rattle.tb_perm.specs.declared.report.Access.TheVariants.{Free as OfFree}
use Rattle.tb_perm.specs.declared.report.Refusal.TheVariants.{StrongDealloc}
use Rattle.tb_perm.specs.declared.report.Report.{Report}
use Rattle.tb_perm.specs.Rows.{Row, HasTag, state_at}
use Rattle.tb_perm.specs.Event.{refusal_at}
use Rattle.tb_perm.specs.Choice.{refuses, report_of}
use Rattle.tb_perm.specs.Access.{access_event}
use Rattle.tb_perm.specs.Reborrow.{is_cell}
use Rattle.tb_perm.specs.Deallocation.{is_strong, strong_refusal, deallocated, dealloc_report}
use Rattle.tb_perm.proofs.Found.{guard_in-found}
use Rattle.tb_perm.proofs.Removed.{find_has}
use Rattle.tb_stands.specs.Restricted.{restricted}
use Rattle.tb_stands.specs.Stands.{StandsBy}
use Rattle.tb_stands.proofs.Reports.{Among, report_same}
use Rattle.tb_stands.proofs.AnyEvent.{event_report, event_stands}
use Rattle.tb_stands.proofs.Seen.{access_seen}

first_none : (a b : Option Report) → option_or a b ≡ None → a ≡ None
first_none None b none = refl
first_none (Some report) b none = cc

module _ (kept : ℕ → Bool) (size : ℕ) (rows : List Row) (t : ℕ) (stands : StandsBy kept size (restricted kept rows) rows) (has : HasTag rows t) (keeps : kept t ≡ true) where
  -- a tag that is left out has no strong guard
  never : (r : Row) (byte : ℕ) → Among rows r → kept r.tag ≡ false → refuses strong_refusal byte r ≡ true → ⊥
  never r byte among drops refused =
      let free : r.guard ≡ Free = sym (guard_in-found rows r.tag r among) ∙ stands.free r.tag (find_has rows r.tag r among) drops in
      let clash : false ≡ true = sym (ap (λ (g : Guard). is_some (cond (is_strong g && (state_at r byte).accessed && not (is_cell (state_at r byte).perm)) (Some StrongDealloc) None)) free) ∙ refused in
      cc

  strong_same : report_of strong_refusal OfFree size (restricted kept rows) t ≡ report_of strong_refusal OfFree size rows t
  strong_same =
      report_same kept size rows t strong_refusal strong_refusal stands.sound keeps
      (record { same = λ r keeps byte. refl; blame = λ r byte within among drops refused. absurd (never r byte among drops refused) })
      OfFree

  write_same : report_of (refusal_at (restricted kept rows) (access_event t 0 size Write)) OfFree size (restricted kept rows) t ≡ report_of (refusal_at rows (access_event t 0 size Write)) OfFree size rows t
  write_same = event_report kept size rows stands (access_event t 0 size Write) (access_event t 0 size Write) (access_seen kept rows t 0 size Write has keeps) OfFree

  pub free_same : dealloc_report (restricted kept rows) size t ≡ dealloc_report rows size t
  free_same =
      ap (λ o. option_or o (report_of strong_refusal OfFree size (restricted kept rows) t)) write_same
      ∙ ap (option_or (report_of (refusal_at rows (access_event t 0 size Write)) OfFree size rows t)) strong_same

  pub free_stands : dealloc_report (restricted kept rows) size t ≡ None → StandsBy kept size (deallocated (restricted kept rows) size t) (deallocated rows size t)
  free_stands none =
      event_stands kept size rows stands (access_event t 0 size Write) (access_event t 0 size Write) (access_seen kept rows t 0 size Write has keeps) OfFree
      (sym write_same ∙ first_none (report_of (refusal_at (restricted kept rows) (access_event t 0 size Write)) OfFree size (restricted kept rows) t) (report_of strong_refusal OfFree size (restricted kept rows) t) none)
