use Rattle.std.proofs.Common.{◌∙◌, refl, sym, ap, subst, Some, None}
use Rattle.std.specs.Prelude.{Ok, Err}
use Rattle.tb_perm.specs.declared.report.Access.TheVariants.{Reborrow}
use Rattle.tb_perm.specs.declared.report.TreeError.TheVariants.{Borrow}
use Rattle.tb_perm.specs.declared.report.Report.{Report}
use Rattle.tb_perm.specs.Reborrow.{reborrow_event, reborrow_report}
use Rattle.tb_shape.specs.Tree.{HasKey, with_child}
use Rattle.tb_shape.proofs.Climb.{none_from}
use Rattle.tb_plain.specs.declared.row.PlainRow.{PlainRow}
use Rattle.tb_plain.specs.Plain.{rows_in}
use Rattle.tb_plain.proofs.Fitting.{all_sized, key_there}
use Rattle.tb_plain.proofs.Reports.{report-fits}
use Rattle.tb_plain.proofs.Made.{all_below, fresh_key, rows_made, notes_made, IsPlain-made, old_or_made}
use Rattle.tb_plain.proofs.Outcomes.{outcome_answer}
use Rattle.tb_plain.proofs.changes.retag_in.Goals as goal

pub returns-in_default-clause-torn : goal.returns-in_default-clause-torn
returns-in_default-clause-torn c = old_or_made _ _ c.args.size c.args.new refl

pub choose-requires : goal.choose-requires
choose-requires c = rw c.deref-2.ensures.value (all_sized c.args.shape.now c.args.rows.now.items c.args.size c.requires.plain)

pub returns-in-Some-clause-answer : goal.returns-in-Some-clause-answer
returns-in-Some-clause-answer c =
    let fits = rw c.deref.ensures.value at c.in-Ok.ensures.fits in
    let told = rw c.deref-2.ensures.value at c.choose.ensures in
    outcome_answer {T = Unit {0}} (Err (Borrow c.in-Some.report)) (Some c.in-Some.report) (reborrow_report (rows_in c.args.shape.now c.args.rows.now.items) c.args.size c.args.new)
    (report-fits c.args.shape.now c.args.rows.now.items c.args.size (reborrow_event c.args.new) c.in-Ok.sweep Reborrow c.requires.plain fits c.in-Ok.ensures.table ∙ sym told ∙ c.in-Some.is)
    refl

pub returns-in_default-make_row-clause-torn : goal.returns-in_default-make_row-clause-torn
returns-in_default-make_row-clause-torn c = old_or_made _ _ c.args.size c.args.new refl

pub add_row-requires-clause-parent : goal.add_row-requires-clause-parent
add_row-requires-clause-parent c = key_there c.args.shape.now c.args.rows.now.items c.args.size c.args.new.parent.0 c.requires.plain c.requires.parent

pub add_row-requires-clause-fresh : goal.add_row-requires-clause-fresh
add_row-requires-clause-fresh c = λ has.
    fresh_key c.args.new.tag.0 c.args.shape.now (all_below c.args.shape.now c.args.rows.now.items c.args.size c.args.new.tag.0 c.requires.plain c.requires.above)
    (subst (λ (r : PlainRow). HasKey c.args.shape.now r.tag.0) c.in-Ok-make_row.ensures has)

pub returns-in-Ok-add_row-clause-moved : goal.returns-in-Ok-add_row-clause-moved
returns-in-Ok-add_row-clause-moved c =
    let fits = rw c.deref.ensures.value at c.in-Ok.ensures.fits in
    rows_made c.args.shape.now c.args.rows.now.items c.args.size c.args.new c.in-Ok-make_row.row c.in-Ok.sweep c.requires.plain c.requires.parent c.requires.above fits c.in-Ok-make_row.ensures _ _
    (c.in-Ok-add_row.ensures.shape ∙ ap (λ (r : PlainRow). with_child c.args.new.parent.0 r.tag.0 c.args.shape.now) c.in-Ok-make_row.ensures)
    c.in-Ok-add_row.ensures.rows

pub returns-in-Ok-add_row-clause-answer : goal.returns-in-Ok-add_row-clause-answer
returns-in-Ok-add_row-clause-answer c =
    let fits = rw c.deref.ensures.value at c.in-Ok.ensures.fits in
    let told = rw c.deref-2.ensures.value at c.choose.ensures in
    outcome_answer {T = Unit {0}} (Ok tt) None (reborrow_report (rows_in c.args.shape.now c.args.rows.now.items) c.args.size c.args.new)
    (report-fits c.args.shape.now c.args.rows.now.items c.args.size (reborrow_event c.args.new) c.in-Ok.sweep Reborrow c.requires.plain fits c.in-Ok.ensures.table ∙ sym told ∙ none_from {A = Report} _ c.in_default-choose.not-Some)
    tt

pub returns-in-Ok-add_row-clause-notes : goal.returns-in-Ok-add_row-clause-notes
returns-in-Ok-add_row-clause-notes c =
    let fits = rw c.deref.ensures.value at c.in-Ok.ensures.fits in
    notes_made c.args.shape.now c.args.rows.now.items c.args.size c.args.new c.in-Ok-make_row.row c.in-Ok.sweep c.requires.plain c.requires.parent c.requires.above fits c.in-Ok-make_row.ensures _
    c.in-Ok-add_row.ensures.rows

pub returns-in-Ok-add_row-clause-plain : goal.returns-in-Ok-add_row-clause-plain
returns-in-Ok-add_row-clause-plain c =
    let fits = rw c.deref.ensures.value at c.in-Ok.ensures.fits in
    IsPlain-made c.args.shape.now c.args.rows.now.items c.args.size c.args.new c.in-Ok-make_row.row c.in-Ok.sweep c.requires.plain c.requires.parent c.requires.above fits c.in-Ok-make_row.ensures _ _
    (c.in-Ok-add_row.ensures.shape ∙ ap (λ (r : PlainRow). with_child c.args.new.parent.0 r.tag.0 c.args.shape.now) c.in-Ok-make_row.ensures)
    c.in-Ok-add_row.ensures.rows

pub returns-clause-torn : goal.returns-clause-torn
returns-clause-torn c =
    old_or_made _ _ c.args.size c.args.new (ap (rows_in c.add_row.new.shape) c.in-Err.ensures.kept ∙ ap (λ t. rows_in t c.args.rows.now.items) c.in-Err.ensures.kept_shape)
