use Rattle.tb_perm.specs.Release.{release_event}
use Rattle.tb_perm.specs.declared.report.Access.TheVariants.{CallEnd}
use Rattle.tb_perm.proofs.Kept.{Between-old_after}
use Rattle.tb_plain.specs.Plain.{rows_in}
use Rattle.tb_plain.proofs.Fitting.{all_sized}
use Rattle.tb_plain.proofs.Reports.{report-fits}
use Rattle.tb_plain.proofs.Outcomes.{outcome_moved, outcome_notes, outcome_plain, outcome_torn, outcome_refused, outcome_answer}
use Rattle.tb_plain.proofs.events.release_in.Goals as goal

pub returns-in_default-clause-torn : goal.returns-in_default-clause-torn
returns-in_default-clause-torn c = Between-old_after (release_event (rows_in c.args.shape.now c.args.rows.now.items) c.args.tag.0) (rows_in c.args.shape.now c.args.rows.now.items)

pub carry_out-requires : goal.carry_out-requires
carry_out-requires c = all_sized c.args.shape.now c.args.rows.now.items c.args.size c.requires.plain

pub returns-clause-moved : goal.returns-clause-moved
returns-clause-moved c = outcome_moved c.args.shape.now c.args.rows.now.items _ c.args.size (release_event (rows_in c.args.shape.now c.args.rows.now.items) c.args.tag.0) c.in-Ok.sweep c.requires.plain (rw c.deref.ensures.value at c.in-Ok.ensures.fits) c.carry_out.result c.carry_out.ensures.moved

pub returns-clause-answer : goal.returns-clause-answer
returns-clause-answer c = outcome_answer c.carry_out.result _ _ (report-fits c.args.shape.now c.args.rows.now.items c.args.size (release_event (rows_in c.args.shape.now c.args.rows.now.items) c.args.tag.0) c.in-Ok.sweep CallEnd c.requires.plain (rw c.deref.ensures.value at c.in-Ok.ensures.fits) c.in-Ok.ensures.table) c.carry_out.ensures.answer

pub returns-clause-refused : goal.returns-clause-refused
returns-clause-refused c = outcome_refused c.args.shape.now c.args.rows.now.items _ c.carry_out.result c.carry_out.ensures.kept

pub returns-clause-torn : goal.returns-clause-torn
returns-clause-torn c = outcome_torn c.args.shape.now c.args.rows.now.items _ (release_event (rows_in c.args.shape.now c.args.rows.now.items) c.args.tag.0) c.carry_out.result c.carry_out.ensures.kept

pub returns-clause-notes : goal.returns-clause-notes
returns-clause-notes c = outcome_notes c.args.shape.now c.args.rows.now.items _ c.args.size (release_event (rows_in c.args.shape.now c.args.rows.now.items) c.args.tag.0) c.in-Ok.sweep c.requires.plain (rw c.deref.ensures.value at c.in-Ok.ensures.fits) c.carry_out.result c.carry_out.ensures.moved c.carry_out.ensures.kept

pub returns-clause-plain : goal.returns-clause-plain
returns-clause-plain c = outcome_plain c.args.shape.now c.args.rows.now.items _ c.args.size (release_event (rows_in c.args.shape.now c.args.rows.now.items) c.args.tag.0) c.in-Ok.sweep c.requires.plain (rw c.deref.ensures.value at c.in-Ok.ensures.fits) c.carry_out.result c.carry_out.ensures.moved c.carry_out.ensures.kept
