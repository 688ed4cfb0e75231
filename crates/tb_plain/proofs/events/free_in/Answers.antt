use Rattle.tb_perm.specs.Access.{access_event}
use Rattle.tb_perm.specs.declared.perm.Kind.TheVariants.{Write}
use Rattle.tb_perm.proofs.Kept.{Between-old_after}
use Rattle.tb_plain.specs.Plain.{rows_in}
use Rattle.tb_plain.proofs.Fitting.{all_sized}
use Rattle.tb_plain.proofs.Reports.{dealloc-fits}
use Rattle.tb_plain.proofs.Outcomes.{outcome_moved, outcome_notes, outcome_plain, outcome_torn, outcome_refused, outcome_answer}
use Rattle.tb_plain.proofs.events.free_in.Goals as goal

pub returns-in_default-clause-torn : goal.returns-in_default-clause-torn
returns-in_default-clause-torn c = Between-old_after (access_event c.args.tag.0 0 c.args.size Write) (rows_in c.args.shape.now c.args.rows.now.items)

pub free_all-requires : goal.free_all-requires
free_all-requires c = all_sized c.args.shape.now c.args.rows.now.items c.args.size c.requires.plain

pub returns-clause-moved : goal.returns-clause-moved
returns-clause-moved c = outcome_moved c.args.shape.now c.args.rows.now.items _ c.args.size (access_event c.args.tag.0 0 c.args.size Write) c.in-Ok.sweep c.requires.plain (rw c.deref.ensures.value at c.in-Ok.ensures.fits) c.free_all.result c.free_all.ensures.moved

pub returns-clause-answer : goal.returns-clause-answer
returns-clause-answer c = outcome_answer c.free_all.result _ _ (dealloc-fits c.args.shape.now c.args.rows.now.items c.args.size c.args.tag.0 c.in-Ok.sweep c.requires.plain (rw c.deref.ensures.value at c.in-Ok.ensures.fits) c.in-Ok.ensures.table) c.free_all.ensures.answer

pub returns-clause-refused : goal.returns-clause-refused
returns-clause-refused c = outcome_refused c.args.shape.now c.args.rows.now.items _ c.free_all.result c.free_all.ensures.kept

pub returns-clause-torn : goal.returns-clause-torn
returns-clause-torn c = outcome_torn c.args.shape.now c.args.rows.now.items _ (access_event c.args.tag.0 0 c.args.size Write) c.free_all.result c.free_all.ensures.kept

pub returns-clause-notes : goal.returns-clause-notes
returns-clause-notes c = outcome_notes c.args.shape.now c.args.rows.now.items _ c.args.size (access_event c.args.tag.0 0 c.args.size Write) c.in-Ok.sweep c.requires.plain (rw c.deref.ensures.value at c.in-Ok.ensures.fits) c.free_all.result c.free_all.ensures.moved c.free_all.ensures.kept

pub returns-clause-plain : goal.returns-clause-plain
returns-clause-plain c = outcome_plain c.args.shape.now c.args.rows.now.items _ c.args.size (access_event c.args.tag.0 0 c.args.size Write) c.in-Ok.sweep c.requires.plain (rw c.deref.ensures.value at c.in-Ok.ensures.fits) c.free_all.result c.free_all.ensures.moved c.free_all.ensures.kept
