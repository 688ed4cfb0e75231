use Rattle.std.proofs.Common.{Ok, Err, ap, ◌∙◌, subst, sym}
use Rattle.tb_perm.specs.Answer.{Answers}
use Rattle.tb_perm.specs.Deallocation.{deallocated, dealloc_report}
use Rattle.tb_heap.specs.Access.{after_free, free}
use Rattle.tb_heap.specs.Entries.{seen, Turns}
use Rattle.tb_heap.specs.Memory.{Allocation}
use Rattle.tb_heap.proofs.Turns.{did, did_not}
use Rattle.tb_heap.proofs.entry.Entry.free.Goals as goal

pub returns-in-Ok-clause-turns : goal.returns-in-Ok-clause-turns
returns-in-Ok-clause-turns g c =
    let old : Allocation = seen g.T.BorrowTree.rows c.args.self.now in
    let answers = subst (λ n. Answers {T = Unit {0}} (dealloc_report old.rows n c.args.prov.tag.0) (Ok tt)) c.requires.fits c.in-Ok.ensures.answer in
    let moved = c.in-Ok.ensures.moved ∙ ap (λ n. deallocated old.rows n c.args.prov.tag.0) c.requires.fits in
    did (dealloc_report old.rows old.size c.args.prov.tag.0) c.args.prov (after_free old c.args.prov) _ tt answers (ap (λ r. record (after_free old c.args.prov) { rows = r }) moved)

pub returns-in-Err-clause-turns : goal.returns-in-Err-clause-turns
returns-in-Err-clause-turns g c =
    let old : Allocation = seen g.T.BorrowTree.rows c.args.self.now in
    let answers = subst (λ n. Answers {T = Unit {0}} (dealloc_report old.rows n c.args.prov.tag.0) (Err c.in-Err.error)) c.requires.fits c.in-Err.ensures.answer in
    subst (λ stop. Turns (free c.args.prov old) (Err stop) (seen g.T.BorrowTree.rows (record c.args.self.now { tree = c.dealloc.new.self }))) (sym c.stop.ensures)
    (did_not (dealloc_report old.rows old.size c.args.prov.tag.0) c.args.prov (after_free old c.args.prov) _ tt c.in-Err.error answers)
