use Rattle.std.proofs.Common.{◌≡◌, Ok, Err, ap, ◌∙◌, subst, sym}
use Rattle.tb_perm.specs.declared.new_tag.NewTag.{NewTag}
use Rattle.tb_perm.specs.Answer.{Answers}
use Rattle.tb_perm.specs.Reborrow.{reborrowed, reborrow_report}
use Rattle.tb_heap.specs.Access.{after_retag, retag, new_tag}
use Rattle.tb_heap.specs.Entries.{seen, Turns}
use Rattle.tb_heap.specs.Memory.{Allocation}
use Rattle.tb_heap.proofs.Turns.{did, did_not}
use Rattle.tb_heap.proofs.entry.Entry.retag.Goals as goal

pub returns-in-Ok-clause-turns : goal.returns-in-Ok-clause-turns
returns-in-Ok-clause-turns g c =
    let old : Allocation = seen g.T.BorrowTree.rows c.args.self.now in
    let new : NewTag = new_tag c.args.tag.0 c.args.prov old.size c.args.unique c.args.made in
    let made : NewTag = record new { perm = c.perm-perm.result; outside = c.perm-perm.result; cells = c.new.result } in
    let same : made ≡ new = ap (λ p. record new { perm = p; outside = p; cells = c.new.result }) c.perm-perm.ensures ∙ ap (λ l. record new { cells = l }) c.new.ensures in
    let sized = subst (λ n. Answers {T = Unit {0}} (reborrow_report old.rows n made) (Ok tt)) c.requires.fits c.in-Ok.ensures.answer in
    let answers = subst (λ n. Answers {T = Unit {0}} (reborrow_report old.rows old.size n) (Ok tt)) same sized in
    let moved = c.in-Ok.ensures.moved ∙ ap (λ n. reborrowed old.rows n made) c.requires.fits ∙ ap (λ n. reborrowed old.rows old.size n) same in
    did (reborrow_report old.rows old.size new) c.args.prov (after_retag old new) _ _ answers (ap (λ r. record (after_retag old new) { rows = r }) moved)

pub returns-in-Err-clause-turns : goal.returns-in-Err-clause-turns
returns-in-Err-clause-turns g c =
    let old : Allocation = seen g.T.BorrowTree.rows c.args.self.now in
    let new : NewTag = new_tag c.args.tag.0 c.args.prov old.size c.args.unique c.args.made in
    let made : NewTag = record new { perm = c.perm-perm.result; outside = c.perm-perm.result; cells = c.new.result } in
    let same : made ≡ new = ap (λ p. record new { perm = p; outside = p; cells = c.new.result }) c.perm-perm.ensures ∙ ap (λ l. record new { cells = l }) c.new.ensures in
    let sized = subst (λ n. Answers {T = Unit {0}} (reborrow_report old.rows n made) (Err c.in-Err.error)) c.requires.fits c.in-Err.ensures.answer in
    let answers = subst (λ n. Answers {T = Unit {0}} (reborrow_report old.rows old.size n) (Err c.in-Err.error)) same sized in
    subst (λ stop. Turns (retag c.args.tag.0 c.args.unique c.args.made c.args.prov old) (Err stop) (seen g.T.BorrowTree.rows (record c.args.self.now { tree = c.retag.new.self }))) (sym c.stop.ensures)
    (did_not (reborrow_report old.rows old.size new) c.args.prov (after_retag old new) _ (record { alloc = c.args.prov.alloc; tag = c.args.tag }) c.in-Err.error answers)
