use Rattle.std.proofs.Common.{subst, Ok, Err}
use Rattle.tb_perm.specs.declared.report.TreeError.TheVariants.{Borrow}
use Rattle.tb_perm.specs.Answer.{Answers}
use Rattle.tb_perm.specs.Reborrow.{reborrowed, reborrow_report}
use Rattle.tb_forest.specs.Forest.{TreeRows}
use Rattle.tb_forest.proofs.Turning.{was, turned, unturned, felled_is}
use Rattle.tb_forest.proofs.forest.Forest.retag.Goals as goal

pub returns-in-Ok-clause-moved : goal.returns-in-Ok-clause-moved
returns-in-Ok-clause-moved g c =
    turned g.T.BorrowTree.rows g.T.BorrowTree.extent g.T.BorrowTree.notes c.self.inside.trees.items c.take.new.trees.items c.put.new.trees.items c.args.id.0 c.take.result c.in-Some.tree c.retag.new.self c.args.self.now (λ (tree : TreeRows). reborrowed tree.rows tree.size c.args.new)
    c.self.view_is c.take.ensures.tree c.in-Some.is c.take.ensures.trees c.put.ensures c.in-Ok.ensures.continues.same_extent c.in-Ok.ensures.moved

pub returns-in-Ok-clause-answer : goal.returns-in-Ok-clause-answer
returns-in-Ok-clause-answer g c =
    subst (λ (tree : TreeRows). Answers (reborrow_report tree.rows tree.size c.args.new) (Ok tt)) (was g.T.BorrowTree.rows g.T.BorrowTree.extent g.T.BorrowTree.notes c.self.inside.trees.items c.args.id.0 c.take.result c.in-Some.tree c.args.self.now c.self.view_is c.take.ensures.tree c.in-Some.is) c.in-Ok.ensures.answer

pub returns-in-Err-Borrow-clause-answer : goal.returns-in-Err-Borrow-clause-answer
returns-in-Err-Borrow-clause-answer g c =
    subst (λ (tree : TreeRows). Answers {T = Unit {0}} (reborrow_report tree.rows tree.size c.args.new) (Err (Borrow c.in-Err-Borrow.report))) (was g.T.BorrowTree.rows g.T.BorrowTree.extent g.T.BorrowTree.notes c.self.inside.trees.items c.args.id.0 c.take.result c.in-Some.tree c.args.self.now c.self.view_is c.take.ensures.tree c.in-Some.is) (rw c.in-Err-Borrow.field-0-is at c.in-Err-Borrow.ensures.answer)

pub returns-in-Err-Borrow-clause-refused : goal.returns-in-Err-Borrow-clause-refused
returns-in-Err-Borrow-clause-refused g c =
    unturned g.T.BorrowTree.rows g.T.BorrowTree.extent g.T.BorrowTree.notes c.self.inside.trees.items c.take.new.trees.items c.put-in-Err-Borrow.new.trees.items c.args.id.0 c.take.result c.in-Some.tree c.retag.new.self c.args.self.now
    c.self.view_is c.requires.number c.requires.given c.take.ensures.tree c.in-Some.is c.take.ensures.trees c.put-in-Err-Borrow.ensures c.in-Err-Borrow.ensures.continues.same_extent (rw c.in-Err-Borrow.field-0-is at c.in-Err-Borrow.ensures.refused)

pub returns-in-Err-Memory-clause-gone : goal.returns-in-Err-Memory-clause-gone
returns-in-Err-Memory-clause-gone g c = felled_is g.T.BorrowTree.rows g.T.BorrowTree.extent g.T.BorrowTree.notes c.self.inside.trees.items c.take.new.trees.items c.args.id.0 c.args.self.now c.self.view_is c.take.ensures.trees
