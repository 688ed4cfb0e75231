use Rattle.std.proofs.Common.{subst, Ok, Err}
use Rattle.tb_perm.specs.declared.report.TreeError.TheVariants.{Borrow}
use Rattle.tb_perm.specs.Answer.{Answers}
use Rattle.tb_perm.specs.Deallocation.{dealloc_report}
use Rattle.tb_forest.specs.Forest.{TreeRows}
use Rattle.tb_forest.proofs.Turning.{was, unturned, felled_is}
use Rattle.tb_forest.proofs.forest.Forest.fell.Goals as goal

pub returns-in-Ok-clause-done : goal.returns-in-Ok-clause-done
returns-in-Ok-clause-done g c = felled_is g.T.BorrowTree.rows g.T.BorrowTree.extent g.T.BorrowTree.notes c.self.inside.trees.items c.take.new.trees.items c.args.id.0 c.args.self.now c.self.view_is c.take.ensures.trees

pub returns-in-Ok-clause-answer : goal.returns-in-Ok-clause-answer
returns-in-Ok-clause-answer g c =
    subst (λ (tree : TreeRows). Answers (dealloc_report tree.rows tree.size c.args.tag.0) (Ok tt)) (was g.T.BorrowTree.rows g.T.BorrowTree.extent g.T.BorrowTree.notes c.self.inside.trees.items c.args.id.0 c.take.result c.in-Some.tree c.args.self.now c.self.view_is c.take.ensures.tree c.in-Some.is) c.in-Ok.ensures.answer

pub returns-in-Err-Borrow-clause-answer : goal.returns-in-Err-Borrow-clause-answer
returns-in-Err-Borrow-clause-answer g c =
    subst (λ (tree : TreeRows). Answers {T = Unit {0}} (dealloc_report tree.rows tree.size c.args.tag.0) (Err (Borrow c.in-Err-Borrow.report))) (was g.T.BorrowTree.rows g.T.BorrowTree.extent g.T.BorrowTree.notes c.self.inside.trees.items c.args.id.0 c.take.result c.in-Some.tree c.args.self.now c.self.view_is c.take.ensures.tree c.in-Some.is) (rw c.in-Err-Borrow.field-0-is at c.in-Err-Borrow.ensures.answer)

pub returns-in-Err-Borrow-clause-refused : goal.returns-in-Err-Borrow-clause-refused
returns-in-Err-Borrow-clause-refused g c =
    unturned g.T.BorrowTree.rows g.T.BorrowTree.extent g.T.BorrowTree.notes c.self.inside.trees.items c.take.new.trees.items c.put.new.trees.items c.args.id.0 c.take.result c.in-Some.tree c.dealloc.new.self c.args.self.now
    c.self.view_is c.requires.number c.requires.given c.take.ensures.tree c.in-Some.is c.take.ensures.trees c.put.ensures c.in-Err-Borrow.ensures.continues.same_extent (rw c.in-Err-Borrow.field-0-is at c.in-Err-Borrow.ensures.refused)

pub returns-in-Err-Memory-clause-gone : goal.returns-in-Err-Memory-clause-gone
returns-in-Err-Memory-clause-gone g c = felled_is g.T.BorrowTree.rows g.T.BorrowTree.extent g.T.BorrowTree.notes c.self.inside.trees.items c.take.new.trees.items c.args.id.0 c.args.self.now c.self.view_is c.take.ensures.trees
