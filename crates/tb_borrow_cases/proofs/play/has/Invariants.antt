use Rattle.tb_perm.specs.Rows.{HasTag}
use Rattle.tb_borrow_cases.proofs.play.has.Given as goal

abbrev pub invariant-loop-at : goal.invariant-loop-at
invariant-loop-at g l = HasTag (g.T.BorrowTree.rows l.tree) l.at.0

abbrev pub decreases-loop-at : goal.decreases-loop-at
decreases-loop-at g l = l.at.0
