use Rattle.tb_perm.specs.Rows.{HasTag}
use Rattle.tb_borrow_cases.proofs.play.tags.Given as goal

abbrev pub invariant-loop-tags : goal.invariant-loop-tags
invariant-loop-tags g l = HasTag (g.T.BorrowTree.rows l.tree) l.at.0

abbrev pub decreases-loop-tags : goal.decreases-loop-tags
decreases-loop-tags g l = l.at.0
