use Rattle.std.proofs.Common.{◌≡◌}
use Rattle.tb_borrow_cases.proofs.play.misses_on.Given as goal

abbrev pub invariant-loop-number : goal.invariant-loop-number
invariant-loop-number g l = g.T.BorrowTree.extent l.tree ≡ l.size
