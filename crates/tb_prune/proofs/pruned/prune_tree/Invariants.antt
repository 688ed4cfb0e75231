use Rattle.std.proofs.Common.{◌≡◌}
use Rattle.tb_perm.specs.Rows.{HasTag}
use Rattle.tb_perm.specs.Calls.{IsTree}
use Rattle.tb_prune.specs.Rounds.{Decided}
use Rattle.tb_prune.proofs.pruned.prune_tree.Given as goal

abbrev pub invariant-loop-next : goal.invariant-loop-next
invariant-loop-next g l =
    Decided (g.T.BorrowTree.extent l.fn.tree) (g.T.BorrowTree.rows l.fn.tree) (g.T.BorrowTree.notes l.fn.tree) l.tag.0 (g.T.BorrowTree.rows l.tree) (g.T.BorrowTree.notes l.tree)
    × HasTag (g.T.BorrowTree.rows l.tree) l.tag.0
    × (g.T.BorrowTree.extent l.tree ≡ g.T.BorrowTree.extent l.fn.tree)
    × IsTree (g.T.BorrowTree.extent l.tree) (g.T.BorrowTree.rows l.tree) (g.T.BorrowTree.notes l.tree)

abbrev pub decreases-loop-next : goal.decreases-loop-next
decreases-loop-next g l = l.tag.0
