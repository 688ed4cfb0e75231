use Rattle.tb_perm.specs.Rows.{HasTag}
use Rattle.tb_prune_tests.proofs.prunes.has_tag.Given as goal

abbrev pub invariant-loop-at : goal.invariant-loop-at
invariant-loop-at l = HasTag l.tree.rows l.at.0

abbrev pub decreases-loop-at : goal.decreases-loop-at
decreases-loop-at l = l.at.0
