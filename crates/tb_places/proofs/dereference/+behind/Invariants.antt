use Rattle.tb_places.proofs.dereference.+behind.Given as goal

abbrev pub decreases-behind : goal.decreases-behind
decreases-behind l = l.depth
