use Rattle.tb_shape.proofs.Climb.{Climbs}
use Rattle.tb_shape.proofs.entries.climb.Given as goal

abbrev pub invariant-loop-at : goal.invariant-loop-at
invariant-loop-at l = Climbs l.entries l.start l.at l.path.items

abbrev pub decreases-loop-at : goal.decreases-loop-at
decreases-loop-at l = l.at.depth
