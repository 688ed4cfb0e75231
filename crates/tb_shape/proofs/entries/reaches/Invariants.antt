use Rattle.tb_shape.proofs.Climb.{Reaches}
use Rattle.tb_shape.proofs.entries.reaches.Given as goal

abbrev pub invariant-loop-at : goal.invariant-loop-at
invariant-loop-at l = Reaches l.entries l.key l.start l.at

abbrev pub decreases-loop-at : goal.decreases-loop-at
decreases-loop-at l = l.at.depth
