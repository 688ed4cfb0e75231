use Rattle.std.proofs.Common.{◌-◌}
use Rattle.tb_walk.specs.Walk.{counted}
use Rattle.tb_walk.proofs.Spread.{IsSpread}
use Rattle.tb_walk.proofs.visits.spread.Given as goal

abbrev pub invariant-loop-at : goal.invariant-loop-at
invariant-loop-at g l =
    IsSpread l.shape l.path l.from (g.T.EventTags.shut l.tags) (g.T.EventTags.refused l.tags) l.at l.keys.items l.best l.initial.steps l.steps

abbrev pub decreases-loop-at : goal.decreases-loop-at
decreases-loop-at g l = counted l.shape l.path (g.T.EventTags.shut l.tags) - l.at
