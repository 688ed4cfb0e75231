use Rattle.std.proofs.Common.{◌-◌, take, drop}
use Rattle.tb_walk.proofs.Seeds.{AreSeeds}
use Rattle.tb_walk.proofs.visits.seed.Given as goal

abbrev pub invariant-loop-at : goal.invariant-loop-at
invariant-loop-at l = AreSeeds l.shape l.path (take (l.at - l.from) (drop l.from l.path)) l.keys.items
