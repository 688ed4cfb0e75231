use Rattle.std.proofs.Common.{arith}
use Rattle.tb_walk.proofs.Spread.{way_bound, spread_walk}
use Rattle.tb_walk.proofs.visits.walk.Goals as goal

pub returns-in_err-seed-clause-counted : goal.returns-in_err-seed-clause-counted
returns-in_err-seed-clause-counted g c = omega (arith, way_bound c.args.shape.now c.args.path.now c.args.from (g.T.EventTags.shut c.args.tags.now) c.requires.tree c.requires.way)

pub returns-clause-walk : goal.returns-clause-walk
returns-clause-walk g c = spread_walk c.args.shape.now c.args.path.now c.args.from (g.T.EventTags.shut c.args.tags.now) c.requires.tree c.requires.way c.spread.new.keys.items c.in_ok-blame.ensures.walk
