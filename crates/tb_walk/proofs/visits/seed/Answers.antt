use Rattle.std.proofs.Common.{arith}
use Rattle.tb_walk.proofs.Seeds.{seeds_step}
use Rattle.tb_walk.proofs.visits.seed.Goals as goal

pub loop-at-preserved : goal.loop-at-preserved
loop-at-preserved c =
    seeds_step c.args.shape.now c.args.path.now c.loop-at.keys.items c.add_children.new.keys.items c.children.result.now c.args.from c.loop-at.at c.requires.way (omega arith) (omega arith) _ c.key_before.ensures c.children.ensures.children c.loop-at.invariant c.in_ok-add_children.ensures
