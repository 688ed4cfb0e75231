use Rattle.std.proofs.Common.{length}
use Rattle.tb_value.proofs.Spreading.{leaf_within}
use Rattle.tb_value.proofs.leaves.copy_parts.Goals as goal

pub put_leaf-requires-clause-end : goal.put_leaf-requires-clause-end
put_leaf-requires-clause-end c = leaf_within c.args.types.now c.loop-leaf.at (length c.args.bytes.now) c.args.leaves.now c.loop-leaf.leaf-index _ c.loop-leaf-test.true c.loop-leaf.invariant.spread
