use Rattle.std.proofs.Common.{length}
use Rattle.tb_types.specs.declared.shape.IntKind.TheVariants.{I8}
use Rattle.tb_layout.specs.declared.leaf.LeafShape.TheVariants.{Int}
use Rattle.tb_value.proofs.Spreading.{leaf_within, leaves_after}
use Rattle.tb_value.proofs.Steps.{invalid_next}
use Rattle.tb_value.proofs.leaves.invalid_in.Goals as goal

pub bytes_of-requires-clause-end : goal.bytes_of-requires-clause-end
bytes_of-requires-clause-end c = leaf_within c.args.types.now 0 (length c.args.bytes.now) c.args.leaves.now c.loop-leaf.leaf-index _ c.loop-leaf-test.true c.loop-leaf.invariant.spread

pub loop-leaf-preserved : goal.loop-leaf-preserved
loop-leaf-preserved c = record {
  left = invalid_next c.args.types.now c.args.bytes.now c.args.leaves.now c.loop-leaf.leaf-index (record { at = 0; shape = Int I8 }) _ c.loop-leaf-test.true (cc) c.loop-leaf.invariant.left;
  spread = leaves_after c.args.types.now (length c.args.bytes.now) c.args.leaves.now c.loop-leaf.leaf-index (record { at = 0; shape = Int I8 }) c.loop-leaf-test.true c.loop-leaf.invariant.spread;
}
