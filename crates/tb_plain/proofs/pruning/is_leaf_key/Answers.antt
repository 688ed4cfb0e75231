use Rattle.tb_plain.proofs.Pruned.{leaf_tells}
use Rattle.tb_plain.proofs.pruning.is_leaf_key.Goals as goal

pub returns : goal.returns
returns c = leaf_tells c.args.shape.now c.args.tag.0 c.children.result.now c.is_empty.result c.children.ensures.children c.is_empty.ensures
