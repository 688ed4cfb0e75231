use Rattle.tb_plain.proofs.Pruned.{leaf_in, leaf_out}
use Rattle.tb_plain.proofs.queries.is_leaf_in.Goals as goal

pub returns : goal.returns
returns c = (
  λ h. leaf_in c.args.shape.now c.args.rows.now c.args.size c.args.tag.0 c.requires (c.is_leaf_key.ensures.0 h),
  λ leaf. c.is_leaf_key.ensures.1 (leaf_out c.args.shape.now c.args.rows.now c.args.size c.args.tag.0 c.requires leaf),
)
