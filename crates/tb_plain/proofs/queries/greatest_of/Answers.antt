use Rattle.tb_plain.proofs.Pruned.{has_tag_of, greatest_all, never_none}
use Rattle.tb_plain.proofs.queries.greatest_of.Goals as goal

pub unreachable-requires : goal.unreachable-requires
unreachable-requires c = never_none c.args.shape.now c.args.rows.now c.args.size c.requires c.in-None.ensures

pub returns-clause-there : goal.returns-clause-there
returns-clause-there c = has_tag_of c.args.shape.now c.args.rows.now c.in-Some.tag.0 c.in-Some.ensures.0

pub returns-clause-greatest : goal.returns-clause-greatest
returns-clause-greatest c = greatest_all c.args.shape.now c.args.rows.now c.in-Some.tag c.in-Some.ensures
