use Rattle.tb_plain.proofs.Pruned.{only_in, never_in}
use Rattle.tb_plain.proofs.queries.only_child_in.Goals as goal

pub returns-in-Some-clause-only : goal.returns-in-Some-clause-only
returns-in-Some-clause-only c = only_in c.args.shape.now c.args.rows.now c.args.size c.args.tag.0 c.in-Some.child c.children.result.now c.requires c.children.ensures.children c.in-Some.ensures.one

pub returns-in-None-clause-none : goal.returns-in-None-clause-none
returns-in-None-clause-none c = never_in c.args.shape.now c.args.rows.now c.args.size c.args.tag.0 c.children.result.now c.requires c.children.ensures.children c.in-None.ensures.none
