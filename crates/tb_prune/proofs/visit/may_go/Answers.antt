use Rattle.tb_prune.proofs.Children.{child_has, may_not}
use Rattle.tb_prune.proofs.visit.may_go.Goals as goal

pub covers-requires-clause-child : goal.covers-requires-clause-child
covers-requires-clause-child g c = child_has (g.T.BorrowTree.rows c.args.tree.now) c.in-Some.child.0 c.args.tag.0 c.in-Some.ensures.only.0

pub returns-clause-not : goal.returns-clause-not
returns-clause-not g c off = may_not (g.T.BorrowTree.extent c.args.tree.now) (g.T.BorrowTree.rows c.args.tree.now) c.args.tag.0 c.in-Some.child.0 c.is_leaf.result c.covers.result c.if-is_leaf.false c.is_leaf.ensures c.in-Some.ensures.only c.covers.ensures off
