use Rattle.tb_forest.proofs.Turning.{felled_is}
use Rattle.tb_forest.proofs.forest.Forest.clear.Goals as goal

pub returns : goal.returns
returns g c = felled_is g.T.BorrowTree.rows g.T.BorrowTree.extent g.T.BorrowTree.notes c.self.inside.trees.items c.take-tree.new.trees.items c.args.id.0 c.args.self.now c.self.view_is c.take-tree.ensures.trees
