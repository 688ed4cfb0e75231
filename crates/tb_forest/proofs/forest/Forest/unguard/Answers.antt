use Rattle.tb_perm.specs.Rows.{unguarded}
use Rattle.tb_forest.specs.Forest.{TreeRows}
use Rattle.tb_forest.proofs.Turning.{turned}
use Rattle.tb_forest.proofs.forest.Forest.unguard.Goals as goal

pub returns : goal.returns
returns g c =
    turned g.T.BorrowTree.rows g.T.BorrowTree.extent g.T.BorrowTree.notes c.self.inside.trees.items c.take.new.trees.items c.put.new.trees.items c.args.id.0 c.take.result c.in-Some.tree c.unguard.new.self c.args.self.now (λ (tree : TreeRows). unguarded tree.rows c.args.tag.0)
    c.self.view_is c.take.ensures.tree c.in-Some.is c.take.ensures.trees c.put.ensures c.unguard.ensures.continues.same_extent c.unguard.ensures.rows
