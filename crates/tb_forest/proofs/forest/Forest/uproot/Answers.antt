use Rattle.tb_forest.proofs.Turning.{kept_back, taken_back}
use Rattle.tb_forest.proofs.forest.Forest.uproot.Goals as goal

pub returns : goal.returns
returns g c =
    λ front last is. taken_back g.T.BorrowTree.rows g.T.BorrowTree.extent g.T.BorrowTree.notes _ c.self.inside.trees.items c.pop-tree.new.self.items c.args.self.now front last c.self.view_is c.pop-tree.ensures.rest c.self.inside.trees.ok.0 is

pub invariant_of-self : goal.invariant_of-self
invariant_of-self g c = kept_back g.T.BorrowTree.rows g.T.BorrowTree.extent g.T.BorrowTree.notes _ c.self.inside.trees.items c.pop-tree.new.self.items c.self.invariant c.pop-tree.ensures.rest
