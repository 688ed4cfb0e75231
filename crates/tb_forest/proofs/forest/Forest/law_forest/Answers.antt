use Rattle.std.proofs.Common.{subst, List, ℕ}
use Rattle.tb_perm.specs.Rows.{HasTag, IsRows}
use Rattle.tb_forest.specs.Forest.{TreeRows, tree_at}
use Rattle.tb_forest.proofs.Turning.{all_rows}
use Rattle.tb_forest.proofs.forest.Forest.law_forest.Goals as goal

pub returns : goal.returns
returns g c =
    subst (λ (forest : List TreeRows). (number t : ℕ) → HasTag (tree_at forest number).rows t → IsRows (tree_at forest number).size (tree_at forest number).rows) c.self.view_is
    (all_rows g.T.BorrowTree.rows g.T.BorrowTree.extent g.T.BorrowTree.notes c.self.inside.trees.items c.self.invariant)
