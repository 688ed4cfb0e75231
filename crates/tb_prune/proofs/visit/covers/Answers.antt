use Rattle.std.proofs.Common.{subst, ◌↔◌, IsTrue}
use Rattle.tb_perm.specs.Pruning.{Folds}
use Rattle.tb_prune.proofs.visit.covers.Goals as goal

pub returns : goal.returns
returns g c = subst (λ b. IsTrue c.folds.result ↔ Folds (g.T.BorrowTree.rows c.args.tree.now) (g.T.BorrowTree.extent c.args.tree.now) c.args.tag.0 c.args.child.0 b) c.guarded-held.ensures c.folds.ensures
