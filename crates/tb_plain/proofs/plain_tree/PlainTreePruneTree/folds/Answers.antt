use Rattle.std.proofs.Common.{◌↔◌, subst, IsTrue}
use Rattle.tb_perm.specs.Pruning.{Folds}
use Rattle.tb_plain.specs.Plain.{Plain}
use Rattle.tb_plain.proofs.plain_tree.PlainTreePruneTree.folds.Goals as goal

pub returns : goal.returns
returns c = subst (λ (t : Plain). IsTrue c.folds_in.result ↔ Folds t.rows t.size c.args.tag.0 c.args.child.0 c.args.guarded) c.self.view_is (rw c.deref.ensures.value at c.folds_in.ensures)
