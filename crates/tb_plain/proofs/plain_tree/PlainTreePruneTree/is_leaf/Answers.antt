use Rattle.std.proofs.Common.{◌↔◌, subst, IsTrue}
use Rattle.tb_perm.specs.Pruning.{IsLeaf}
use Rattle.tb_plain.specs.Plain.{Plain}
use Rattle.tb_plain.proofs.plain_tree.PlainTreePruneTree.is_leaf.Goals as goal

pub returns : goal.returns
returns c = subst (λ (t : Plain). IsTrue c.is_leaf_in.result ↔ IsLeaf t.rows c.args.tag.0) c.self.view_is (rw c.deref.ensures.value at c.is_leaf_in.ensures)
