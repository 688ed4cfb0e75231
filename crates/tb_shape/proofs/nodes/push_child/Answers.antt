use Rattle.std.proofs.Common.{sym, refl}
use Rattle.tb_shape.proofs.Counts.{ChangesNode-with_value, Recounts-push, Recounts-same}
use Rattle.tb_shape.proofs.nodes.push_child.Goals as goal

pub returns-in-Ok-clause-ok : goal.returns-in-Ok-clause-ok
returns-in-Ok-clause-ok c =
    ChangesNode-with_value _ _ c.in-Some.node.now _ _ _ (sym c.in-Some.ensures.value) refl (rw c.in-Ok.ensures.ok (Recounts-push c.in-Some.node.now.children.items c.args.child))

pub returns-in-Err-clause-err : goal.returns-in-Err-clause-err
returns-in-Err-clause-err c =
    ChangesNode-with_value _ _ c.in-Some.node.now _ _ _ (sym c.in-Some.ensures.value) refl (rw c.in-Err.ensures.err (Recounts-same c.in-Some.node.now.children.items))
