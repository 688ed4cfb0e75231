use Rattle.std.proofs.Common.{sym, refl}
use Rattle.tb_shape.proofs.Counts.{ChangesNode-with_value, Recounts-swap}
use Rattle.tb_shape.proofs.nodes.swap_child.Goals as goal

pub returns-in-Some : goal.returns-in-Some
returns-in-Some c =
    ChangesNode-with_value _ _ c.in-Some.node.now _ _ _ (sym c.in-Some.ensures.value) refl
    (rw c.push_reserved.ensures.items (Recounts-swap c.in-Some.node.now.children.items c.take_out.new.children.items c.args.old c.args.new c.take_out.ensures.counts))
