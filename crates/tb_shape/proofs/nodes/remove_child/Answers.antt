use Rattle.std.proofs.Common.{sym, refl}
use Rattle.tb_shape.proofs.Counts.{ChangesNode-with_value}
use Rattle.tb_shape.proofs.nodes.remove_child.Goals as goal

pub returns-in-Some : goal.returns-in-Some
returns-in-Some c = ChangesNode-with_value _ _ c.in-Some.node.now _ _ _ (sym c.in-Some.ensures.value) refl c.take_out.ensures.counts
