use Rattle.std.proofs.Common.{◌≡◌, drop}
use Rattle.tb_order.specs.Marks.{are_below}
use Rattle.tb_order.proofs.nodes.are_below.Given as goal

abbrev pub invariant-loop-node : goal.invariant-loop-node
invariant-loop-node l = are_below l.count (drop l.node-index l.nodes) ≡ are_below l.count l.nodes
