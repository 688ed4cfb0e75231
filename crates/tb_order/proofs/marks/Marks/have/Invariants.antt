use Rattle.std.proofs.Common.{◌≡◌, drop}
use Rattle.tb_order.specs.Graph.{are_among}
use Rattle.tb_order.proofs.marks.Marks.have.Given as goal

abbrev pub invariant-loop-node : goal.invariant-loop-node
invariant-loop-node l = are_among (drop l.node-index l.nodes) l.self.nodes.items ≡ are_among l.nodes l.self.nodes.items
