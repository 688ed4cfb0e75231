use Rattle.std.proofs.Common.{◌≡◌, length}
use Rattle.tb_order.specs.Graph.{graph_of, IsOrder}
use Rattle.tb_order.proofs.Orders.{AreStuckBelow}
use Rattle.tb_order.proofs.placing.round.Given as goal

abbrev pub invariant-loop-node : goal.invariant-loop-node
invariant-loop-node l =
    record {
      order : IsOrder (graph_of l.graph) l.marks.nodes.items;
      stuck : AreStuckBelow (graph_of l.graph) (length l.initial.marks.nodes.items) l.node l.marks.nodes.items;
      count : length l.marks.flags.items ≡ length l.graph;
    }
