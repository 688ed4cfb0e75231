use Rattle.std.proofs.Common.{◌≡◌, ◌-◌, length}
use Rattle.tb_order.specs.Graph.{graph_of}
use Rattle.tb_order.proofs.Reaching.{IsFront}
use Rattle.tb_order.proofs.reach.reached.Given as goal

abbrev pub invariant-loop-at : goal.invariant-loop-at
invariant-loop-at l =
    record {
      front : IsFront (graph_of l.graph) l.from l.at l.marks.nodes.items;
      count : length l.marks.flags.items ≡ length l.graph;
    }

abbrev pub decreases-loop-at : goal.decreases-loop-at
decreases-loop-at l = length l.graph - l.at
