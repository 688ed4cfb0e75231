use Rattle.std.proofs.Common.{◌≡◌, ◌-◌, length}
use Rattle.tb_order.specs.Graph.{graph_of, IsOrder}
use Rattle.tb_order.proofs.placing.place_all.Given as goal

abbrev pub invariant-loop-marks : goal.invariant-loop-marks
invariant-loop-marks l =
    record {
      order : IsOrder (graph_of l.graph) l.marks.nodes.items;
      count : length l.marks.flags.items ≡ length l.graph;
    }

abbrev pub decreases-loop-marks : goal.decreases-loop-marks
decreases-loop-marks l = length l.graph - length l.marks.nodes.items
