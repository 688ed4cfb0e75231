use Rattle.std.proofs.Common.{ℕ, List, sym, subst}
use Rattle.tb_order.specs.Graph.{graph_of, IsOrder}
use Rattle.tb_order.specs.Graph.IsOrder.{Nothing}
use Rattle.tb_order.proofs.placing.place_all.Goals as goal

pub loop-marks-init : goal.loop-marks-init
loop-marks-init c =
    record {
      order = subst (λ (nodes : List ℕ). IsOrder (graph_of c.args.graph.now) nodes) (sym c.in_ok-marks.ensures.nodes) Nothing;
      count = c.in_ok-marks.ensures.flags;
    }
