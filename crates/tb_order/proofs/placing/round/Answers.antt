use Rattle.std.proofs.Common.{◌+◌, ℕ, List, length, sym, subst}
use Rattle.tb_order.specs.Graph.{graph_of, IsOrder}
use Rattle.tb_order.proofs.Sets.{rows_below}
use Rattle.tb_order.proofs.Orders.{AreStuckBelow, placed_order, stuck_more}
use Rattle.tb_order.proofs.placing.round.Goals as goal

pub loop-node-preserved : goal.loop-node-preserved
loop-node-preserved c =
    let graph = graph_of c.args.graph.now in
    let nodes = c.loop-node.marks.nodes.items in
    let node = c.loop-node.node in
    let start = length c.args.marks.now.nodes.items in
    let below = rows_below c.args.graph.now node c.loop-node-test.true in
    record {
      order = subst (λ (new : List ℕ). IsOrder graph new) (sym c.in_ok-place.ensures.placed) (placed_order graph nodes node c.loop-node.invariant.order below);
      stuck = subst (λ (new : List ℕ). AreStuckBelow graph start (node + 1) new) (sym c.in_ok-place.ensures.placed) (stuck_more graph start node nodes c.loop-node.invariant.stuck);
      count = c.place.ensures.count;
    }
