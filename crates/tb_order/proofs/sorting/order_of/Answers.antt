use Rattle.std.proofs.Common.{◌≡◌, ℕ, length, Option, subst, arith}
use Rattle.std.specs.Option.{IfNone}
use Rattle.tb_order.specs.Graph.{graph_of}
use Rattle.tb_order.specs.Answer.{HasNoCircle}
use Rattle.tb_order.proofs.Orders.{orders_all, none_reaches}
use Rattle.tb_order.proofs.Reaching.{circle_left}
use Rattle.tb_order.proofs.sorting.order_of.Goals as goal

pub returns-then-len-graph-clause-sorted : goal.returns-then-len-graph-clause-sorted
returns-then-len-graph-clause-sorted c =
    let placed = c.in_ok-placed.placed in
    orders_all c.args.graph.now placed.flags.items placed.nodes.items placed.tied c.in_ok-placed.ensures.order c.in_ok-placed.ensures.count (omega arith)

pub returns-then-len-graph-clause-none : goal.returns-then-len-graph-clause-none
returns-then-len-graph-clause-none c =
    let placed = c.in_ok-placed.placed in
    none_reaches (graph_of c.args.graph.now) placed.nodes.items
    (orders_all c.args.graph.now placed.flags.items placed.nodes.items placed.tied c.in_ok-placed.ensures.order c.in_ok-placed.ensures.count (omega arith))

pub unreachable-requires : goal.unreachable-requires
unreachable-requires c =
    let placed = c.in_ok-placed.placed in
    circle_left c.args.graph.now placed.flags.items placed.nodes.items c.requires.nodes placed.tied c.in_ok-placed.ensures.stuck c.in_ok-placed.ensures.count (λ (e : length placed.nodes.items ≡ length c.args.graph.now). c.if-len-graph.false (omega arith))
    (subst (λ (o : Option ℕ). IfNone o (HasNoCircle (graph_of c.args.graph.now))) c.in-None.is c.in_ok-node.ensures.none)
