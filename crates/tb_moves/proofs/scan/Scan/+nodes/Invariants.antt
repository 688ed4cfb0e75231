use Rattle.std.proofs.Common.{◌≡◌, drop}
use Rattle.tb_moves.proofs.Orders.{run_all}
use Rattle.tb_moves.proofs.scan.Scan.+nodes.Given as goal

abbrev pub invariant-in_order-loop-node : goal.invariant-in_order-loop-node
invariant-in_order-loop-node l =
    run_all l.self.types.now l.self.question l.self.variable l.whole (drop l.node-index l.nodes)
    ≡ run_all l.self.types.now l.self.question l.self.variable l.initial.whole l.nodes
