use Rattle.std.proofs.Common.{◌∙◌, ap, sym}
use Rattle.std.proofs.lemmas.List.{drop_all}
use Rattle.tb_flow.specs.Flows.{Nothing}
use Rattle.tb_moves.proofs.Orders.{run_all, run_order}
use Rattle.tb_moves.proofs.scan.Scan.+nodes.Goals as goal

pub in_order-returns : goal.in_order-returns
in_order-returns t c =
    let scan = c.args.self.now in
    sym (ap (λ ns. run_all scan.types.now scan.question scan.variable c.loop-node.whole ns) (drop_all c.loop-node.node-index c.args.nodes.now c.loop-node-test.false))
    ∙ c.loop-node.invariant
    ∙ run_order scan.types.now scan.question scan.variable c.args.whole.now Nothing c.args.nodes.now
