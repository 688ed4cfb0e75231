use Rattle.std.proofs.Common.{◌≡◌}
use Rattle.tb_aggregates.specs.Orders.{up_to}
use Rattle.tb_aggregates.proofs.orders.up_to.Given as goal

abbrev pub invariant-loop-at : goal.invariant-loop-at
invariant-loop-at l = l.order.items ≡ up_to l.at
