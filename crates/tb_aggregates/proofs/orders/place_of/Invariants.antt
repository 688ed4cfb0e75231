use Rattle.std.proofs.Common.{◌≡◌, drop}
use Rattle.tb_aggregates.specs.Orders.{place_from, place_of}
use Rattle.tb_aggregates.proofs.orders.place_of.Given as goal

abbrev pub invariant-loop-place : goal.invariant-loop-place
invariant-loop-place l = place_from l.place (drop l.place l.numbers) l.number ≡ place_of l.numbers l.number
