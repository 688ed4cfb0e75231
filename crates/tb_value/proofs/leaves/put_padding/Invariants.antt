use Rattle.std.proofs.Common.{◌≡◌, ◌-◌, ◌++◌}
use Rattle.tb_value.specs.Copies.{padding}
use Rattle.tb_value.proofs.leaves.put_padding.Given as goal

abbrev pub invariant-loop : goal.invariant-loop
invariant-loop l = l.copy.items ++ padding (l.count - l.counter) ≡ l.fn.copy.items ++ padding l.count
