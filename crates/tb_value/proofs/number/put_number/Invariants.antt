use Rattle.std.proofs.Common.{◌≡◌, ◌-◌, ◌++◌}
use Rattle.tb_value.specs.Numbers.{number_bytes}
use Rattle.tb_value.proofs.number.put_number.Given as goal

abbrev pub invariant-loop : goal.invariant-loop
invariant-loop l = l.bytes.items ++ number_bytes (l.count - l.counter) l.left l.prov ≡ l.fn.bytes.items ++ number_bytes l.count l.number l.prov
