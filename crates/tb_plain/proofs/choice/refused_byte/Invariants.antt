use Rattle.std.proofs.Common.{◌≡◌, ◌-◌, find}
use Rattle.std.specs.List.{list_any, range_with_len}
use Rattle.tb_plain.specs.Sweep.{refuses_by, byte_by}
use Rattle.tb_plain.proofs.choice.refused_byte.Given as goal

abbrev pub invariant-loop-byte : goal.invariant-loop-byte
invariant-loop-byte l = find (λ byte. list_any (refuses_by l.sweep byte) l.rows) (range_with_len l.byte (l.size - l.byte)) ≡ byte_by l.sweep l.size l.rows
