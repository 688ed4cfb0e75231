use Rattle.std.proofs.Common.{◌≡◌, ◌+◌, map, take}
use Rattle.std.specs.List.{splice}
use Rattle.tb_bytes.specs.Bytes.{value_of}
use Rattle.tb_bytes.proofs.marks.write_values.Given as goal

abbrev pub invariant-loop-at : goal.invariant-loop-at
invariant-loop-at l = l.values ≡ splice l.fn.values l.lo (l.lo + l.at) (map value_of (take l.at l.bytes))
