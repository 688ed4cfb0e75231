use Rattle.std.proofs.Common.{◌≡◌, map}
use Rattle.std.specs.List.{range_with_len}
use Rattle.tb_plain.specs.Bytes.{access_at}
use Rattle.tb_plain.proofs.bytes.access_kinds.Given as goal

abbrev pub invariant-loop-byte : goal.invariant-loop-byte
invariant-loop-byte l = l.kinds ≡ map (access_at l.lo l.hi l.kind) (range_with_len 0 l.byte)
