use Rattle.std.proofs.Common.{◌≡◌, map}
use Rattle.std.specs.List.{range_with_len}
use Rattle.tb_plain.specs.Bytes.{reborrow_at}
use Rattle.tb_plain.proofs.bytes.reborrow_kinds.Given as goal

abbrev pub invariant-loop-byte : goal.invariant-loop-byte
invariant-loop-byte l = l.kinds ≡ map (reborrow_at l.new) (range_with_len 0 l.byte)
