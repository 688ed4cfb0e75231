use Rattle.std.proofs.Common.{◌≡◌, map}
use Rattle.std.specs.List.{range_with_len}
use Rattle.tb_perm.specs.Reborrow.{new_state}
use Rattle.tb_plain.proofs.bytes.new_states.Given as goal

abbrev pub invariant-loop-byte : goal.invariant-loop-byte
invariant-loop-byte l = l.states ≡ map (new_state l.new) (range_with_len 0 l.byte)
