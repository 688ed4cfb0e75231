use Rattle.std.proofs.Common.{◌≡◌, ◌++◌, map, drop}
use Rattle.tb_value.specs.Scalars.{with_prov}
use Rattle.tb_value.proofs.leaves.put_bytes.Given as goal

abbrev pub invariant-loop-byte : goal.invariant-loop-byte
invariant-loop-byte l = l.copy.items ++ map (with_prov l.prov) (drop l.byte-index l.bytes) ≡ l.fn.copy.items ++ map (with_prov l.prov) l.bytes
