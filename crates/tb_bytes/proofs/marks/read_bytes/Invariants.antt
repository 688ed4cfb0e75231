use Rattle.std.proofs.Common.{◌≡◌, ◌≤◌, ◌+◌, ◌++◌, length, drop}
use Rattle.std.specs.List.{slice_range}
use Rattle.tb_bytes.specs.Parts.{byte_list}
use Rattle.tb_bytes.proofs.marks.read_bytes.Given as goal

abbrev pub invariant-loop-value : goal.invariant-loop-value
invariant-loop-value l = record {
  init : length l.part ≤ l.value-index + length l.init;
  provs : length l.part ≤ l.value-index + length l.provs;
  read : l.bytes.items ++ byte_list (drop l.value-index l.part) l.init l.provs ≡ byte_list l.part l.fn.init l.fn.provs;
}
