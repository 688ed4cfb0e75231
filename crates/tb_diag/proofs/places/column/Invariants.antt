use Rattle.std.proofs.Common.{◌≡◌, ◌≤◌, drop}
use Rattle.tb_diag.specs.Place.{behind_feed}
use Rattle.tb_diag.proofs.places.column.Given as goal

-- what stands behind the last line feed so far, and the rest
abbrev pub invariant-loop-byte : goal.invariant-loop-byte
invariant-loop-byte l = record {
  rest : behind_feed l.behind (drop l.byte-index l.before) ≡ behind_feed 0 l.before;
  few : l.behind ≤ l.byte-index;
}
