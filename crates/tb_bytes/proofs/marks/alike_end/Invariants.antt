use Rattle.std.proofs.Common.{◌<◌, ◌≤◌, ◌-◌, length}
use Rattle.std.specs.List.{slice_range}
use Rattle.tb_bytes.specs.Parts.{AreAlike}
use Rattle.tb_bytes.proofs.marks.alike_end.Given as goal

abbrev pub invariant-loop-to : goal.invariant-loop-to
invariant-loop-to l = (l.from < l.to) × (l.to ≤ length l.bytes) × AreAlike l.first (slice_range l.bytes l.from l.to)

abbrev pub decreases-loop-to : goal.decreases-loop-to
decreases-loop-to l = length l.bytes - l.to
