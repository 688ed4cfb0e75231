use Rattle.std.proofs.Common.{◌≡◌, ◌+◌, ◌-◌, ◌*◌, ◌<◌, ◌++◌}
use Rattle.tb_new_tag.specs.NewTags.{repeated}
use Rattle.tb_new_tag.proofs.cells.repeated.Given as goal

abbrev pub invariant-loop : goal.invariant-loop
invariant-loop l =
    (l.ranges.items ++ repeated (l.count - l.counter) l.size l.from l.cells ≡ repeated l.count l.size l.at l.cells)
    × (l.from + (l.count - l.counter) * l.size < 4294967296)
