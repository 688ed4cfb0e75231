use Rattle.std.proofs.Common.{◌-◌}
use Rattle.std.specs.Fn.{FnReturnsAt}
use Rattle.tb_ranges.proofs.Mapping.{IsMappedTo}
use Rattle.tb_ranges.proofs.patch.push_mapped.Given as goal

abbrev pub invariant-loop-f : goal.invariant-loop-f
invariant-loop-f g l = IsMappedTo (FnReturnsAt g.F.Fn l.f) l.runs l.first l.lo l.hi l.fn.out.items l.out.items l.at l.from

abbrev pub decreases-loop-f : goal.decreases-loop-f
decreases-loop-f g l = l.hi - l.from
