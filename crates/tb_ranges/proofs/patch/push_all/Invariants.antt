use Rattle.tb_ranges.proofs.Mapping.{IsAddedTo}
use Rattle.tb_ranges.proofs.patch.push_all.Given as goal

abbrev pub invariant-loop-run : goal.invariant-loop-run
invariant-loop-run g l = IsAddedTo l.lo l.new l.fn.out.items l.out.items l.run-index
