use Rattle.std.proofs.Common.{take}
use Rattle.std.specs.List.{AllByRecursion}
use Rattle.std.specs.Fn.{FnReturnsAt}
use Rattle.tb_ranges.specs.declared.run.Run.{Run}
use Rattle.tb_ranges.proofs.range.all_fixed.Given as goal

abbrev pub invariant-loop-run : goal.invariant-loop-run
invariant-loop-run g l = AllByRecursion (λ (run : Run _). FnReturnsAt g.F.Fn l.f run.value run.value) (take l.run-index l.runs)
