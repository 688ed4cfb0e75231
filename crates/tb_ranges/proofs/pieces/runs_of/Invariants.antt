use Rattle.std.proofs.Common.{take}
use Rattle.std.specs.List.{AllZip}
use Rattle.std.specs.Fn.{FnReturnsAt}
use Rattle.tb_ranges.specs.Runs.{expanded, AreRuns}
use Rattle.tb_ranges.proofs.pieces.runs_of.Given as goal

abbrev pub invariant-loop-at : goal.invariant-loop-at
invariant-loop-at g l = AreRuns l.at l.runs.items × AllZip (FnReturnsAt g.F.Fn l.f) (take l.at l.items) (expanded l.runs.items)
