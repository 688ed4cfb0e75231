use Rattle.std.proofs.Common.{◌≡◌, Bool, drop}
use Rattle.std.specs.Fn.{FnReturnsAt}
use Rattle.tb_ranges.specs.Ranges.{first_place}
use Rattle.tb_ranges.proofs.range.find_value.Given as goal

abbrev pub invariant-loop-run : goal.invariant-loop-run
invariant-loop-run g l =
    (p : _ → Bool) → ((x : _) (b : Bool) → FnReturnsAt g.F.Fn l.test x b → b ≡ p x) → first_place p l.lo (drop l.run-index l.runs) ≡ first_place p l.lo l.runs
