use Rattle.std.proofs.Common.{◌≡◌, Bool, drop}
use Rattle.std.specs.List.{list_all}
use Rattle.std.specs.Fn.{FnReturnsAt}
use Rattle.tb_ranges.specs.declared.run.Run.{Run}
use Rattle.tb_ranges.proofs.range.all_values.Given as goal

abbrev pub invariant-loop-run : goal.invariant-loop-run
invariant-loop-run g l =
    (p : _ → Bool) → ((x : _) (b : Bool) → FnReturnsAt g.F.Fn l.test x b → b ≡ p x) → list_all (λ (run : Run _). p run.value) (drop l.run-index l.runs) ≡ list_all (λ (run : Run _). p run.value) l.runs
