use Rattle.std.proofs.Common.{◌≡◌, drop}
use Rattle.tb_eval.specs.Step.{cleared}
use Rattle.tb_run.proofs.carry.clear.Given as goal

-- what is cleared, and what is still to be cleared
abbrev pub invariant-loop-temp : goal.invariant-loop-temp
invariant-loop-temp l = cleared l.locals (drop l.temp-index l.temps) ≡ cleared l.fn.locals l.temps
