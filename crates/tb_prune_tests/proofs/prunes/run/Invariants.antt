use Rattle.tb_prune_tests.specs.Ready.{IsReady}
use Rattle.tb_prune_tests.proofs.prunes.run.Given as goal

abbrev pub invariant-loop-step : goal.invariant-loop-step
invariant-loop-step g l = IsReady l.tree l.protectors
