use Rattle.std.proofs.Common.{◌≡◌}
use Rattle.tb_moves.specs.Firsts.{faults_below}
use Rattle.tb_moves.proofs.faults.function_fault.Given as goal

abbrev pub invariant-loop-variable : goal.invariant-loop-variable
invariant-loop-variable l = l.first ≡ faults_below l.types l.function l.variable
