use Rattle.std.proofs.Common.{◌≡◌, drop, None}
use Rattle.tb_moves.specs.Firsts.{faults_from}
use Rattle.tb_moves.proofs.faults.moves.Given as goal

abbrev pub invariant-loop-function : goal.invariant-loop-function
invariant-loop-function l =
    faults_from l.thir.types l.first (drop l.function-index l.thir.functions) ≡ faults_from l.thir.types None l.thir.functions
