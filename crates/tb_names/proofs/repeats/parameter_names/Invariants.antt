use Rattle.std.proofs.Common.{◌≡◌, ◌++◌, drop}
use Rattle.tb_names.specs.Names.{told}
use Rattle.tb_names.specs.Repeats.{parameter_names}
use Rattle.tb_names.proofs.repeats.parameter_names.Given as goal

abbrev pub invariant-loop-parameter : goal.invariant-loop-parameter
invariant-loop-parameter l = told l.names.items ++ parameter_names (drop l.parameter-index l.parameters) ≡ parameter_names l.parameters
