use Rattle.std.proofs.Common.{◌≡◌, ◌++◌, drop}
use Rattle.tb_names.specs.Names.{told}
use Rattle.tb_names.specs.Limits.{type_parameters}
use Rattle.tb_names.proofs.repeats.type_names.Given as goal

abbrev pub invariant-loop-parameter : goal.invariant-loop-parameter
invariant-loop-parameter l = told l.names.items ++ type_parameters (drop l.parameter-index l.parameters) ≡ type_parameters l.parameters
