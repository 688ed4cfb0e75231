use Rattle.std.proofs.Common.{◌≡◌, ◌≤◌, ◌+◌, length, drop}
use Rattle.tb_names.specs.Limits.{type_parameters}
use Rattle.tb_names.proofs.limits.count_types.Given as goal

abbrev pub invariant-loop-parameter : goal.invariant-loop-parameter
invariant-loop-parameter l = (l.count + length (type_parameters (drop l.parameter-index l.parameters)) ≡ length (type_parameters l.parameters)) × (l.count ≤ l.parameter-index)
