use Rattle.std.proofs.Common.{◌≡◌, ◌++◌, drop}
use Rattle.tb_names.specs.Names.{told}
use Rattle.tb_names.specs.Repeats.{foreign_names}
use Rattle.tb_names.proofs.repeats.foreign_names.Given as goal

abbrev pub invariant-loop-function : goal.invariant-loop-function
invariant-loop-function l = told l.names.items ++ foreign_names (drop l.function-index l.functions) ≡ foreign_names l.functions
