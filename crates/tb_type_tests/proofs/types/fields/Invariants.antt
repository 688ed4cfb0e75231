use Rattle.std.specs.List.{AllByRecursion}
use Rattle.tb_types.specs.Sound.{IsField}
use Rattle.tb_type_tests.proofs.types.fields.Given as goal

abbrev pub invariant-loop-ty : goal.invariant-loop-ty
invariant-loop-ty l = AllByRecursion (IsField l.types) l.fields.items
