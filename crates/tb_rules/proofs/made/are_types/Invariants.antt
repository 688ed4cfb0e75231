use Rattle.std.proofs.Common.{◌≡◌, drop}
use Rattle.tb_rules.specs.Made.{are_types}
use Rattle.tb_rules.proofs.made.are_types.Given as goal

abbrev pub invariant-loop-ty : goal.invariant-loop-ty
invariant-loop-ty l = are_types l.types (drop l.ty-index l.list) ≡ are_types l.types l.list
