use Rattle.std.proofs.Common.{◌≡◌, max, map, drop}
use Rattle.tb_ast.specs.Depth.{capped, deepest, parameter_depth}
use Rattle.tb_ast.proofs.nesting.parameters_depth.Given as goal

abbrev pub invariant-loop-parameter : goal.invariant-loop-parameter
invariant-loop-parameter l = max l.depth (capped (deepest (map parameter_depth (drop l.parameter-index l.parameters)))) ≡ capped (deepest (map parameter_depth l.parameters))
