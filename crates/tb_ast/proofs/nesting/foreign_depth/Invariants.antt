use Rattle.std.proofs.Common.{◌≡◌, max, map, drop}
use Rattle.tb_ast.specs.Depth.{capped, deepest, foreign_depth}
use Rattle.tb_ast.proofs.nesting.foreign_depth.Given as goal

abbrev pub invariant-loop-function : goal.invariant-loop-function
invariant-loop-function l = max l.depth (capped (deepest (map foreign_depth (drop l.function-index l.functions)))) ≡ capped (deepest (map foreign_depth l.functions))
