use Rattle.std.proofs.Common.{◌≡◌, max, map, drop}
use Rattle.tb_ast.specs.Depth.{capped, deepest, type_depth, argument_depth}
use Rattle.tb_ast.proofs.nesting.+types.Given as goal

abbrev pub invariant-types_depth-loop-ty : goal.invariant-types_depth-loop-ty
invariant-types_depth-loop-ty l = max l.depth (capped (deepest (map type_depth (drop l.ty-index l.types)))) ≡ capped (deepest (map type_depth l.types))

abbrev pub invariant-arguments_depth-loop-argument : goal.invariant-arguments_depth-loop-argument
invariant-arguments_depth-loop-argument l = max l.depth (capped (deepest (map argument_depth (drop l.argument-index l.arguments)))) ≡ capped (deepest (map argument_depth l.arguments))
