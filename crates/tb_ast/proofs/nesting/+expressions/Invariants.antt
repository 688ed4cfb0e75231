use Rattle.std.proofs.Common.{◌≡◌, max, map, drop}
use Rattle.tb_ast.specs.Depth.{capped, deepest, expr_depth, field_depth, stmt_depth}
use Rattle.tb_ast.proofs.nesting.+expressions.Given as goal

abbrev pub invariant-exprs_depth-loop-e : goal.invariant-exprs_depth-loop-e
invariant-exprs_depth-loop-e l = max l.depth (capped (deepest (map expr_depth (drop l.e-index l.list)))) ≡ capped (deepest (map expr_depth l.list))

abbrev pub invariant-fields_depth-loop-field : goal.invariant-fields_depth-loop-field
invariant-fields_depth-loop-field l = max l.depth (capped (deepest (map field_depth (drop l.field-index l.fields)))) ≡ capped (deepest (map field_depth l.fields))

abbrev pub invariant-statements_depth-loop-statement : goal.invariant-statements_depth-loop-statement
invariant-statements_depth-loop-statement l = max l.depth (capped (deepest (map stmt_depth (drop l.statement-index l.statements)))) ≡ capped (deepest (map stmt_depth l.statements))
