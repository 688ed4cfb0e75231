use Rattle.std.proofs.Common.{◌≡◌, max, map, drop}
use Rattle.tb_ast.specs.Depth.{capped, deepest, member_depth}
use Rattle.tb_ast.proofs.nesting.members_depth.Given as goal

abbrev pub invariant-loop-field : goal.invariant-loop-field
invariant-loop-field l = max l.depth (capped (deepest (map member_depth (drop l.field-index l.fields)))) ≡ capped (deepest (map member_depth l.fields))
