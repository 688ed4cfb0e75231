use Rattle.std.proofs.Common.{◌≡◌, max, map, drop}
use Rattle.tb_ast.specs.Depth.{capped, deepest, item_depth}
use Rattle.tb_ast.proofs.nesting.depth.Given as goal

abbrev pub invariant-loop-item : goal.invariant-loop-item
invariant-loop-item l = max l.depth (capped (deepest (map item_depth (drop l.item-index l.tree.items)))) ≡ capped (deepest (map item_depth l.tree.items))
