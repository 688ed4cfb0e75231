use Rattle.std.proofs.Common.{◌≤◌, length, map}
use Rattle.tb_ast.specs.Depth.{deepest, item_depth}
use Rattle.tb_syntax.specs.State.{piece_of}
use Rattle.tb_parse.specs.Trees.{IsRun}
use Rattle.tb_parse.proofs.file.items.Given as goal

abbrev pub invariant-loop-alloc : goal.invariant-loop-alloc
invariant-loop-alloc l = record {
  run : IsRun (map piece_of l.tokens) l.items (map piece_of l.rest);
  depth : deepest (map item_depth l.items) ≤ 128;
}

abbrev pub decreases-loop-alloc : goal.decreases-loop-alloc
decreases-loop-alloc l = length l.rest
