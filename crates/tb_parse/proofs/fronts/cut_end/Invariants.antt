use Rattle.std.proofs.Common.{◌≤◌, map}
use Rattle.tb_syntax.specs.State.{piece_of}
use Rattle.tb_parse.proofs.Cuts.{CutsSo}
use Rattle.tb_parse.proofs.fronts.cut_end.Given as goal

abbrev pub invariant-loop-depth : goal.invariant-loop-depth
invariant-loop-depth l = record {
  so : CutsSo l.depth (map piece_of l.tokens) (map piece_of l.end) (map piece_of l.rest);
  most : l.depth ≤ 126;
}

abbrev pub decreases-loop-depth : goal.decreases-loop-depth
decreases-loop-depth l = l.depth
