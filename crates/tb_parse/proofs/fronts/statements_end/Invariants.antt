use Rattle.std.proofs.Common.{length, map}
use Rattle.tb_syntax.specs.State.{piece_of}
use Rattle.tb_parse.proofs.BodyFronts.{StatementsSo}
use Rattle.tb_parse.proofs.fronts.statements_end.Given as goal

abbrev pub invariant-loop-alloc : goal.invariant-loop-alloc
invariant-loop-alloc l = StatementsSo (map piece_of l.tokens) (map piece_of l.rest)

abbrev pub decreases-loop-alloc : goal.decreases-loop-alloc
decreases-loop-alloc l = length l.rest
