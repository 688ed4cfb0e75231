use Rattle.std.proofs.Common.{length}
use Rattle.tb_lower.proofs.Loops.{StatementsLeft}
use Rattle.tb_lower.proofs.lowering.Lowering.statements.Given as goal

abbrev pub invariant-loop-statements : goal.invariant-loop-statements
invariant-loop-statements l = StatementsLeft l.self l.fn.self l.statements l.fn.statements

abbrev pub decreases-loop-statements : goal.decreases-loop-statements
decreases-loop-statements l = length l.statements
