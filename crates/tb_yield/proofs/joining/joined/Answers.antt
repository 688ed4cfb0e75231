use Rattle.std.proofs.Common.{rules}
use Rattle.tb_yield.proofs.Joins.{join_step}
use Rattle.tb_yield.proofs.joining.joined.Goals as goal

pub loop-piece-preserved : goal.loop-piece-preserved
loop-piece-preserved c =
    join_step c.loop-piece.pieces.items c.pop.new.self.items c.in-Some.piece c.loop-piece.stack.items c.put_before.new.stack.items _
    (search rules) c.in_ok-put_before.ensures c.loop-piece.invariant
