use Rattle.std.proofs.Common.{arith}
use Rattle.tb_lower.proofs.Loops.{sums_next}
use Rattle.tb_lower.proofs.lowering.Lowering.sums.Goals as goal

pub loop-sum-preserved : goal.loop-sum-preserved
loop-sum-preserved c =
    let h = c.in_ok-sum.ensures in
    sums_next c.loop-sum.self c.sum.new.self c.args.self.now c.loop-sum.operands.items c.push.new.self.items _ c.sum-item.result c.args.sums.now c.loop-sum.sum-index (omega arith) c.sum-item.is c.loop-sum.invariant h.operand c.in_ok-push.ensures.items h.lines h.locals h.count h.variables
