use Rattle.std.proofs.Common.{arith}
use Rattle.tb_lower.proofs.Loops.{inners_next}
use Rattle.tb_lower.proofs.lowering.Lowering.inners.Goals as goal

pub loop-inner-preserved : goal.loop-inner-preserved
loop-inner-preserved c =
    let h = c.in_ok-inner.ensures in
    inners_next c.loop-inner.self c.inner.new.self c.args.self.now c.inner-item.result c.args.inners.now c.loop-inner.inner-index (omega arith) c.inner-item.is c.loop-inner.invariant h.lines h.locals h.count h.variables
