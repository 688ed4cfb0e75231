use Rattle.std.proofs.Common.{refl, arith}
use Rattle.tb_lower.proofs.Loops.{more_next}
use Rattle.tb_lower.proofs.lowering.Lowering.more.Goals as goal

pub loop-atom-preserved : goal.loop-atom-preserved
loop-atom-preserved c =
    let h = c.in_ok-left.ensures in
    more_next c.loop-atom.self c.add.new.self c.args.self.now c.args.first c.loop-atom.left c.args.left c.in_ok-left.left _ _ c.args.atoms.now c.loop-atom.atom-index (omega arith) refl c.loop-atom.invariant h.operand h.lines h.locals h.count h.variables
