use Rattle.tb_outline.specs.Outlines.{foreign_outline}
use Rattle.tb_outline.proofs.Noting.{note_next}
use Rattle.tb_outline.proofs.noted.Noted.foreign.Goals as goal

pub loop-function-preserved : goal.loop-function-preserved
loop-function-preserved c =
    note_next foreign_outline c.args.functions.now c.loop-function.function-index _ c.loop-function-test.true c.function-item.is
    _ _ _ c.in_ok-written.ensures c.loop-function.invariant
