use Rattle.tb_outline.specs.Outlines.{parameter_outline}
use Rattle.tb_outline.proofs.Noting.{note_next}
use Rattle.tb_outline.proofs.noted.Noted.parameters.Goals as goal

pub loop-parameter-preserved : goal.loop-parameter-preserved
loop-parameter-preserved c =
    note_next parameter_outline c.args.parameters.now c.loop-parameter.parameter-index _ c.loop-parameter-test.true c.parameter-item.is
    _ _ _ c.in_ok-written.ensures c.loop-parameter.invariant
