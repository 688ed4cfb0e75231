use Rattle.tb_outline.specs.Outlines.{declared_parameter}
use Rattle.tb_outline.proofs.Noting.{note_one}
use Rattle.tb_outline.proofs.noted.Noted.declared.Goals as goal

pub loop-parameter-preserved : goal.loop-parameter-preserved
loop-parameter-preserved c =
    note_one declared_parameter c.args.parameters.now c.loop-parameter.parameter-index _ c.loop-parameter-test.true c.parameter-item.is
    _ _ _ c.in_ok-note.ensures c.loop-parameter.invariant
