use Rattle.tb_outline.specs.Outlines.{written_outline}
use Rattle.tb_outline.proofs.Noting.{note_next}
use Rattle.tb_outline.proofs.noted.Noted.types.Goals as goal

pub loop-ty-preserved : goal.loop-ty-preserved
loop-ty-preserved c =
    note_next written_outline c.args.types.now c.loop-ty.ty-index _ c.loop-ty-test.true c.ty-item.is
    _ _ _ c.in_ok-written.ensures c.loop-ty.invariant
