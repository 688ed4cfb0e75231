use Rattle.tb_outline.specs.Outlines.{member_outline}
use Rattle.tb_outline.proofs.Noting.{note_next}
use Rattle.tb_outline.proofs.noted.Noted.members.Goals as goal

pub loop-field-preserved : goal.loop-field-preserved
loop-field-preserved c =
    note_next member_outline c.args.fields.now c.loop-field.field-index _ c.loop-field-test.true c.field-item.is
    _ _ _ c.in_ok-written.ensures c.loop-field.invariant
