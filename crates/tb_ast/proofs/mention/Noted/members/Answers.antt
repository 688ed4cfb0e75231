use Rattle.tb_ast.specs.Mentions.{member_mentions}
use Rattle.tb_ast.proofs.Noting.{note_next}
use Rattle.tb_ast.proofs.mention.Noted.members.Goals as goal

pub loop-field-preserved : goal.loop-field-preserved
loop-field-preserved c =
    note_next member_mentions c.args.fields.now c.loop-field.field-index _ c.loop-field-test.true c.field-item.is
    _ _ _ c.in_ok-note.ensures c.loop-field.invariant
