use Rattle.tb_ast.specs.Mentions.{MentionOf}
use Rattle.tb_ast.proofs.Noting.{note_one}
use Rattle.tb_ast.proofs.mention.Noted.types.Goals as goal

pub loop-ty-preserved : goal.loop-ty-preserved
loop-ty-preserved c =
    note_one MentionOf.Written c.args.types.now c.loop-ty.ty-index _ c.loop-ty-test.true c.ty-item.is
    _ _ _ c.in_ok-note.ensures c.loop-ty.invariant
