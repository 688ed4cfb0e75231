use Rattle.tb_ast.specs.Mentions.{parameter_mentions}
use Rattle.tb_ast.proofs.Noting.{note_next}
use Rattle.tb_ast.proofs.mention.Noted.parameters.Goals as goal

pub loop-parameter-preserved : goal.loop-parameter-preserved
loop-parameter-preserved c =
    note_next parameter_mentions c.args.parameters.now c.loop-parameter.parameter-index _ c.loop-parameter-test.true c.parameter-item.is
    _ _ _ c.in_ok-note.ensures c.loop-parameter.invariant
