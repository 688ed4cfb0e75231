use Rattle.tb_ast.specs.Mentions.{foreign_mentions}
use Rattle.tb_ast.proofs.Noting.{note_next}
use Rattle.tb_ast.proofs.mention.Noted.foreign.Goals as goal

pub loop-function-preserved : goal.loop-function-preserved
loop-function-preserved c =
    note_next foreign_mentions c.args.functions.now c.loop-function.function-index _ c.loop-function-test.true c.function-item.is
    _ _ _ c.in_ok-note.ensures c.loop-function.invariant
