use Rattle.tb_ast.specs.Files.{foreign_row}
use Rattle.tb_yield.proofs.Lists.{put_next}
use Rattle.tb_yield.proofs.pieces.Pieces.foreign_functions.Goals as goal

pub loop-function-preserved : goal.loop-function-preserved
loop-function-preserved c =
    put_next foreign_row c.args.functions.now c.loop-function.function-index _ c.loop-function-test.true c.function-item.is
    _ _ _ c.in_ok-foreign_function.ensures c.loop-function.invariant
