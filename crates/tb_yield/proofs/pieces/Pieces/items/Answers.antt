use Rattle.tb_ast.specs.Files.{item_row}
use Rattle.tb_yield.proofs.Lists.{put_next}
use Rattle.tb_yield.proofs.pieces.Pieces.items.Goals as goal

pub loop-item-preserved : goal.loop-item-preserved
loop-item-preserved c =
    put_next item_row c.args.items.now c.loop-item.item-index _ c.loop-item-test.true c.item-item.is
    _ _ _ c.in_ok-item.ensures c.loop-item.invariant
