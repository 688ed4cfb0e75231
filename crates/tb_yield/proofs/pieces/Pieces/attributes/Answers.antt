use Rattle.tb_ast.specs.Files.{attribute_row}
use Rattle.tb_yield.proofs.Lists.{put_next}
use Rattle.tb_yield.proofs.pieces.Pieces.attributes.Goals as goal

pub loop-attribute-preserved : goal.loop-attribute-preserved
loop-attribute-preserved c =
    put_next attribute_row c.args.attributes.now c.loop-attribute.attribute-index _ c.loop-attribute-test.true c.attribute-item.is
    _ _ _ c.in_ok-attribute.ensures c.loop-attribute.invariant
