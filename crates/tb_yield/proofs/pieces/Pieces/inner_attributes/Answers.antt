use Rattle.tb_ast.specs.Files.{inner_row}
use Rattle.tb_yield.proofs.Lists.{put_next}
use Rattle.tb_yield.proofs.pieces.Pieces.inner_attributes.Goals as goal

pub loop-attribute-preserved : goal.loop-attribute-preserved
loop-attribute-preserved c =
    put_next inner_row c.args.attributes.now c.loop-attribute.attribute-index _ c.loop-attribute-test.true c.attribute-item.is
    _ _ _ c.in_ok-inner_attribute.ensures c.loop-attribute.invariant
