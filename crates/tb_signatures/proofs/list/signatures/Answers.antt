use Rattle.tb_signatures.proofs.Signing.{sign_on}
use Rattle.tb_signatures.proofs.list.signatures.Goals as goal

pub loop-item-preserved : goal.loop-item-preserved
loop-item-preserved c =
    sign_on c.args.file.now c.args.types.now c.loop-item.types c.add_item.new.types c.loop-item.list.items c.add_item.new.list.items c.args.items.now c.loop-item.item-index _ _
    c.loop-item-test.true c.item-item.is c.loop-item.invariant c.in_ok-add_item.ensures
