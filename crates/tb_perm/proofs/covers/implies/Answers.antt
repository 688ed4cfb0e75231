use Rattle.tb_perm.proofs.Order.{order_tells}
use Rattle.tb_perm.proofs.covers.implies.Goals as goal

pub returns : goal.returns
returns c = order_tells c.args.p c.args.c c.args.c_protected _ _ c.order.ensures c.order-2.ensures
