use Rattle.tb_perm.proofs.Order.{Covers-keeps, Covers-chain, Covers-order, order-Covers}
use Rattle.tb_perm.proofs.covers.law_covers.Goals as goal

pub returns-clause-meets : goal.returns-clause-meets
returns-clause-meets c = Covers-keeps

pub returns-clause-order : goal.returns-clause-order
returns-clause-order c = (order-Covers c.args.p c.args.c c.args.guarded, Covers-order c.args.p c.args.c c.args.guarded)

pub returns-clause-chain : goal.returns-clause-chain
returns-clause-chain c = Covers-chain c.args.p c.args.q c.args.c c.args.guarded
