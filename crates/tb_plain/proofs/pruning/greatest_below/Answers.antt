use Rattle.std.proofs.Common.{take, ◌+◌, subst, sym}
use Rattle.tb_plain.specs.Pruning.{IsGreatest}
use Rattle.tb_plain.proofs.Greatest.{IsGreatest-more}
use Rattle.tb_plain.proofs.pruning.greatest_below.Goals as goal

pub loop-row-preserved : goal.loop-row-preserved
loop-row-preserved c =
    subst (IsGreatest c.args.bound (take (c.loop-row.row-index + 1) c.args.rows.now)) (sym c.better-best.ensures) (IsGreatest-more c.args.bound c.args.rows.now c.loop-row.row-index c.loop-row.best c.row-item.result c.loop-row-test.true c.row-item.is c.loop-row.invariant)
