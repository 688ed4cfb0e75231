use Rattle.std.proofs.Common.{arith}
use Rattle.std.proofs.lemmas.List.Edits.{map_over_more}
use Rattle.tb_plain.specs.Sweep.{swept}
use Rattle.tb_plain.proofs.sweep.sweep_rows.Goals as goal

pub loop-at-preserved : goal.loop-at-preserved
loop-at-preserved c =
    rw c.sweep_row.ensures (map_over_more (swept c.args.sweep.now) c.args.rows.now.items c.loop-at.rows.items c.loop-at.at c.index_mut.result.now (omega arith) c.loop-at.invariant c.index_mut.ensures.value)
