use Rattle.std.proofs.Common.{arith}
use Rattle.std.proofs.lemmas.List.Edits.{map_over_more}
use Rattle.tb_shape.specs.Entries.{reparented}
use Rattle.tb_shape.proofs.entries.reparent.Goals as goal

pub loop-at-preserved : goal.loop-at-preserved
loop-at-preserved c =
    rw c.moved_up.ensures (map_over_more (reparented c.args.old c.args.new) c.args.entries.now.items c.loop-at.entries.items c.loop-at.at c.index.result.now (omega arith) c.loop-at.invariant c.index.ensures)
