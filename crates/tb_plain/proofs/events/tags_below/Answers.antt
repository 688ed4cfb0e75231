use Rattle.tb_plain.proofs.Fitting.{HasTag_item}
use Rattle.tb_plain.proofs.events.tags_below.Goals as goal

pub lies_below-requires-clause-other : goal.lies_below-requires-clause-other
lies_below-requires-clause-other c = HasTag_item c.args.shape.now c.args.rows.now c.loop-row.row-index c.row-item.result c.loop-row-test.true c.row-item.is
