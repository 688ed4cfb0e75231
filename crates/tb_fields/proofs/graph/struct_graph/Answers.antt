use Rattle.tb_fields.proofs.Making.{row_on}
use Rattle.tb_fields.proofs.graph.struct_graph.Goals as goal

pub loop-one-preserved : goal.loop-one-preserved
loop-one-preserved c =
    row_on c.args.file.now c.args.types.now c.loop-one.types c.add_row.new.types c.loop-one.rows.items c.add_row.new.rows.items c.args.structs.now c.loop-one.one-index _ _
    c.loop-one-test.true c.one-item.is c.loop-one.invariant c.in_ok-add_row.ensures
