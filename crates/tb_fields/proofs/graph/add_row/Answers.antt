use Rattle.tb_fields.proofs.Making.{on_ok, row_made}
use Rattle.tb_fields.proofs.graph.add_row.Goals as goal

pub returns : goal.returns
returns c =
    on_ok c.push.result (row_made c.args.types.now c.row.new.types c.args.rows.now.items c.push.new.rows.items c.in_ok-row.row _ c.requires.below c.in_ok-row.ensures) c.push.ensures
