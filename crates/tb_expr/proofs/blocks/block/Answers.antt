use Rattle.tb_expr.proofs.Ways.{block-read, block-refused}
use Rattle.tb_expr.proofs.blocks.block.Goals as goal

pub returns-clause-read : goal.returns-clause-read
returns-clause-read c = block-read c.args.depth c.args.cursor c.block_within.result c.block_within.ensures

pub returns-clause-refused : goal.returns-clause-refused
returns-clause-refused c = block-refused c.args.depth c.args.cursor c.block_within.result c.block_within.ensures
