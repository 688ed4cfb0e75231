use Rattle.tb_expr.proofs.Ways.{line-read, line-refused}
use Rattle.tb_expr.proofs.lines.next_line.Goals as goal

pub returns-clause-read : goal.returns-clause-read
returns-clause-read c = line-read c.args.depth c.args.cursor c.line_within.result c.line_within.ensures

pub returns-clause-refused : goal.returns-clause-refused
returns-clause-refused c = line-refused c.args.depth c.args.cursor c.line_within.result c.line_within.ensures
