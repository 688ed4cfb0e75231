use Rattle.tb_expr.proofs.Ways.{whole-read, whole-refused}
use Rattle.tb_expr.proofs.expressions.expression.Goals as goal

pub returns-clause-read : goal.returns-clause-read
returns-clause-read c = whole-read c.args.depth c.args.cursor c.expr_within.result c.expr_within.ensures

pub returns-clause-refused : goal.returns-clause-refused
returns-clause-refused c = whole-refused c.args.depth c.args.cursor c.expr_within.result c.expr_within.ensures
