use Rattle.tb_expr.proofs.ReadConditions.{condition-read, condition-refused}
use Rattle.tb_expr.proofs.conditions.condition.Goals as goal

pub returns-clause-read : goal.returns-clause-read
returns-clause-read c = condition-read c.args.depth c.args.cursor c.expr_within.result c.expr_within.ensures

pub returns-clause-refused : goal.returns-clause-refused
returns-clause-refused c = condition-refused c.args.depth c.args.cursor c.expr_within.result c.expr_within.ensures
