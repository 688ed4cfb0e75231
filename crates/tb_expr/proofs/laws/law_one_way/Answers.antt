use Rattle.tb_expr.proofs.Ways.{one-whole, one-block, one-line}
use Rattle.tb_expr.proofs.laws.law_one_way.Goals as goal

pub returns-clause-expression : goal.returns-clause-expression
returns-clause-expression c = one-whole

pub returns-clause-block : goal.returns-clause-block
returns-clause-block c = one-block

pub returns-clause-line : goal.returns-clause-line
returns-clause-line c = one-line
