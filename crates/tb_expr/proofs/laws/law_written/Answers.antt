use Rattle.tb_expr.proofs.Spelled.{expr-spelled, block-spelled}
use Rattle.tb_expr.proofs.laws.law_written.Goals as goal

pub returns-clause-expression : goal.returns-clause-expression
returns-clause-expression c = expr-spelled

pub returns-clause-block : goal.returns-clause-block
returns-clause-block c = block-spelled
