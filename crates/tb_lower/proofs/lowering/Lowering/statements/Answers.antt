use Rattle.std.proofs.Common.{subst, ◌∙◌, arith}
use Rattle.tb_lower.proofs.Loops.{StatementsLeft, statements_next, cut_first, none_is}
use Rattle.tb_lower.proofs.lowering.Lowering.statements.Goals as goal

pub loop-statements-preserved : goal.loop-statements-preserved
loop-statements-preserved c =
    let h = c.in_ok-statement.ensures in
    let left = c.loop-statements.statements.now in
    statements_next c.loop-statements.self c.statement.new.self c.args.self.now c.statement-item.result _ c.args.statements.now c.is_empty.result
    (subst (λ r. StatementsLeft c.loop-statements.self c.args.self.now r c.args.statements.now) (cut_first left c.statement-item.result (omega arith) c.statement-item.is) c.loop-statements.invariant)
    (c.is_empty.ensures ∙ none_is _) h.lines h.locals h.count h.variables
