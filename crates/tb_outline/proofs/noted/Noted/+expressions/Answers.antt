use Rattle.tb_outline.specs.Outlines.{expr_outline, field_outline, stmt_outline}
use Rattle.tb_outline.proofs.Noting.{note_next}
use Rattle.tb_outline.proofs.noted.Noted.+expressions.Goals as goal

pub exprs-loop-e-preserved : goal.exprs-loop-e-preserved
exprs-loop-e-preserved t c =
    note_next expr_outline c.args.list.now c.loop-e.e-index _ c.loop-e-test.true c.e-item.is
    _ _ _ c.in_ok-expr.ensures c.loop-e.invariant

pub fields-loop-field-preserved : goal.fields-loop-field-preserved
fields-loop-field-preserved t c =
    note_next field_outline c.args.fields.now c.loop-field.field-index _ c.loop-field-test.true c.field-item.is
    _ _ _ c.in_ok-field.ensures c.loop-field.invariant

pub statements-loop-statement-preserved : goal.statements-loop-statement-preserved
statements-loop-statement-preserved t c =
    note_next stmt_outline c.args.statements.now c.loop-statement.statement-index _ c.loop-statement-test.true c.statement-item.is
    _ _ _ c.in_ok-statement.ensures c.loop-statement.invariant
