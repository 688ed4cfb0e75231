use Rattle.tb_lex.specs.declared.punctuation.Punctuation.TheVariants.{Comma}
use Rattle.tb_ast.specs.Expressions.{expr_pieces, field_pieces, stmt_pieces}
use Rattle.tb_yield.proofs.Lists.{put_one, put_next}
use Rattle.tb_yield.proofs.pieces.Pieces.+expressions.Goals as goal

pub exprs-loop-at-preserved : goal.exprs-loop-at-preserved
exprs-loop-at-preserved t c =
    put_one expr_pieces Comma c.args.list.now c.args.commas.now c.loop-at.at _ c.loop-at-test.true c.index-list-at.is
    _ _ _ _ c.in_ok-expr.ensures c.in_ok-mark_at.ensures c.loop-at.invariant

pub fields-loop-at-preserved : goal.fields-loop-at-preserved
fields-loop-at-preserved t c =
    put_one field_pieces Comma c.args.fields.now c.args.commas.now c.loop-at.at _ c.loop-at-test.true c.index-fields-at.is
    _ _ _ _ c.in_ok-field.ensures c.in_ok-mark_at.ensures c.loop-at.invariant

pub statements-loop-statement-preserved : goal.statements-loop-statement-preserved
statements-loop-statement-preserved t c =
    put_next stmt_pieces c.args.statements.now c.loop-statement.statement-index _ c.loop-statement-test.true c.statement-item.is
    _ _ _ c.in_ok-statement.ensures c.loop-statement.invariant
