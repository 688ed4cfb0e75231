-- The depth falls with each expression in another; at one depth each function calls only those below it.
use Rattle.std.proofs.Common.{◌≡◌, ◌+◌, ◌-◌, ◌*◌, length}
use Rattle.tb_lex.specs.declared.punctuation.Punctuation.TheVariants.{Comma, CloseBrace}
use Rattle.tb_syntax.specs.Marks.{has_mark}
use Rattle.tb_syntax.specs.Lists.{joined_lists, list_at, listed_at}
use Rattle.tb_expr.specs.Exprs.{whole_at, field_at, lines_in, longest_at, expr_at}
use Rattle.tb_expr.proofs.Bodies.{after_statements}
use Rattle.tb_expr.proofs.+expressions.Given as goal

abbrev pub decreases-blocks::block_within : goal.decreases-blocks::block_within
decreases-blocks::block_within a = a.depth * 8 + 3

abbrev pub decreases-blocks::lines : goal.decreases-blocks::lines
decreases-blocks::lines a = a.depth * 8 + 2

abbrev pub decreases-branches::read_else : goal.decreases-branches::read_else
decreases-branches::read_else a = a.depth * 8 + 4

abbrev pub decreases-branches::tested : goal.decreases-branches::tested
decreases-branches::tested a = a.depth * 8 + 4

abbrev pub decreases-expressions::expr_within : goal.decreases-expressions::expr_within
decreases-expressions::expr_within a = a.depth * 8

abbrev pub decreases-expressions::further : goal.decreases-expressions::further
decreases-expressions::further a = a.depth * 8 + 6

abbrev pub decreases-expressions::longest : goal.decreases-expressions::longest
decreases-expressions::longest a = a.depth * 8 + 7

abbrev pub decreases-expressions::operand : goal.decreases-expressions::operand
decreases-expressions::operand a = a.depth * 8 + 6

abbrev pub decreases-expressions::read_wanted : goal.decreases-expressions::read_wanted
decreases-expressions::read_wanted a = a.depth * 8 + 5

abbrev pub decreases-lines::line_within : goal.decreases-lines::line_within
decreases-lines::line_within a = a.depth * 8 + 1

abbrev pub decreases-lists::field : goal.decreases-lists::field
decreases-lists::field a = a.depth * 8 + 1

abbrev pub decreases-lists::fields : goal.decreases-lists::fields
decreases-lists::fields a = a.depth * 8 + 2

abbrev pub decreases-lists::values : goal.decreases-lists::values
decreases-lists::values a = a.depth * 8 + 1

abbrev pub invariant-blocks::lines-loop : goal.invariant-blocks::lines-loop
invariant-blocks::lines-loop l =
    after_statements l.statements (lines_in l.depth (expr_at l.depth) (length l.fn.cursor - l.counter) l.rest)
    ≡ lines_in l.depth (expr_at l.depth) (length l.fn.cursor) l.fn.cursor

abbrev pub invariant-expressions::longest-loop : goal.invariant-expressions::longest-loop
invariant-expressions::longest-loop l =
    longest_at l.depth (expr_at l.depth) l.place l.most (l.steps - l.counter) l.e l.rest
    ≡ longest_at l.depth (expr_at l.depth) l.place l.most l.steps l.fn.left l.fn.cursor

abbrev pub invariant-lists::values-loop : goal.invariant-lists::values-loop
invariant-lists::values-loop l =
    joined_lists l.values l.commas (list_at (has_mark l.close) (whole_at l.depth (expr_at l.depth)) (has_mark Comma) Comma (length l.fn.cursor - l.counter) l.rest)
    ≡ listed_at (whole_at l.depth (expr_at l.depth)) l.close l.fn.cursor

abbrev pub invariant-lists::fields-loop : goal.invariant-lists::fields-loop
invariant-lists::fields-loop l =
    joined_lists l.fields l.commas (list_at (has_mark CloseBrace) (field_at l.depth (expr_at l.depth)) (has_mark Comma) Comma (length l.fn.cursor - l.counter) l.rest)
    ≡ listed_at (field_at l.depth (expr_at l.depth)) CloseBrace l.fn.cursor
