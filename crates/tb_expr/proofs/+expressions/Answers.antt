use Rattle.std.proofs.Common.{rules, ◌≡◌, ◌<◌, length, true, false, [], ◌∷◌, ◌++◌}
use Rattle.std.proofs.lemmas.Result.{err_from_is_err_and}
use Rattle.tb_lex.specs.declared.punctuation.Punctuation.TheVariants.{Comma, CloseBrace}
use Rattle.tb_syntax.specs.Marks.{has_mark}
use Rattle.tb_syntax.specs.Lists.{listed_at}
use Rattle.tb_syntax.proofs.Loops.{read_last, no_mark}
use Rattle.tb_forms.specs.Levels.{level_of, goes_on}
use Rattle.tb_expr.specs.Exprs.{whole_at, field_at, lines_in, longest_at, expr_at}
use Rattle.tb_expr.proofs.Longest.{no_step}
use Rattle.tb_expr.proofs.Bodies.{no_line}
use Rattle.tb_expr.proofs.+expressions.Goals as goal

pub blocks::lines-returns-in_err-line : goal.blocks::lines-returns-in_err-line
blocks::lines-returns-in_err-line t c =
    let p = err_from_is_err_and c.from_residual.result c.from_residual.ensures.1 in
    let begins : has_mark CloseBrace c.loop.rest ≡ false = search rules in
    let below : c.loop.counter < length c.args.cursor = search rules in
    rw (p.1, p.2) (no_line c.args.depth (expr_at c.args.depth) c.in_err-line.field-0.0 (length c.args.cursor) c.loop.counter c.loop.statements c.loop.rest (lines_in c.args.depth (expr_at c.args.depth) (length c.args.cursor) c.args.cursor) below begins c.in_err-line.ensures c.loop.invariant)

pub expressions::longest-returns-in_err-longer : goal.expressions::longest-returns-in_err-longer
expressions::longest-returns-in_err-longer t c =
    let p = err_from_is_err_and c.from_residual.result c.from_residual.ensures.1 in
    let go : goes_on (level_of c.loop.e) c.args.most c.loop.rest ≡ true = search rules in
    let below : c.loop.counter < c.args.steps = search rules in
    rw (p.1, p.2) (no_step c.args.depth (expr_at c.args.depth) c.args.place c.args.most c.in_err-longer.field-0.0 c.args.steps c.loop.counter c.loop.e c.loop.rest (longest_at c.args.depth (expr_at c.args.depth) c.args.place c.args.most c.args.steps c.args.left c.args.cursor) below go c.in_err-longer.ensures c.loop.invariant)

pub lists::fields-returns-then-not-has_mark : goal.lists::fields-returns-then-not-has_mark
lists::fields-returns-then-not-has_mark t c =
    let pushed : c.push.new.self ≡ c.loop.fields ++ c.in_ok-field.field ∷ [] = search rules in
    let begins : has_mark CloseBrace c.loop.rest ≡ false = search rules in
    let stop : has_mark Comma c.in_ok-field.after ≡ false = search rules in
    let below : c.loop.counter < length c.args.cursor = search rules in
    rw pushed (read_last (has_mark CloseBrace) (field_at c.args.depth (expr_at c.args.depth)) (has_mark Comma) Comma (length c.args.cursor) c.loop.counter c.loop.fields c.loop.commas c.loop.rest c.in_ok-field.field c.in_ok-field.after (listed_at (field_at c.args.depth (expr_at c.args.depth)) CloseBrace c.args.cursor) below begins c.in_ok-field.ensures stop c.loop.invariant)

pub lists::fields-returns-in_err-comma : goal.lists::fields-returns-in_err-comma
lists::fields-returns-in_err-comma t c =
    let p = err_from_is_err_and c.from_residual-in_err-comma.result c.from_residual-in_err-comma.ensures.1 in
    let begins : has_mark CloseBrace c.loop.rest ≡ false = search rules in
    let go : has_mark Comma c.in_ok-field.after ≡ true = search rules in
    let below : c.loop.counter < length c.args.cursor = search rules in
    rw (p.1, p.2) (no_mark (has_mark CloseBrace) (field_at c.args.depth (expr_at c.args.depth)) (has_mark Comma) Comma c.in_err-comma.field-0.0 (length c.args.cursor) c.loop.counter c.loop.fields c.loop.commas c.loop.rest c.in_ok-field.field c.in_ok-field.after (listed_at (field_at c.args.depth (expr_at c.args.depth)) CloseBrace c.args.cursor) below begins c.in_ok-field.ensures go c.in_err-comma.ensures c.loop.invariant)

pub lists::values-returns-then-not-has_mark : goal.lists::values-returns-then-not-has_mark
lists::values-returns-then-not-has_mark t c =
    let pushed : c.push.new.self ≡ c.loop.values ++ c.in_ok-value.value ∷ [] = search rules in
    let begins : has_mark c.args.close c.loop.rest ≡ false = search rules in
    let stop : has_mark Comma c.in_ok-value.after ≡ false = search rules in
    let below : c.loop.counter < length c.args.cursor = search rules in
    rw pushed (read_last (has_mark c.args.close) (whole_at c.args.depth (expr_at c.args.depth)) (has_mark Comma) Comma (length c.args.cursor) c.loop.counter c.loop.values c.loop.commas c.loop.rest c.in_ok-value.value c.in_ok-value.after (listed_at (whole_at c.args.depth (expr_at c.args.depth)) c.args.close c.args.cursor) below begins c.in_ok-value.ensures stop c.loop.invariant)

pub lists::values-returns-in_err-comma : goal.lists::values-returns-in_err-comma
lists::values-returns-in_err-comma t c =
    let p = err_from_is_err_and c.from_residual-in_err-comma.result c.from_residual-in_err-comma.ensures.1 in
    let begins : has_mark c.args.close c.loop.rest ≡ false = search rules in
    let go : has_mark Comma c.in_ok-value.after ≡ true = search rules in
    let below : c.loop.counter < length c.args.cursor = search rules in
    rw (p.1, p.2) (no_mark (has_mark c.args.close) (whole_at c.args.depth (expr_at c.args.depth)) (has_mark Comma) Comma c.in_err-comma.field-0.0 (length c.args.cursor) c.loop.counter c.loop.values c.loop.commas c.loop.rest c.in_ok-value.value c.in_ok-value.after (listed_at (whole_at c.args.depth (expr_at c.args.depth)) c.args.close c.args.cursor) below begins c.in_ok-value.ensures go c.in_err-comma.ensures c.loop.invariant)
