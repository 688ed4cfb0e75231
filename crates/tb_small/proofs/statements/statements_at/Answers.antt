use Rattle.std.proofs.Common.{◌≡◌, ◌++◌, ◌∷◌, [], length, ap, rules, sym, ◌∙◌, arith}
use Rattle.std.proofs.lemmas.Result.{err_from_is_err_and}
use Rattle.tb_small.specs.Grammar.{bindings}
use Rattle.tb_small.specs.Reading.{closes, next_statement_at, statements_at, with_last}
use Rattle.tb_small.proofs.Many.{goes_on, fails, ends, done}
use Rattle.tb_small.proofs.Counts.{within-some}
use Rattle.tb_small.proofs.Nexts.{scope-push, locals-push, lets-few, next-read, next-unread, next-crowded}
use Rattle.tb_small.proofs.statements.statements_at.Goals as goal

pub returns-then-closes : goal.returns-then-closes
returns-then-closes c = done closes (next_statement_at c.args.size) with_last _ c.loop.statements c.loop.rest.now (statements_at c.args.size c.args.text.now) (sym c.closes.ensures ∙ c.if-closes.true) c.loop.invariant.read

pub statement_at-requires-clause-room : goal.statement_at-requires-clause-room
statement_at-requires-clause-room c =
    let lets = lets-few c.loop.statements in
    let same = ap length (c.as_slice.ensures.value ∙ c.loop.invariant.scope) in
    omega arith

pub returns-in_err-statement : goal.returns-in_err-statement
returns-in_err-statement c =
    let p = err_from_is_err_and c.from_residual.result c.from_residual.ensures.1 in
    let unread = next-unread c.args.size c.loop.statements c.loop.rest.now c.as_slice.result.now c.loop.locals (c.as_slice.ensures.value ∙ c.loop.invariant.scope) c.loop.invariant.count c.in_err-statement.field-0.0 c.in_err-statement.ensures in
    rw (p.1, p.2) (fails closes (next_statement_at c.args.size) with_last c.in_err-statement.field-0.0 _ _ c.loop.statements c.loop.rest.now (statements_at c.args.size c.args.text.now) c.loop-test.true (sym c.closes.ensures ∙ c.if-closes.false) unread c.loop.invariant.read)

pub returns-in_err-locals : goal.returns-in_err-locals
returns-in_err-locals c =
    let p = err_from_is_err_and c.from_residual-in_err-locals.result c.from_residual-in_err-locals.ensures.1 in
    let crowded = next-crowded c.args.size c.loop.statements c.loop.rest.now c.as_slice.result.now c.loop.locals (c.as_slice.ensures.value ∙ c.loop.invariant.scope) c.loop.invariant.count c.in_err-locals.field-0.0 c.in_ok-statement.statement c.in_ok-statement.after.now c.in_ok-statement.ensures c.in_err-locals.ensures in
    rw (p.1, p.2) (fails closes (next_statement_at c.args.size) with_last c.in_err-locals.field-0.0 _ _ c.loop.statements c.loop.rest.now (statements_at c.args.size c.args.text.now) c.loop-test.true (sym c.closes.ensures ∙ c.if-closes.false) crowded c.loop.invariant.read)

pub loop-preserved : goal.loop-preserved
loop-preserved c =
    let next = c.in_ok-statement.statement in
    let pushed : c.push.new.self ≡ c.loop.statements ++ next ∷ [] = search rules in
    let read = next-read c.args.size c.loop.statements c.loop.rest.now c.as_slice.result.now c.loop.locals (c.as_slice.ensures.value ∙ c.loop.invariant.scope) c.loop.invariant.count next c.in_ok-statement.after.now c.in_ok-locals.locals c.in_ok-statement.ensures c.in_ok-locals.ensures in
    let few = within-some _ c.in_ok-locals.locals c.in_ok-locals.ensures in
    let push = locals-push c.loop.statements next in
    let bound = c.in_ok-bind.ensures.bound in
    rw pushed (record {
      read = goes_on closes (next_statement_at c.args.size) with_last _ _ c.loop.statements c.loop.rest.now next c.in_ok-statement.after.now (statements_at c.args.size c.args.text.now) c.loop-test.true (sym c.closes.ensures ∙ c.if-closes.false) read c.loop.invariant.read;
      scope = bound ∙ ap (λ l. l ++ bindings next) c.loop.invariant.scope ∙ sym (scope-push c.loop.statements next);
      count = omega arith;
      few = omega arith;
    })

pub returns-then-closes-2 : goal.returns-then-closes-2
returns-then-closes-2 c = done closes (next_statement_at c.args.size) with_last _ c.loop.statements c.loop.rest.now (statements_at c.args.size c.args.text.now) (sym c.closes-2.ensures ∙ c.if-closes-2.true) c.loop.invariant.read

pub returns : goal.returns
returns c = ends closes (next_statement_at c.args.size) with_last _ _ c.loop.statements c.loop.rest.now (statements_at c.args.size c.args.text.now) c.loop-test.false (sym c.closes-2.ensures ∙ c.if-closes-2.false) c.loop.invariant.read
