use Rattle.std.proofs.Common.{◌≡◌, ◌++◌, ◌∷◌, [], rules, sym, ◌∙◌}
use Rattle.std.proofs.lemmas.Result.{err_from_is_err_and}
use Rattle.tb_small.specs.Reading.{closes, inner_at, inners_at, with_last}
use Rattle.tb_small.proofs.Many.{fails, goes_on}
use Rattle.tb_small.proofs.statements.inners_at.Goals as goal

pub returns-in_err-statement : goal.returns-in_err-statement
returns-in_err-statement c =
    let p = err_from_is_err_and c.from_residual.result c.from_residual.ensures.1 in
    rw (p.1, p.2) (fails closes (λ _. inner_at c.args.scope.now c.args.size) with_last c.in_err-statement.field-0.0 _ _ c.loop.statements c.loop.rest.now (inners_at c.args.scope.now c.args.size c.args.text.now) c.loop-test.true (sym c.closes.ensures ∙ c.if-closes.false) c.in_err-statement.ensures c.loop.invariant)

pub loop-preserved : goal.loop-preserved
loop-preserved c =
    let pushed : c.push.new.self ≡ c.loop.statements ++ c.in_ok-statement.statement ∷ [] = search rules in
    rw pushed (goes_on closes (λ _. inner_at c.args.scope.now c.args.size) with_last _ _ c.loop.statements c.loop.rest.now c.in_ok-statement.statement c.in_ok-statement.after.now (inners_at c.args.scope.now c.args.size c.args.text.now) c.loop-test.true (sym c.closes.ensures ∙ c.if-closes.false) c.in_ok-statement.ensures c.loop.invariant)
