use Rattle.std.proofs.Common.{◌≡◌, ◌++◌, ◌∷◌, [], rules, sym, ◌∙◌}
use Rattle.std.proofs.lemmas.Result.{err_from_is_err_and}
use Rattle.tb_small.specs.Reading.{ends_arguments, next_argument_at, arguments_at, with_last}
use Rattle.tb_small.proofs.Many.{fails, goes_on}
use Rattle.tb_small.proofs.sums.arguments_at.Goals as goal

pub returns-in_err-argument : goal.returns-in_err-argument
returns-in_err-argument c =
    let p = err_from_is_err_and c.from_residual.result c.from_residual.ensures.1 in
    rw (p.1, p.2) (fails ends_arguments (λ _. next_argument_at c.args.scope.now c.args.inside c.args.size) with_last c.in_err-argument.field-0.0 _ _ c.loop.arguments c.loop.rest.now (arguments_at c.args.scope.now c.args.inside c.args.size c.args.text.now) c.loop-test.true (sym c.ends_arguments.ensures ∙ c.if-ends_arguments.false) c.in_err-argument.ensures c.loop.invariant)

pub loop-preserved : goal.loop-preserved
loop-preserved c =
    let pushed : c.push.new.self ≡ c.loop.arguments ++ c.in_ok-argument.argument ∷ [] = search rules in
    rw pushed (goes_on ends_arguments (λ _. next_argument_at c.args.scope.now c.args.inside c.args.size) with_last _ _ c.loop.arguments c.loop.rest.now c.in_ok-argument.argument c.in_ok-argument.after.now (arguments_at c.args.scope.now c.args.inside c.args.size c.args.text.now) c.loop-test.true (sym c.ends_arguments.ensures ∙ c.if-ends_arguments.false) c.in_ok-argument.ensures c.loop.invariant)
