use Rattle.std.proofs.Common.{◌≡◌, ◌++◌, ◌∷◌, [], rules, sym, ◌∙◌}
use Rattle.std.proofs.lemmas.Result.{err_from_is_err_and}
use Rattle.tb_small.specs.Reading.{ends_sum, next_atom_at, atoms_at, with_last}
use Rattle.tb_small.proofs.Many.{fails, goes_on}
use Rattle.tb_small.proofs.sums.atoms_at.Goals as goal

pub returns-in_err-atom : goal.returns-in_err-atom
returns-in_err-atom c =
    let p = err_from_is_err_and c.from_residual.result c.from_residual.ensures.1 in
    rw (p.1, p.2) (fails ends_sum (λ _. next_atom_at c.args.scope.now c.args.inside c.args.size) with_last c.in_err-atom.field-0.0 _ _ c.loop.atoms c.loop.rest.now (atoms_at c.args.scope.now c.args.inside c.args.size c.args.text.now) c.loop-test.true (sym c.ends_sum.ensures ∙ c.if-ends_sum.false) c.in_err-atom.ensures c.loop.invariant)

pub loop-preserved : goal.loop-preserved
loop-preserved c =
    let pushed : c.push.new.self ≡ c.loop.atoms ++ c.in_ok-atom.atom ∷ [] = search rules in
    rw pushed (goes_on ends_sum (λ _. next_atom_at c.args.scope.now c.args.inside c.args.size) with_last _ _ c.loop.atoms c.loop.rest.now c.in_ok-atom.atom c.in_ok-atom.after.now (atoms_at c.args.scope.now c.args.inside c.args.size c.args.text.now) c.loop-test.true (sym c.ends_sum.ensures ∙ c.if-ends_sum.false) c.in_ok-atom.ensures c.loop.invariant)
