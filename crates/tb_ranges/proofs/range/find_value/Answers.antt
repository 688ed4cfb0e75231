use Rattle.std.proofs.Common.{◌≡◌, ◌+◌, true, false, cond, max, drop, Some, refl, ap, sym, ◌∙◌, arith}
use Rattle.std.proofs.lemmas.Fn.{says_at}
use Rattle.tb_ranges.specs.Ranges.{first_place}
use Rattle.tb_ranges.proofs.Cuts.{first_from}
use Rattle.tb_ranges.proofs.range.find_value.Goals as goal

pub returns-then-test : goal.returns-then-test
returns-then-test g c = λ p by.
    let runs = c.args.runs.now in
    let at = c.loop-run.run-index in
    let run = c.run-item.result in
    let passes : p run.value ≡ true = cc (by _ _ (says_at g.F.Fn c.test.ensures refl), c.if-test.true) in
    let place : max c.args.lo run.lo ≡ c.max.result = omega (arith, c.max.ensures) in
    sym (sym (c.loop-run.invariant p by) ∙ first_from p c.args.lo runs at run (omega arith) c.run-item.is ∙ ap (λ b. cond b (Some (max c.args.lo run.lo)) (first_place p c.args.lo (drop (at + 1) runs))) passes ∙ ap (λ n. Some n) place)

pub loop-run-preserved : goal.loop-run-preserved
loop-run-preserved g c = λ p by.
    let runs = c.args.runs.now in
    let at = c.loop-run.run-index in
    let run = c.run-item.result in
    let fails : p run.value ≡ false = cc (by _ _ (says_at g.F.Fn c.test.ensures refl), c.if-test.false) in
    sym (ap (λ b. cond b (Some (max c.args.lo run.lo)) (first_place p c.args.lo (drop (at + 1) runs))) fails) ∙ sym (first_from p c.args.lo runs at run (omega arith) c.run-item.is) ∙ c.loop-run.invariant p by
