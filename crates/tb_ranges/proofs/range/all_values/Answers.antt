use Rattle.std.proofs.Common.{◌≡◌, ◌&&◌, ◌+◌, true, false, drop, refl, ap, sym, ◌∙◌, arith}
use Rattle.std.specs.List.{list_all}
use Rattle.std.proofs.lemmas.Fn.{says_at}
use Rattle.std.proofs.lemmas.List.{drop_all}
use Rattle.tb_ranges.specs.declared.run.Run.{Run}
use Rattle.tb_ranges.proofs.Cuts.{all_from}
use Rattle.tb_ranges.proofs.range.all_values.Goals as goal

pub returns-then-not-test : goal.returns-then-not-test
returns-then-not-test g c = λ p by.
    let runs = c.args.runs.now in
    let at = c.loop-run.run-index in
    let run = c.run-item.result in
    let fails : p run.value ≡ false = cc (by _ _ (says_at g.F.Fn c.test.ensures refl), c.if-not-test.true) in
    sym (sym (c.loop-run.invariant p by) ∙ all_from p runs at run (omega arith) c.run-item.is ∙ ap (λ b. b && list_all (λ (r : Run _). p r.value) (drop (at + 1) runs)) fails)

pub loop-run-preserved : goal.loop-run-preserved
loop-run-preserved g c = λ p by.
    let runs = c.args.runs.now in
    let at = c.loop-run.run-index in
    let run = c.run-item.result in
    let passes : p run.value ≡ true = cc (by _ _ (says_at g.F.Fn c.test.ensures refl), c.if-not-test.false) in
    sym (ap (λ b. b && list_all (λ (r : Run _). p r.value) (drop (at + 1) runs)) passes) ∙ sym (all_from p runs at run (omega arith) c.run-item.is) ∙ c.loop-run.invariant p by

pub returns : goal.returns
returns g c = λ p by.
    sym (ap (list_all (λ (r : Run _). p r.value)) (drop_all c.loop-run.run-index c.args.runs.now (omega arith))) ∙ c.loop-run.invariant p by
