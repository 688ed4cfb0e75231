use Rattle.std.proofs.Common.{◌≡◌, ◌<◌, min, true, false, length, ap, sym, ◌∙◌, subst, arith}
use Rattle.std.specs.Prelude.{zip}
use Rattle.std.specs.List.{list_all}
use Rattle.tb_ranges.specs.Runs.{expanded}
use Rattle.tb_ranges.specs.Ranges.{from_place, rest_at}
use Rattle.tb_ranges.proofs.Reading.{IsRead}
use Rattle.tb_ranges.proofs.Pairing.{none_right, fails_on, passes_on, read_both}
use Rattle.tb_ranges.proofs.pairs.all_pairs.Goals as goal

pub returns-then-right-eq0 : goal.returns-then-right-eq0
returns-then-right-eq0 g c = λ p by. none_right (λ pair. p pair.0 pair.1) c.loop-left.at (expanded (from_place c.loop-left.at c.loop-left.left.now)) c.loop-left.right.now (omega (arith, c.if-right-eq0.true)) ∙ c.loop-left.invariant.same p by

pub returns-then-not-test : goal.returns-then-not-test
returns-then-not-test g c = λ p by.
    let a = c.index-left-0.result in
    let b = c.index-right-0.result in
    let l = c.loop-left in
    let fails : p a.value b.value ≡ false = cc (by _ _ _ c.test.ensures, c.if-not-test.true) in
    fails_on p l.at l.left.now l.right.now a b l.invariant.left l.invariant.right (omega (arith, c.loop-left-test.true)) (omega (arith, c.if-right-eq0.false)) c.index-left-0.is c.index-right-0.is fails
    ∙ l.invariant.same p by

pub loop-left-preserved : goal.loop-left-preserved
loop-left-preserved g c =
    let a = c.index-left-0.result in
    let b = c.index-right-0.result in
    let l = c.loop-left in
    let to = c.min-at.result in
    let some : 0 < length l.left.now = omega (arith, c.loop-left-test.true) in
    let other : 0 < length l.right.now = omega (arith, c.if-right-eq0.false) in
    let end : to ≡ min a.hi b.hi = c.min-at.ensures in
    let reads = read_both l.at to l.left.now l.right.now a b l.invariant.left l.invariant.right some other c.index-left-0.is c.index-right-0.is end in
    record {
      left = subst (IsRead to) (sym c.after-left.ensures) reads.0;
      right = subst (IsRead to) (sym c.after-right.ensures) reads.1;
      same = λ p by.
          let passes : p a.value b.value ≡ true = cc (by _ _ _ c.test.ensures, c.if-not-test.false) in
          ap (λ xs. list_all (λ pair. p pair.0 pair.1) (zip (expanded (from_place to xs)) (expanded (from_place to c.after-right.result.now)))) c.after-left.ensures
          ∙ ap (λ ys. list_all (λ pair. p pair.0 pair.1) (zip (expanded (from_place to (rest_at to l.left.now))) (expanded (from_place to ys)))) c.after-right.ensures
          ∙ passes_on p l.at to l.left.now l.right.now a b l.invariant.left l.invariant.right some other c.index-left-0.is c.index-right-0.is end passes
          ∙ l.invariant.same p by;
    }
