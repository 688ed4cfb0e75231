use Rattle.std.proofs.Common.{◌≡◌, Some, None, ◌++◌, ap, sym, ◌∙◌, subst, arith, refl, replicate, ◌-◌}
use Rattle.tb_ranges.specs.Pieces.{IsRebuilt, last_of}
use Rattle.tb_ranges.proofs.Places.{last_of-append}
use Rattle.tb_ranges.proofs.Growth.{pushed, grown, last_of-stretched}
use Rattle.tb_ranges.proofs.pieces.push_run.Goals as goal

pub returns-then-ends_in-clause-adds : goal.returns-then-ends_in-clause-adds
returns-then-ends_in-clause-adds g c = λ front values was.
    let old = c.args.out.now.items in
    let last : last_of None old ≡ Some c.args.value = ap (last_of None) (sym c.deref.ensures.value) ∙ c.ends_in.ensures.same c.if-ends_in.true in
    subst (λ xs. IsRebuilt front xs c.args.hi (values ++ replicate (c.args.hi - c.args.lo) c.args.value)) (sym c.stretch.ensures)
    (grown front old c.args.lo c.args.hi c.args.value values (omega arith) last was)

pub returns-then-ends_in-clause-ends : goal.returns-then-ends_in-clause-ends
returns-then-ends_in-clause-ends g c = λ order.
    let old = c.args.out.now.items in
    let last : last_of None old ≡ Some c.args.value = ap (last_of None) (sym c.deref.ensures.value) ∙ c.ends_in.ensures.same c.if-ends_in.true in
    ap (last_of None) c.stretch.ensures ∙ last_of-stretched None c.args.hi old ∙ last

pub returns-in-Ok-clause-adds : goal.returns-in-Ok-clause-adds
returns-in-Ok-clause-adds g c = λ front values was.
    let old = c.args.out.now.items in
    subst (λ xs. IsRebuilt front xs c.args.hi (values ++ replicate (c.args.hi - c.args.lo) c.args.value)) (sym c.in-Ok.ensures.items)
    (pushed front old c.args.lo c.args.hi c.args.value values _ refl refl refl (omega arith) (λ e. c.ends_in.ensures.differs c.if-ends_in.false (ap (last_of None) c.deref.ensures.value ∙ e)) was)

pub returns-in-Ok-clause-ends : goal.returns-in-Ok-clause-ends
returns-in-Ok-clause-ends g c = λ order. ap (last_of None) c.in-Ok.ensures.items ∙ last_of-append None c.args.out.now.items _
