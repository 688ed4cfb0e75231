use Rattle.std.proofs.Common.{subst}
use Rattle.std.specs.List.{AllZip, slice_range, splice}
use Rattle.std.specs.Fn.{FnReturnsAt}
use Rattle.tb_ranges.specs.Runs.{expanded, AreRuns, MapsRange}
use Rattle.tb_ranges.proofs.Values.{size_of, sized, length_mapped, mapped_by, spliced_back}
use Rattle.tb_ranges.proofs.Mapping.{fixed}
use Rattle.tb_ranges.proofs.runs.Runs.map_range.Goals as goal

pub returns-then-all_fixed-clause-value : goal.returns-then-all_fixed-clause-value
returns-then-all_fixed-clause-value g c =
    let R = FnReturnsAt g.F.Fn c.args.f in
    let self = c.args.self.now in
    let same = fixed R c.args.lo c.args.hi c.runs_in.result.now (c.all_fixed.ensures c.if-all_fixed.true) in
    (slice_range self c.args.lo c.args.hi, spliced_back c.args.lo c.args.hi self c.requires.order, subst (λ xs. AllZip R xs xs) c.runs_in.ensures.values same)

pub returns-then-all_fixed-clause-function : goal.returns-then-all_fixed-clause-function
returns-then-all_fixed-clause-function g c = λ f by.
    let fixed = returns-then-all_fixed-clause-value g c in
    mapped_by (FnReturnsAt g.F.Fn c.args.f) c.args.lo c.args.hi c.args.self.now c.args.self.now (fixed.0, fixed.1, fixed.2) f by

pub make_patch-requires-clause-runs : goal.make_patch-requires-clause-runs
make_patch-requires-clause-runs g c = rw c.deref.ensures.value (sized c.self.inside.size c.self.inside.runs.items c.self.invariant)

pub invariant_of-self-2 : goal.invariant_of-self-2
invariant_of-self-2 g c =
    let runs = c.self.inside.runs.items in
    let patch = c.in_ok-patch.patch in
    let patched = rw c.deref.ensures.value at c.in_ok-patch.ensures.patches in
    rw c.in_ok-apply.ensures.ok (subst (λ n. AreRuns n (splice runs patch.start patch.end patch.runs.items)) (size_of c.self.inside.size runs c.self.invariant) patched.0)

pub returns-clause-function : goal.returns-clause-function
returns-clause-function g c = λ f by.
    let patched = rw c.deref.ensures.value at c.in_ok-patch.ensures.patches in
    let new = c.apply.new.runs.items in
    let R = FnReturnsAt g.F.Fn c.args.f in
    let maps = rw (← c.in_ok-apply.ensures.ok) at patched.1 in
    mapped_by R c.args.lo c.args.hi c.args.self.now (expanded new) (subst (λ xs. MapsRange R c.args.lo c.args.hi xs (expanded new)) c.self.view_is maps) f by

pub returns-clause-size : goal.returns-clause-size
returns-clause-size g c =
    let patched = rw c.deref.ensures.value at c.in_ok-patch.ensures.patches in
    let new = c.apply.new.runs.items in
    let R = FnReturnsAt g.F.Fn c.args.f in
    let maps = rw (← c.in_ok-apply.ensures.ok) at patched.1 in
    length_mapped R c.args.lo c.args.hi c.args.self.now (expanded new) c.requires.order c.requires.within (subst (λ xs. MapsRange R c.args.lo c.args.hi xs (expanded new)) c.self.view_is maps)
