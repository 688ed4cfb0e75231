use Rattle.std.proofs.Common.{◌≡◌, ◌≤◌, ◌<◌, ◌+◌, ◌-◌, ◌^◌, length, take, refl, ap, subst, arith}
use Rattle.std.specs.Fn.{FnReturnsAt}
use Rattle.std.proofs.lemmas.Fn.{says_at}
use Rattle.tb_ranges.specs.Runs.{expanded}
use Rattle.tb_ranges.specs.Pieces.{end_of, AddsMapped}
use Rattle.tb_ranges.proofs.Places.{count_before}
use Rattle.tb_ranges.proofs.RunLaws.{stands_at}
use Rattle.tb_ranges.proofs.Mapping.{none_mapped, mapped_more, mapped_on}
use Rattle.tb_ranges.proofs.patch.push_mapped.Goals as goal

pub loop-f-init : goal.loop-f-init
loop-f-init g c = record {
  past = omega arith;
  bound = c.requires.first;
  starts = c.requires.starts;
  ends = c.requires.ends;
  order = omega arith;
  below = c.requires.order;
  adds = none_mapped (FnReturnsAt g.F.Fn c.args.f) c.args.lo (expanded c.args.runs.now) c.args.out.now.items;
}

pub offset_bounds-runs-at : goal.offset_bounds-runs-at
offset_bounds-runs-at g c = omega (arith, c.loop-f.invariant.bound)

pub bounds-runs-at : goal.bounds-runs-at
bounds-runs-at g c = c.loop-f.invariant.bound

pub push_run-requires-clause-order : goal.push_run-requires-clause-order
push_run-requires-clause-order g c =
    let stands = stands_at (length (expanded c.args.runs.now)) c.loop-f.at c.args.runs.now c.index-runs-at.result c.requires.runs c.loop-f.invariant.bound c.index-runs-at.is in
    omega (arith, stands.to, c.loop-f.invariant.ends, c.loop-f.invariant.below, c.min-to.ensures)

pub overflow_add-at : goal.overflow_add-at
overflow_add-at g c =
    let count = count_before (length (expanded c.args.runs.now)) c.loop-f.at c.args.runs.now c.requires.runs c.loop-f.invariant.bound in
    let few : c.loop-f.at < 2 ^ 32 = omega (arith, count, c.loop-f.invariant.starts, c.loop-f.invariant.below, c.ranges.hi) in
    omega (arith, few)

pub returns-then-to-hi-clause-bounds : goal.returns-then-to-hi-clause-bounds
returns-then-to-hi-clause-bounds g c = (omega (arith, c.loop-f.invariant.past), omega (arith, c.loop-f.invariant.bound))

pub returns-then-to-hi-clause-past : goal.returns-then-to-hi-clause-past
returns-then-to-hi-clause-past g c =
    let runs = c.args.runs.now in
    let stands = stands_at (length (expanded runs)) c.loop-f.at runs c.index-runs-at.result c.requires.runs c.loop-f.invariant.bound c.index-runs-at.is in
    let here : c.loop-f.at + 1 - 1 ≡ c.loop-f.at = omega arith in
    (omega (arith, ap (λ n. end_of 0 (take n runs)) here, c.loop-f.invariant.starts, c.loop-f.invariant.below), omega (arith, stands.to, c.min-to.ensures, c.if-to-hi.true))

pub returns-then-to-hi-clause-adds : goal.returns-then-to-hi-clause-adds
returns-then-to-hi-clause-adds g c =
    let runs = c.args.runs.now in
    let size = length (expanded runs) in
    let was = c.loop-f.invariant in
    let run = c.index-runs-at.result in
    let stands = stands_at size c.loop-f.at runs run c.requires.runs was.bound c.index-runs-at.is in
    let above : run.lo ≤ c.loop-f.from = omega (arith, stands.from, was.starts) in
    let grows : c.loop-f.from ≤ c.min-to.result = omega (arith, stands.to, was.ends, was.below, c.min-to.ensures) in
    let within : c.min-to.result ≤ run.hi = omega (arith, c.min-to.ensures) in
    let R = FnReturnsAt g.F.Fn c.args.f in
    let more = mapped_more R size runs c.loop-f.at c.args.lo c.loop-f.from c.min-to.result run c.f.result c.args.out.now.items c.loop-f.out.items c.push_run.new.out.items stands above was.order grows within (says_at g.F.Fn c.f.ensures refl) was.adds c.in_ok-push_run.ensures.adds in
    subst (λ n. AddsMapped R c.args.lo n (expanded runs) c.args.out.now.items c.push_run.new.out.items) c.if-to-hi.true more

pub loop-f-smaller : goal.loop-f-smaller
loop-f-smaller g c =
    let stands = stands_at (length (expanded c.args.runs.now)) c.loop-f.at c.args.runs.now c.index-runs-at.result c.requires.runs c.loop-f.invariant.bound c.index-runs-at.is in
    omega (arith, stands.to, c.loop-f.invariant.ends, c.loop-f.invariant.below, c.min-to.ensures)

pub loop-f-preserved : goal.loop-f-preserved
loop-f-preserved g c =
    let runs = c.args.runs.now in
    let size = length (expanded runs) in
    let was = c.loop-f.invariant in
    let run = c.index-runs-at.result in
    let stands = stands_at size c.loop-f.at runs run c.requires.runs was.bound c.index-runs-at.is in
    let above : run.lo ≤ c.loop-f.from = omega (arith, stands.from, was.starts) in
    let grows : c.loop-f.from ≤ c.min-to.result = omega (arith, stands.to, was.ends, was.below, c.min-to.ensures) in
    let within : c.min-to.result ≤ run.hi = omega (arith, c.min-to.ensures) in
    let R = FnReturnsAt g.F.Fn c.args.f in
    let more = mapped_more R size runs c.loop-f.at c.args.lo c.loop-f.from c.min-to.result run c.f.result c.args.out.now.items c.loop-f.out.items c.push_run.new.out.items stands above was.order grows within (says_at g.F.Fn c.f.ensures refl) was.adds c.in_ok-push_run.ensures.adds in
    let less : c.min-to.result < c.args.hi = omega (arith, c.min-to.ensures) in
    let is : c.min-to.result ≡ run.hi = omega (arith, c.min-to.ensures, less) in
    mapped_on R size runs c.args.first c.args.lo c.args.hi c.loop-f.at c.loop-f.from c.min-to.result run c.args.out.now.items c.loop-f.out.items c.push_run.new.out.items c.requires.runs c.requires.within stands is less was more
