use Rattle.std.proofs.Common.{◌≡◌, ◌≤◌, ◌<◌, ◌+◌, ◌-◌, length, take, ap, arith}
use Rattle.tb_ranges.specs.Runs.{expanded}
use Rattle.tb_ranges.specs.Pieces.{end_of}
use Rattle.tb_ranges.proofs.RunLaws.{stands_at}
use Rattle.tb_ranges.proofs.Mapping.{right_end, right_next}
use Rattle.tb_ranges.proofs.patch.push_right.Goals as goal

pub push_run-requires-clause-order : goal.push_run-requires-clause-order
push_run-requires-clause-order g c =
    let runs = c.args.runs.now in
    let here : c.args.past - 1 + 1 ≡ c.args.past = omega arith in
    let stands = stands_at (length (expanded runs)) (c.args.past - 1) runs c.index-runs-past.result c.requires.runs (omega arith) c.index-runs-past.is in
    omega (arith, stands.to, ap (λ n. end_of 0 (take n runs)) here, c.requires.ends)

pub returns-then-past-runs-clause-completes : goal.returns-then-past-runs-clause-completes
returns-then-past-runs-clause-completes g c =
    let runs = c.args.runs.now in
    let size = length (expanded runs) in
    let last = c.index-runs-past.result in
    let here : c.args.past - 1 + 1 ≡ c.args.past = omega arith in
    let stands = stands_at size (c.args.past - 1) runs last c.requires.runs (omega arith) c.index-runs-past.is in
    let above : last.lo < c.args.hi = omega (arith, stands.from, c.requires.last) in
    let below : c.args.hi ≤ last.hi = omega (arith, stands.to, ap (λ n. end_of 0 (take n runs)) here, c.requires.ends) in
    right_end size c.args.past c.args.hi runs last c.args.out.now.items c.push_run.new.out.items c.requires.runs stands c.requires.some c.if-past-runs.true above below c.in_ok-push_run.ensures.adds

pub push_run-requires-2-clause-order : goal.push_run-requires-2-clause-order
push_run-requires-2-clause-order g c =
    let runs = c.args.runs.now in
    let stands = stands_at (length (expanded runs)) c.args.past runs c.index-runs-past-2.result c.requires.runs (omega arith) c.index-runs-past-2.is in
    omega (arith, stands.some)

pub returns-clause-completes : goal.returns-clause-completes
returns-clause-completes g c =
    let runs = c.args.runs.now in
    let size = length (expanded runs) in
    let last = c.index-runs-past.result in
    let next = c.index-runs-past-2.result in
    let here : c.args.past - 1 + 1 ≡ c.args.past = omega arith in
    let stands = stands_at size (c.args.past - 1) runs last c.requires.runs (omega arith) c.index-runs-past.is in
    let follows = stands_at size c.args.past runs next c.requires.runs (omega arith) c.index-runs-past-2.is in
    let above : last.lo < c.args.hi = omega (arith, stands.from, c.requires.last) in
    let below : c.args.hi ≤ last.hi = omega (arith, stands.to, ap (λ n. end_of 0 (take n runs)) here, c.requires.ends) in
    right_next size c.args.past c.args.hi runs last next c.args.out.now.items c.push_run.new.out.items c.push_run-2.new.out.items c.requires.runs stands follows c.requires.some above below c.in_ok-push_run.ensures.adds c.in_ok-push_run-2.ensures.adds (c.in_ok-push_run-2.ensures.ends follows.some)
