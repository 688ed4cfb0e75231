use Rattle.std.proofs.Common.{◌≤◌, length, take, sym, subst, arith}
use Rattle.tb_ranges.specs.Runs.{expanded}
use Rattle.tb_ranges.specs.Pieces.{IsRebuilt}
use Rattle.tb_ranges.proofs.RunLaws.{stands_at}
use Rattle.tb_ranges.proofs.Mapping.{begun, opened}
use Rattle.tb_ranges.proofs.patch.open_patch.Goals as goal

pub push_run-requires-clause-order : goal.push_run-requires-clause-order
push_run-requires-clause-order g c =
    let runs = c.args.runs.now in
    let found = c.find_run-first in
    let stands = stands_at (length (expanded runs)) found.result runs c.index-runs-first.result c.requires.runs found.ensures.bound c.index-runs-first.is in
    omega (arith, stands.from, found.ensures.starts)

pub returns-clause-values : goal.returns-clause-values
returns-clause-values g c =
    let runs = c.args.runs.now in
    let size = length (expanded runs) in
    let first = c.find_run-first.result in
    let start = c.saturating_sub-start.result in
    let found = c.find_run-first.ensures in
    let run = c.index-runs-first.result in
    let stands = stands_at size first runs run c.requires.runs found.bound c.index-runs-first.is in
    let above : run.lo ≤ c.args.lo = omega (arith, stands.from, found.starts) in
    let below : c.args.lo ≤ run.hi = omega (arith, stands.to, found.ends) in
    let kept = begun size first start runs run c.requires.runs found.bound c.saturating_sub-start.ensures stands in
    let left = subst (λ xs. IsRebuilt (take start runs) xs run.lo (expanded (take first runs))) (sym c.in-Ok.ensures.items) kept in
    opened size first start c.args.lo runs _ run c.requires.runs stands above below (c.in_ok-push_run.ensures.adds (take start runs) _ left)
