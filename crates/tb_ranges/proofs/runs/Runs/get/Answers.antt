use Rattle.std.proofs.Common.{◌≤◌, ◌<◌, ◌+◌, length, take, ap, sym, ◌∙◌, arith}
use Rattle.std.specs.List.{slice_get}
use Rattle.tb_ranges.specs.Pieces.{end_of}
use Rattle.tb_ranges.proofs.RunLaws.{stands_at}
use Rattle.tb_ranges.proofs.Values.{sized, value_at}
use Rattle.tb_ranges.proofs.runs.Runs.get.Goals as goal

pub find_run-requires-clause-runs : goal.find_run-requires-clause-runs
find_run-requires-clause-runs g c = rw c.deref.ensures.value (sized c.self.inside.size c.self.inside.runs.items c.self.invariant)

pub returns : goal.returns
returns g c =
    let runs = c.self.inside.runs.items in
    let found = c.find_run in
    let lent = c.deref.ensures.value in
    let within : found.result < length runs = omega (arith, found.ensures.bound, ap length lent) in
    let stands = stands_at c.self.inside.size found.result runs c.index.result.now c.self.invariant within c.index.ensures in
    let above : c.index.result.now.lo ≤ c.args.at = omega (arith, stands.from, found.ensures.starts, ap (λ xs. end_of 0 (take found.result xs)) lent) in
    let below : c.args.at < c.index.result.now.hi = omega (arith, stands.to, found.ensures.ends, ap (λ xs. end_of 0 (take (found.result + 1) xs)) lent) in
    ap (λ xs. slice_get xs c.args.at) (sym c.self.view_is) ∙ value_at c.self.inside.size found.result c.args.at runs c.index.result.now stands above below
