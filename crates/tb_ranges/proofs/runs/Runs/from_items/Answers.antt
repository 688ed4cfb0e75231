use Rattle.std.specs.Fn.{FnReturnsAt}
use Rattle.tb_ranges.specs.Runs.{expanded}
use Rattle.tb_ranges.proofs.Values.{AllZip-map}
use Rattle.tb_ranges.proofs.runs.Runs.from_items.Goals as goal

pub returns-clause-function : goal.returns-clause-function
returns-clause-function g c = λ f by. AllZip-map (FnReturnsAt g.F.Fn c.args.f) f c.args.items.now (expanded c.in_ok-runs.runs.items) by c.in_ok-runs.ensures.values
