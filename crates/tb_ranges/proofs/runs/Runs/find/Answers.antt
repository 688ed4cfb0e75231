use Rattle.std.proofs.Common.{◌∙◌}
use Rattle.tb_ranges.proofs.Cuts.{first_in}
use Rattle.tb_ranges.proofs.runs.Runs.find.Goals as goal

pub returns : goal.returns
returns g c = λ p by.
    c.find_value.ensures p by ∙ first_in p c.args.lo c.args.hi c.args.self.now c.runs_in.result.now c.runs_in.ensures.runs c.runs_in.ensures.values
