use Rattle.std.proofs.Common.{◌∙◌}
use Rattle.tb_ranges.proofs.Cuts.{all_in}
use Rattle.tb_ranges.proofs.runs.Runs.all.Goals as goal

pub returns : goal.returns
returns g c = λ p by.
    c.all_values.ensures p by ∙ all_in p c.args.lo c.args.hi c.args.self.now c.runs_in.result.now c.runs_in.ensures.runs c.runs_in.ensures.values
