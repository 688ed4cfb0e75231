use Rattle.std.proofs.Common.{◌∙◌, rules}
use Rattle.std.proofs.lemmas.Result.{on_ok_weaker}
use Rattle.tb_ranges.proofs.Values.{splice_same}
use Rattle.tb_ranges.proofs.runs.Runs.set.Goals as goal

pub returns-clause-value : goal.returns-clause-value
returns-clause-value g c =
    on_ok_weaker c.map_range.result
    (λ is. is (λ _. c.args.v) (λ x y e. search rules) ∙ splice_same c.args.v c.args.lo c.args.hi c.args.self.now c.requires.within)
    c.map_range.ensures.function
