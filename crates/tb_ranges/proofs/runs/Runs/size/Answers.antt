use Rattle.std.proofs.Common.{length, ap, sym, ◌∙◌}
use Rattle.tb_ranges.proofs.Values.{size_of}
use Rattle.tb_ranges.proofs.runs.Runs.size.Goals as goal

pub returns : goal.returns
returns g c = sym (size_of c.self.inside.size c.self.inside.runs.items c.self.invariant) ∙ ap length c.self.view_is
