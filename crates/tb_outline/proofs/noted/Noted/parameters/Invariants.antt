use Rattle.std.proofs.Common.{◌≡◌, ◌++◌, drop, map}
use Rattle.tb_outline.specs.Outlines.{told_steps, joined, parameter_outline}
use Rattle.tb_outline.proofs.noted.Noted.parameters.Given as goal

abbrev pub invariant-loop-parameter : goal.invariant-loop-parameter
invariant-loop-parameter l =
    told_steps l.self.list.items ++ joined (map parameter_outline (drop l.parameter-index l.parameters)) ≡ told_steps l.initial.self.list.items ++ joined (map parameter_outline l.parameters)
