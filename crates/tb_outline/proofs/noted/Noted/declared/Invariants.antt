use Rattle.std.proofs.Common.{◌≡◌, ◌++◌, drop, map}
use Rattle.tb_outline.specs.Outlines.{told_steps, declared_parameter}
use Rattle.tb_outline.proofs.noted.Noted.declared.Given as goal

abbrev pub invariant-loop-parameter : goal.invariant-loop-parameter
invariant-loop-parameter l =
    told_steps l.self.list.items ++ map declared_parameter (drop l.parameter-index l.parameters) ≡ told_steps l.initial.self.list.items ++ map declared_parameter l.parameters
