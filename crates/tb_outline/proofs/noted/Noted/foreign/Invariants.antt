use Rattle.std.proofs.Common.{◌≡◌, ◌++◌, drop, map}
use Rattle.tb_outline.specs.Outlines.{told_steps, joined, foreign_outline}
use Rattle.tb_outline.proofs.noted.Noted.foreign.Given as goal

abbrev pub invariant-loop-function : goal.invariant-loop-function
invariant-loop-function l =
    told_steps l.self.list.items ++ joined (map foreign_outline (drop l.function-index l.functions)) ≡ told_steps l.initial.self.list.items ++ joined (map foreign_outline l.functions)
