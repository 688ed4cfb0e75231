use Rattle.std.proofs.Common.{◌≡◌, ◌++◌, drop, map}
use Rattle.tb_outline.specs.Outlines.{told_steps, joined, written_outline}
use Rattle.tb_outline.proofs.noted.Noted.types.Given as goal

abbrev pub invariant-loop-ty : goal.invariant-loop-ty
invariant-loop-ty l =
    told_steps l.self.list.items ++ joined (map written_outline (drop l.ty-index l.types)) ≡ told_steps l.initial.self.list.items ++ joined (map written_outline l.types)
