use Rattle.std.proofs.Common.{◌≡◌, ◌++◌, drop, map}
use Rattle.tb_outline.specs.Outlines.{told_steps, joined, type_outline, argument_outline}
use Rattle.tb_outline.proofs.noted.Noted.+types.Given as goal

abbrev pub invariant-types_parts-loop-ty : goal.invariant-types_parts-loop-ty
invariant-types_parts-loop-ty l =
    told_steps l.self.list.items ++ joined (map type_outline (drop l.ty-index l.types)) ≡ told_steps l.initial.self.list.items ++ joined (map type_outline l.types)

abbrev pub invariant-arguments-loop-argument : goal.invariant-arguments-loop-argument
invariant-arguments-loop-argument l =
    told_steps l.self.list.items ++ joined (map argument_outline (drop l.argument-index l.arguments)) ≡ told_steps l.initial.self.list.items ++ joined (map argument_outline l.arguments)
