use Rattle.std.proofs.Common.{◌≡◌, ◌++◌, drop, map}
use Rattle.tb_outline.specs.Outlines.{told_steps, joined, member_outline}
use Rattle.tb_outline.proofs.noted.Noted.members.Given as goal

abbrev pub invariant-loop-field : goal.invariant-loop-field
invariant-loop-field l =
    told_steps l.self.list.items ++ joined (map member_outline (drop l.field-index l.fields)) ≡ told_steps l.initial.self.list.items ++ joined (map member_outline l.fields)
