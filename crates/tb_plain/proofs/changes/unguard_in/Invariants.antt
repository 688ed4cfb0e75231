use Rattle.std.proofs.Common.{◌≡◌, ◌++◌, map, take, drop}
use Rattle.tb_plain.specs.Changes.{unguarded_plain}
use Rattle.tb_plain.proofs.changes.unguard_in.Given as goal

abbrev pub invariant-loop-at : goal.invariant-loop-at
invariant-loop-at l = l.rows.items ≡ map (unguarded_plain l.tag.0) (take l.at l.initial.rows.items) ++ drop l.at l.initial.rows.items
