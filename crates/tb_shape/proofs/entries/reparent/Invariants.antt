use Rattle.std.proofs.Common.{◌≡◌, ◌++◌, map, take, drop}
use Rattle.tb_shape.specs.Entries.{reparented}
use Rattle.tb_shape.proofs.entries.reparent.Given as goal

abbrev pub invariant-loop-at : goal.invariant-loop-at
invariant-loop-at l = l.entries.items ≡ map (reparented l.old l.new) (take l.at l.initial.entries.items) ++ drop l.at l.initial.entries.items
