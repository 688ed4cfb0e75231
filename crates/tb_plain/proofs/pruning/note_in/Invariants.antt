use Rattle.std.proofs.Common.{◌≡◌, ◌++◌, map, take, drop}
use Rattle.tb_plain.specs.Pruning.{noted_plain}
use Rattle.tb_plain.proofs.pruning.note_in.Given as goal

abbrev pub invariant-loop-at : goal.invariant-loop-at
invariant-loop-at l = l.rows.items ≡ map (noted_plain l.tag.0) (take l.at l.initial.rows.items) ++ drop l.at l.initial.rows.items
