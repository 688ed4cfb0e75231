use Rattle.std.proofs.Common.{◌≡◌, ◌++◌, map, take, drop}
use Rattle.tb_plain.specs.Pruning.{cleared_plain}
use Rattle.tb_plain.proofs.pruning.clear_in.Given as goal

abbrev pub invariant-loop-at : goal.invariant-loop-at
invariant-loop-at l = l.rows.items ≡ map (cleared_plain) (take l.at l.initial.rows.items) ++ drop l.at l.initial.rows.items
