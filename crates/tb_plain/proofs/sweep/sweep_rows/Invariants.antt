use Rattle.std.proofs.Common.{◌≡◌, ◌++◌, map, take, drop}
use Rattle.tb_plain.specs.Sweep.{swept}
use Rattle.tb_plain.proofs.sweep.sweep_rows.Given as goal

abbrev pub invariant-loop-at : goal.invariant-loop-at
invariant-loop-at l = l.rows.items ≡ map (swept l.sweep) (take l.at l.initial.rows.items) ++ drop l.at l.initial.rows.items
