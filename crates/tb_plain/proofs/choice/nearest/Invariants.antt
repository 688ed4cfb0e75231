use Rattle.std.proofs.Common.{◌≡◌, drop, find}
use Rattle.tb_plain.specs.Sweep.{refuses_by, rows_on}
use Rattle.tb_plain.proofs.choice.nearest.Given as goal

abbrev pub invariant-loop-key : goal.invariant-loop-key
invariant-loop-key l = find (refuses_by l.sweep l.byte) (rows_on (drop l.key-index l.sweep.path) l.rows) ≡ find (refuses_by l.sweep l.byte) (rows_on l.sweep.path l.rows)
