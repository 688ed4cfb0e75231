use Rattle.std.proofs.Common.{◌≡◌, drop, find}
use Rattle.tb_plain.specs.Sweep.{refuses_by}
use Rattle.tb_plain.proofs.choice.least.Given as goal

abbrev pub invariant-loop-row : goal.invariant-loop-row
invariant-loop-row l = find (refuses_by l.sweep l.byte) (drop l.row-index l.rows) ≡ find (refuses_by l.sweep l.byte) l.rows
