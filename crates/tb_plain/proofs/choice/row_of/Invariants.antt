use Rattle.std.proofs.Common.{◌≡◌, drop, find}
use Rattle.tb_plain.specs.Sweep.{is_plain}
use Rattle.tb_plain.proofs.choice.row_of.Given as goal

abbrev pub invariant-loop-row : goal.invariant-loop-row
invariant-loop-row l = find (is_plain l.key) (drop l.row-index l.rows) ≡ find (is_plain l.key) l.rows
