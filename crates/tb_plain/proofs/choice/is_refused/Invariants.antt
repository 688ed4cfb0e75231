use Rattle.std.proofs.Common.{◌≡◌, drop}
use Rattle.std.specs.List.{list_any}
use Rattle.tb_plain.specs.Sweep.{refuses_by}
use Rattle.tb_plain.proofs.choice.is_refused.Given as goal

abbrev pub invariant-loop-row : goal.invariant-loop-row
invariant-loop-row l = list_any (refuses_by l.sweep l.byte) (drop l.row-index l.rows) ≡ list_any (refuses_by l.sweep l.byte) l.rows
