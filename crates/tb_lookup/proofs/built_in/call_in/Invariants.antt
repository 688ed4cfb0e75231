use Rattle.std.proofs.Common.{◌≡◌, drop}
use Rattle.tb_lookup.specs.Builtins.{row_in, told_calls}
use Rattle.tb_lookup.proofs.built_in.call_in.Given as goal

abbrev pub invariant-loop-row : goal.invariant-loop-row
invariant-loop-row l = row_in (told_calls (drop l.row-index l.rows)) l.path ≡ row_in (told_calls l.rows) l.path
