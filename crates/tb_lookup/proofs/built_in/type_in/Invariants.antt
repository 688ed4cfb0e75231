use Rattle.std.proofs.Common.{◌≡◌, drop}
use Rattle.tb_lookup.specs.Builtins.{row_in, told_types}
use Rattle.tb_lookup.proofs.built_in.type_in.Given as goal

abbrev pub invariant-loop-row : goal.invariant-loop-row
invariant-loop-row l = row_in (told_types (drop l.row-index l.rows)) l.word ≡ row_in (told_types l.rows) l.word
