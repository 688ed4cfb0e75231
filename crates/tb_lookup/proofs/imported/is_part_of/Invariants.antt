use Rattle.std.proofs.Common.{◌≡◌, drop}
use Rattle.tb_names.specs.Names.{lent}
use Rattle.tb_lookup.specs.Lookups.{is_part_of}
use Rattle.tb_lookup.proofs.imported.is_part_of.Given as goal

abbrev pub invariant-loop-path : goal.invariant-loop-path
invariant-loop-path l = is_part_of (lent (drop l.path-index l.paths)) l.text ≡ is_part_of (lent l.paths) l.text
