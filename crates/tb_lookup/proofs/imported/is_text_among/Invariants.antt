use Rattle.std.proofs.Common.{◌≡◌, drop}
use Rattle.tb_names.specs.Names.{lent}
use Rattle.tb_lookup.specs.Lookups.{is_text_among}
use Rattle.tb_lookup.proofs.imported.is_text_among.Given as goal

abbrev pub invariant-loop-path : goal.invariant-loop-path
invariant-loop-path l = is_text_among (lent (drop l.path-index l.paths)) l.text ≡ is_text_among (lent l.paths) l.text
