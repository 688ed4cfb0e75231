use Rattle.std.proofs.Common.{◌≡◌, drop}
use Rattle.tb_names.specs.Names.{names_of, told, is_among}
use Rattle.tb_lookup.proofs.ty.is_among.Given as goal

abbrev pub invariant-loop-ident : goal.invariant-loop-ident
invariant-loop-ident l = is_among (names_of (told (drop l.ident-index l.idents))) l.name ≡ is_among (names_of (told l.idents)) l.name
