use Rattle.std.proofs.Common.{◌≡◌, drop}
use Rattle.tb_names.specs.Names.{told, first_of}
use Rattle.tb_names.specs.Repeats.{repeats, with_names}
use Rattle.tb_names.proofs.repeats.Given.first.Given as goal

abbrev pub invariant-loop-ident : goal.invariant-loop-ident
invariant-loop-ident l =
    (first_of (repeats l.self.names.keys (told (drop l.ident-index l.idents))) ≡ first_of (repeats l.initial.self.names.keys (told l.idents)))
    × (with_names l.self.names.keys (told (drop l.ident-index l.idents)) ≡ with_names l.initial.self.names.keys (told l.idents))
