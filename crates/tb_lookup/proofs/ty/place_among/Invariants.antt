use Rattle.std.proofs.Common.{◌≡◌, drop, position}
use Rattle.std.specs.Option.{option_map}
use Rattle.std.specs.Str.{bytes_eq}
use Rattle.std.specs.Prelude.{◌+◌}
use Rattle.tb_names.specs.Names.{names_of, told}
use Rattle.tb_lookup.proofs.ty.place_among.Given as goal

abbrev pub invariant-loop-number : goal.invariant-loop-number
invariant-loop-number l = option_map (λ k. l.number + k) (position (bytes_eq l.name) (names_of (told (drop l.number l.idents)))) ≡ position (bytes_eq l.name) (names_of (told l.idents))
