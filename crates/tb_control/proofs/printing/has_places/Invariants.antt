use Rattle.std.proofs.Common.{◌≡◌, drop}
use Rattle.tb_control.specs.Prints.{places_from, has_places}
use Rattle.tb_control.proofs.printing.has_places.Given as goal

abbrev pub invariant-loop-character : goal.invariant-loop-character
invariant-loop-character l = places_from (drop l.character-index l.characters) l.pending l.left ≡ has_places l.characters l.count
