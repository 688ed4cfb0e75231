use Rattle.std.proofs.Common.{◌≡◌, drop}
use Rattle.tb_places.specs.Fields.{named_from, named_in}
use Rattle.tb_places.proofs.fields.named_in.Given as goal

abbrev pub invariant-loop-number : goal.invariant-loop-number
invariant-loop-number l = named_from l.number (drop l.number l.fields) l.name ≡ named_in l.fields l.name
