use Rattle.std.proofs.Common.{◌≡◌, take}
use Rattle.tb_small.specs.Reading.{last_named}
use Rattle.tb_small.proofs.scope.number_of.Given as goal

abbrev pub invariant-loop-number : goal.invariant-loop-number
invariant-loop-number l = last_named (take l.number l.scope) l.name ≡ last_named l.scope l.name
