use Rattle.std.proofs.Common.{◌≡◌, take}
use Rattle.tb_mentions.specs.Variables.{told_known, last_named}
use Rattle.tb_mentions.proofs.variables.last_named.Given as goal

abbrev pub invariant-loop-at : goal.invariant-loop-at
invariant-loop-at l = last_named (told_known (take l.at l.known)) l.name ≡ last_named (told_known l.known) l.name
