use Rattle.std.proofs.Common.{◌≡◌, drop}
use Rattle.tb_syntax.specs.Paths.{last_of}
use Rattle.tb_syntax.proofs.paths.last_of.Given as goal

abbrev pub invariant-loop-name : goal.invariant-loop-name
invariant-loop-name l = last_of l.last (drop l.name-index l.names) ≡ last_of l.fn.span l.names
