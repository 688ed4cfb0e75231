use Rattle.std.proofs.Common.{◌≡◌, [], drop}
use Rattle.tb_names.specs.Names.{lent}
use Rattle.tb_names.specs.Repeats.{with_all}
use Rattle.tb_names.proofs.repeats.all.Given as goal

abbrev pub invariant-loop-name : goal.invariant-loop-name
invariant-loop-name l = with_all l.given.names.keys (lent (drop l.name-index l.names)) ≡ with_all [] (lent l.names)
