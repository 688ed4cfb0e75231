use Rattle.std.proofs.Common.{◌≡◌, drop}
use Rattle.tb_rules.specs.Scalars.{with_integers}
use Rattle.tb_rules.proofs.scalars.add_integers.Given as goal

abbrev pub invariant-loop-kind : goal.invariant-loop-kind
invariant-loop-kind l = with_integers l.types (drop l.kind-index l.kinds) ≡ with_integers l.initial.types l.kinds
