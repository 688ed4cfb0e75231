use Rattle.std.proofs.Common.{◌≡◌, map, take}
use Rattle.tb_perm.specs.Release.{released_kind}
use Rattle.tb_plain.proofs.bytes.release_kinds.Given as goal

abbrev pub invariant-loop-state : goal.invariant-loop-state
invariant-loop-state l = l.kinds ≡ map released_kind (take l.state-index l.states)
