use Rattle.std.proofs.Common.{◌≡◌, take}
use Rattle.tb_shape.specs.Nodes.{count_of}
use Rattle.tb_shape.proofs.nodes.position.Given as goal

abbrev pub invariant-loop-at : goal.invariant-loop-at
invariant-loop-at l = count_of l.key (take l.at l.keys) ≡ 0
