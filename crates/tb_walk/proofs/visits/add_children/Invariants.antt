use Rattle.std.proofs.Common.{◌≡◌, ◌++◌, not, filter, drop}
use Rattle.tb_walk.specs.Walk.{is_left_out}
use Rattle.tb_walk.proofs.visits.add_children.Given as goal

abbrev pub invariant-loop-child : goal.invariant-loop-child
invariant-loop-child l =
    l.keys.items ++ filter (λ child. not (is_left_out l.left_out child)) (drop l.child-index l.children) ≡ l.initial.keys.items ++ filter (λ child. not (is_left_out l.left_out child)) l.children
