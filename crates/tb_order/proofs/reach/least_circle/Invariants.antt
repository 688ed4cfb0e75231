use Rattle.std.proofs.Common.{ℕ, ◌<◌}
use Rattle.tb_order.specs.Graph.{graph_of, Reaches}
use Rattle.tb_order.proofs.reach.least_circle.Given as goal

abbrev pub invariant-loop-node : goal.invariant-loop-node
invariant-loop-node l = (other : ℕ) → other < l.node → Reaches (graph_of l.graph) other other → ⊥
