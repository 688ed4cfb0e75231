use Rattle.std.proofs.Common.{◌≡◌, drop}
use Rattle.std.specs.List.{list_all}
use Rattle.tb_order.specs.Graph.{graph_of}
use Rattle.tb_order.specs.Marks.{are_below}
use Rattle.tb_order.proofs.nodes.rows_below.Given as goal

abbrev pub invariant-loop-row : goal.invariant-loop-row
invariant-loop-row l = list_all (are_below l.count) (graph_of (drop l.row-index l.graph)) ≡ list_all (are_below l.count) (graph_of l.graph)
