use Rattle.std.proofs.Common.{◌≡◌, drop, length}
use Rattle.tb_order.specs.Marks.{with_nodes}
use Rattle.tb_order.proofs.marks.Marks.add_all.Given as goal

abbrev pub invariant-loop-node : goal.invariant-loop-node
invariant-loop-node l =
    record {
      nodes : with_nodes l.self.nodes.items (drop l.node-index l.nodes) ≡ with_nodes l.initial.self.nodes.items l.nodes;
      flags : length l.self.flags.items ≡ length l.initial.self.flags.items;
    }
