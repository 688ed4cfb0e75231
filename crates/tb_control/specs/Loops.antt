-- Loops.
use Rattle.std.specs.Prelude.{Bool, not}
use Rattle.tb_perm.specs.declared.span.Span.{Span}
use Rattle.tb_thir.specs.declared.node.Node.{Node, roll-Node}
use Rattle.tb_thir.specs.declared.node.Node.TheOpen.{Node-F}
use Rattle.tb_rules.specs.declared.scalars.Scalars.{Scalars}
use Rattle.tb_rules.specs.declared.want.Want.{Want}
use Rattle.tb_rules.specs.Nodes.{head}
use Rattle.tb_control.specs.Blocks.{ending_type}

abbrev pub while_of : Scalars → Node → Node → Span → Node
while_of scalars condition body span = roll-Node (Node-F.While (head scalars.unit span) condition body)

-- a `loop` that no `break` leaves diverges
abbrev pub endless : Scalars → Want → Node → Bool → Span → Node
endless scalars want body breaks span = roll-Node (Node-F.Loop (head (ending_type scalars want (not breaks)) span) body breaks)
