-- Blocks.
use Rattle.std.specs.Prelude.{Bool, if◌then◌else◌, List, Option, Some, None}
use Rattle.tb_perm.specs.declared.span.Span.{Span}
use Rattle.tb_types.specs.declared.shape.Ty.{Ty}
use Rattle.tb_thir.specs.declared.node.Node.{Node, roll-Node}
use Rattle.tb_thir.specs.declared.node.Node.TheOpen.{Node-F}
use Rattle.tb_rules.specs.declared.scalars.Scalars.{Scalars}
use Rattle.tb_rules.specs.declared.want.Want.{Want}
use Rattle.tb_rules.specs.Fits.{diverging_type}
use Rattle.tb_rules.specs.Nodes.{type_of, head}

-- what diverges has the expected type, and `()` is the type of all else without a value
abbrev pub ending_type : Scalars → Want → Bool → Ty
ending_type scalars want ends = if ends then diverging_type want scalars.unit else scalars.unit

-- a block has the type of its last expression
abbrev pub block_type : Scalars → Want → Option Node → Bool → Ty
block_type scalars want None ends = ending_type scalars want ends
block_type scalars want (Some last) ends = type_of last

abbrev pub block : Scalars → Want → List Node → Option Node → Bool → Span → Node
block scalars want statements last ends span = roll-Node (Node-F.Block (head (block_type scalars want last ends) span) statements last ends)
