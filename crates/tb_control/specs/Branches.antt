-- `if`.
use Rattle.std.specs.Prelude.{Bool, false, ◌&&◌, if◌then◌else◌, Some, None}
use Rattle.tb_perm.specs.declared.span.Span.{Span}
use Rattle.tb_types.specs.declared.shape.Ty.{Ty}
use Rattle.tb_thir.specs.declared.node.Node.{Node, roll-Node}
use Rattle.tb_thir.specs.declared.node.Node.TheOpen.{Node-F}
use Rattle.tb_thir.specs.Nodes.{diverges}
use Rattle.tb_rules.specs.declared.scalars.Scalars.{Scalars}
use Rattle.tb_rules.specs.declared.want.Want.{Want}
use Rattle.tb_rules.specs.declared.want.Want.TheVariants.{Free, Just, Into, Elements, Pointer}
use Rattle.tb_rules.specs.Nodes.{type_of, head}

-- the second branch has the type of the first, where no type is expected of the whole
abbrev pub by_first : Want → Ty → Want
by_first Free first = Just first
by_first (Elements element) first = Just first
by_first (Pointer mutable) first = Into first
by_first want first = want

-- after a first branch that diverges, the second is typed as the whole is
abbrev pub second_want : Want → Ty → Bool → Want
second_want want first ends = if ends then want else by_first want first

abbrev pub if_else : Node → Node → Node → Span → Node
if_else condition first second span = roll-Node (Node-F.If (head (type_of first) span) condition first (Some second) (diverges first && diverges second))

abbrev pub if_then : Scalars → Node → Node → Span → Node
if_then scalars condition body span = roll-Node (Node-F.If (head scalars.unit span) condition body None false)
