-- Nodes that the source leaves out: dereferences, borrows and casts.
use Rattle.std.specs.Prelude.{Bool}
use Rattle.tb_perm.specs.declared.span.Span.{Span}
use Rattle.tb_types.specs.declared.shape.Ty.{Ty}
use Rattle.tb_thir.specs.declared.node.Head.{Head}
use Rattle.tb_thir.specs.declared.operator.BorrowKind.{BorrowKind}
use Rattle.tb_thir.specs.declared.node.Node.{Node, roll-Node}
use Rattle.tb_thir.specs.declared.node.Node.TheOpen.{Node-F}
use Rattle.tb_thir.specs.Nodes.{head_of}

-- the type of a node, and where it stands
abbrev pub type_of : Node → Ty
type_of node = (head_of node).ty

abbrev pub span_of : Node → Span
span_of node = (head_of node).span

abbrev pub head : Ty → Span → Head
head ty span = record { ty = ty; span = span }

-- what a pointer leads to, where the pointer stands
abbrev pub deref : Ty → Bool → Node → Node
deref ty mutable pointer = roll-Node (Node-F.Deref (head ty (span_of pointer)) pointer mutable)

abbrev pub borrow : Head → BorrowKind → Node → Node
borrow new kind operand = roll-Node (Node-F.Borrow new kind operand)

abbrev pub cast : Head → Node → Node
cast new operand = roll-Node (Node-F.Cast new operand)

-- a borrow of what a reference leads to, as `&*e`
abbrev pub reborrow : Head → BorrowKind → Ty → Bool → Node → Node
reborrow new kind content mutable pointer = borrow new kind (deref content mutable pointer)
