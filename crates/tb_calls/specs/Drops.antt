-- `drop`.
use Rattle.std.specs.Prelude.{ℕ, ◌&&◌, if◌then◌else◌, nat_eq, List, length, slice_get, Option, Some, None, Result, Ok, Err}
use Rattle.tb_perm.specs.declared.span.Span.{Span}
use Rattle.tb_perm.specs.declared.code.Code.TheVariants.{WrongNumber, TypeNotAllowedHere}
use Rattle.tb_types.specs.Table.{TypeTable}
use Rattle.tb_thir.specs.declared.node.Node.{Node, roll-Node}
use Rattle.tb_thir.specs.declared.node.Node.TheOpen.{Node-F}
use Rattle.tb_rules.specs.declared.scalars.Scalars.{Scalars}
use Rattle.tb_rules.specs.Answers.{Fault}
use Rattle.tb_rules.specs.Kinds.{kind_at, is_slice}
use Rattle.tb_rules.specs.Nodes.{type_of, head}

-- `drop` has one argument and no type argument
abbrev pub only_argument : ℕ → List Node → Option Node
only_argument written arguments = if nat_eq written 0 && nat_eq (length arguments) 1 then slice_get arguments 0 else None

-- a value is dropped, and a slice is none
abbrev pub dropped : TypeTable → Scalars → Option Node → Span → Result Node Fault
dropped types scalars None span = Err (WrongNumber, span)
dropped types scalars (Some operand) span = if is_slice (kind_at types (type_of operand)) then Err (TypeNotAllowedHere, span) else Ok (roll-Node (Node-F.DropValue (head scalars.unit span) operand))

abbrev pub drop_call : TypeTable → Scalars → ℕ → List Node → Span → Result Node Fault
drop_call types scalars written arguments span = dropped types scalars (only_argument written arguments) span
