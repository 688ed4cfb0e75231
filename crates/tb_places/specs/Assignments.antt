-- Assignments.
use Rattle.std.specs.Prelude.{if◌then◌else◌, Option, Some, None, Result, Ok, Err}
use Rattle.tb_perm.specs.declared.span.Span.{Span}
use Rattle.tb_perm.specs.declared.code.Code.{Code}
use Rattle.tb_perm.specs.declared.code.Code.TheVariants.{NotAPlace, NotMutable, TypeNotAllowedHere, OperatorNotForType}
use Rattle.tb_types.specs.Table.{TypeTable}
use Rattle.tb_thir.specs.declared.operator.BinaryOperator.{BinaryOperator}
use Rattle.tb_thir.specs.declared.node.Node.{Node, roll-Node}
use Rattle.tb_thir.specs.declared.node.Node.TheOpen.{Node-F}
use Rattle.tb_thir.specs.Nodes.{is_place, is_mutable}
use Rattle.tb_rules.specs.declared.scalars.Scalars.{Scalars}
use Rattle.tb_rules.specs.Answers.{Fault}
use Rattle.tb_rules.specs.Kinds.{kind_at, is_slice}
use Rattle.tb_rules.specs.Nodes.{type_of, head}
use Rattle.tb_operators.specs.Operators.{has_operator}

-- a value is assigned to a mutable place that is no slice
abbrev pub target_fault : TypeTable → Node → Option Code
target_fault types target = if is_place target then (if is_mutable target then (if is_slice (kind_at types (type_of target)) then Some TypeNotAllowedHere else None) else Some NotMutable) else Some NotAPlace

abbrev pub unless_fault : Option Code → Span → Result Node Fault → Result Node Fault
unless_fault None span made = made
unless_fault (Some code) span made = Err (code, span)

abbrev pub assign : TypeTable → Scalars → Node → Node → Span → Result Node Fault
assign types scalars target value span = unless_fault (target_fault types target) span (Ok (roll-Node (Node-F.Assign (head scalars.unit span) target value)))

abbrev pub operator_fault : TypeTable → BinaryOperator → Node → Node → Option Code
operator_fault types operator target value = if has_operator types operator (type_of target) (type_of value) then None else Some OperatorNotForType

abbrev pub or_fault : Option Code → Option Code → Option Code
or_fault None second = second
or_fault (Some code) second = Some code

abbrev pub with_fault : TypeTable → BinaryOperator → Node → Node → Option Code
with_fault types operator target value = or_fault (target_fault types target) (operator_fault types operator target value)

abbrev pub assign_with : TypeTable → Scalars → BinaryOperator → Node → Node → Span → Result Node Fault
assign_with types scalars operator target value span = unless_fault (with_fault types operator target value) span (Ok (roll-Node (Node-F.AssignOperator (head scalars.unit span) operator target value)))
