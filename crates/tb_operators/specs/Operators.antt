-- Which types have which operators, and what is made with them.
use Rattle.std.specs.Prelude.{Bool, true, false, not, ◌&&◌, ◌||◌, if◌then◌else◌, Result, Ok, Err}
use Rattle.tb_perm.specs.declared.span.Span.{Span}
use Rattle.tb_perm.specs.declared.code.Code.TheVariants.{OperatorNotForType}
use Rattle.tb_types.specs.declared.shape.Ty.{Ty}
use Rattle.tb_types.specs.Table.{TypeTable}
use Rattle.tb_thir.specs.declared.operator.UnaryOperator.{UnaryOperator}
use Rattle.tb_thir.specs.declared.operator.UnaryOperator.TheVariants.{Neg, Not}
use Rattle.tb_thir.specs.declared.operator.BinaryOperator.{BinaryOperator}
use Rattle.tb_thir.specs.declared.operator.BinaryOperator.TheVariants as operator
use Rattle.tb_thir.specs.declared.operator.LogicOperator.{LogicOperator}
use Rattle.tb_thir.specs.declared.node.Node.{Node, roll-Node}
use Rattle.tb_thir.specs.declared.node.Node.TheOpen.{Node-F}
use Rattle.tb_rules.specs.declared.scalars.Scalars.{Scalars}
use Rattle.tb_rules.specs.declared.type_kind.TypeKind.{TypeKind}
use Rattle.tb_rules.specs.declared.type_kind.TypeKind.TheVariants as kind
use Rattle.tb_rules.specs.Answers.{Fault}
use Rattle.tb_rules.specs.Kinds.{kind_at, is_slice}
use Rattle.tb_rules.specs.Nodes.{type_of, head}
use Rattle.tb_operators.specs.Literals.{is_signed}
use Rattle.tb_operators.specs.Sides.{is_comparison}

-- `-` is for signed integers, `!` for integers and `bool`
-- integers and `bool`
abbrev pub has_bits : TypeKind → Bool
has_bits (kind.Int found) = true
has_bits kind.Bool = true
has_bits other = false

abbrev pub has_negation : TypeKind → Bool
has_negation (kind.Int found) = is_signed found
has_negation other = false

abbrev pub has_unary : UnaryOperator → TypeKind → Bool
has_unary Neg side = has_negation side
has_unary Not side = has_bits side

abbrev pub unary : TypeTable → UnaryOperator → Node → Span → Result Node Fault
unary types operator operand span = if has_unary operator (kind_at types (type_of operand)) then Ok (roll-Node (Node-F.Unary (head (type_of operand) span) operator operand)) else Err (OperatorNotForType, span)

abbrev pub is_int : TypeKind → Bool
is_int (kind.Int found) = true
is_int other = false

abbrev pub is_bool : TypeKind → Bool
is_bool kind.Bool = true
is_bool other = false

abbrev pub has_order : TypeKind → Bool
has_order (kind.Int found) = true
has_order kind.Bool = true
has_order kind.Char = true
has_order other = false

abbrev pub is_thin_pointer : TypeTable → TypeKind → Bool
is_thin_pointer types (kind.Raw mutable to) = not (is_slice (kind_at types to))
is_thin_pointer types other = false

abbrev pub has_equality : TypeTable → TypeKind → Bool
has_equality types side = has_order side || is_thin_pointer types side

abbrev pub has_by : TypeTable → BinaryOperator → TypeKind → TypeKind → Bool
has_by types operator.Add left right = is_int left
has_by types operator.Sub left right = is_int left
has_by types operator.Mul left right = is_int left
has_by types operator.Div left right = is_int left
has_by types operator.Rem left right = is_int left
has_by types operator.Shl left right = is_int left && is_int right
has_by types operator.Shr left right = is_int left && is_int right
has_by types operator.And left right = has_bits left
has_by types operator.Or left right = has_bits left
has_by types operator.Xor left right = has_bits left
has_by types operator.Eq left right = has_equality types left
has_by types operator.Ne left right = has_equality types left
has_by types operator.Lt left right = has_order left
has_by types operator.Le left right = has_order left
has_by types operator.Gt left right = has_order left
has_by types operator.Ge left right = has_order left

-- the type of the left side has the operator; the right side of a shift is an integer
abbrev pub has_operator : TypeTable → BinaryOperator → Ty → Ty → Bool
has_operator types operator left right = has_by types operator (kind_at types left) (kind_at types right)

abbrev pub result_of : Scalars → BinaryOperator → Ty → Ty
result_of scalars operator left = if is_comparison operator then scalars.boolean else left

abbrev pub binary : TypeTable → Scalars → BinaryOperator → Node → Node → Span → Result Node Fault
binary types scalars operator left right span = if has_operator types operator (type_of left) (type_of right) then Ok (roll-Node (Node-F.Binary (head (result_of scalars operator (type_of left)) span) operator left right)) else Err (OperatorNotForType, span)

-- `&&` and `||` are for two `bool`s
abbrev pub logic : TypeTable → Scalars → LogicOperator → Node → Node → Span → Result Node Fault
logic types scalars operator left right span = if is_bool (kind_at types (type_of left)) && is_bool (kind_at types (type_of right)) then Ok (roll-Node (Node-F.Logic (head scalars.boolean span) operator left right)) else Err (OperatorNotForType, span)
