-- How tightly operators bind: levels from 1, the tightest, to 13.
use Rattle.std.specs.Prelude.{ℕ, ◌-◌, Bool, true, false, nat_le, ◌==◌, ◌&&◌, if◌then◌else◌, Option, None, Some}
use Rattle.tb_lex.specs.declared.keyword.Keyword.TheVariants as keyword_of
use Rattle.tb_lex.specs.declared.punctuation.Punctuation.{Punctuation}
use Rattle.tb_lex.specs.declared.punctuation.Punctuation.TheVariants as punct_of
use Rattle.tb_ast.specs.declared.leaf.Mark.{Mark}
use Rattle.tb_ast.specs.declared.operator.BinaryOp.{BinaryOp}
use Rattle.tb_ast.specs.declared.operator.BinaryOp.TheVariants as binary
use Rattle.tb_ast.specs.declared.operator.AssignOp.{AssignOp}
use Rattle.tb_ast.specs.declared.operator.AssignOp.TheVariants as assign
use Rattle.tb_ast.specs.declared.expression.Expr.{Expr, out-Expr}
use Rattle.tb_ast.specs.declared.expression.Else.TheOpen.{Expr-F}
use Rattle.tb_syntax.specs.State.{State}
use Rattle.tb_syntax.specs.Marks.{first_mark}
use Rattle.tb_syntax.specs.Leaves.{has_keyword}

-- the levels that rules name; up to level 0 an expression is an operand alone

abbrev pub operand_alone : ℕ
operand_alone = 0

abbrev pub tightest_level : ℕ
tightest_level = 1

abbrev pub prefix_level : ℕ
prefix_level = 2

abbrev pub cast_level : ℕ
cast_level = 3

-- of what comparisons compare at most
abbrev pub compared_level : ℕ
compared_level = 9

abbrev pub comparison_level : ℕ
comparison_level = 10

-- of what is assigned to at most
abbrev pub target_level : ℕ
target_level = 12

-- of assignments
abbrev pub loosest_level : ℕ
loosest_level = 13

-- `* / %`, `+ -`, `<< >>`, `&`, `^`, `|`, comparisons, `&&`, `||`
abbrev pub binary_level : BinaryOp → ℕ
binary_level binary.Mul = 4
binary_level binary.Div = 4
binary_level binary.Rem = 4
binary_level binary.Add = 5
binary_level binary.Sub = 5
binary_level binary.Shl = 6
binary_level binary.Shr = 6
binary_level binary.BitAnd = 7
binary_level binary.BitXor = 8
binary_level binary.BitOr = 9
binary_level binary.Eq = 10
binary_level binary.Ne = 10
binary_level binary.Lt = 10
binary_level binary.Gt = 10
binary_level binary.Le = 10
binary_level binary.Ge = 10
binary_level binary.And = 11
binary_level binary.Or = 12

-- the loosest left operand: operators group to the left, and comparisons are not chained
abbrev pub left_level : BinaryOp → ℕ
left_level binary.Eq = compared_level
left_level binary.Ne = compared_level
left_level binary.Lt = compared_level
left_level binary.Gt = compared_level
left_level binary.Le = compared_level
left_level binary.Ge = compared_level
left_level other = binary_level other

-- the loosest right operand
abbrev pub right_level : BinaryOp → ℕ
right_level operator = binary_level operator - 1

-- literals, paths, what is closed by itself, calls and what stands behind a dot bind the tightest, then prefixes, then `as`, and
-- assignments the loosest
abbrev pub level_in : {A B C D E F : Type 0} → Expr-F A B C D E F → ℕ
level_in (Expr-F.Unary span operator at operand) = prefix_level
level_in (Expr-F.Borrow span and kind operand) = prefix_level
level_in (Expr-F.Cast span operand at ty) = cast_level
level_in (Expr-F.Binary span left operator at right) = binary_level operator
level_in (Expr-F.Assign span target equals value) = loosest_level
level_in (Expr-F.AssignOp span target operator at value) = loosest_level
level_in other = tightest_level

abbrev pub level_of : Expr → ℕ
level_of e = level_in (out-Expr e)

-- the operators that marks are

abbrev pub binary_of : Punctuation → Option BinaryOp
binary_of punct_of.Star = Some binary.Mul
binary_of punct_of.Slash = Some binary.Div
binary_of punct_of.Percent = Some binary.Rem
binary_of punct_of.Plus = Some binary.Add
binary_of punct_of.Minus = Some binary.Sub
binary_of punct_of.Shl = Some binary.Shl
binary_of punct_of.Shr = Some binary.Shr
binary_of punct_of.And = Some binary.BitAnd
binary_of punct_of.Caret = Some binary.BitXor
binary_of punct_of.Or = Some binary.BitOr
binary_of punct_of.EqEq = Some binary.Eq
binary_of punct_of.Ne = Some binary.Ne
binary_of punct_of.Lt = Some binary.Lt
binary_of punct_of.Gt = Some binary.Gt
binary_of punct_of.Le = Some binary.Le
binary_of punct_of.Ge = Some binary.Ge
binary_of punct_of.AndAnd = Some binary.And
binary_of punct_of.OrOr = Some binary.Or
binary_of other = None

abbrev pub assign_of : Punctuation → Option AssignOp
assign_of punct_of.StarEq = Some assign.Mul
assign_of punct_of.SlashEq = Some assign.Div
assign_of punct_of.PercentEq = Some assign.Rem
assign_of punct_of.PlusEq = Some assign.Add
assign_of punct_of.MinusEq = Some assign.Sub
assign_of punct_of.ShlEq = Some assign.Shl
assign_of punct_of.ShrEq = Some assign.Shr
assign_of punct_of.AndEq = Some assign.BitAnd
assign_of punct_of.CaretEq = Some assign.BitXor
assign_of punct_of.OrEq = Some assign.BitOr
assign_of other = None

-- the level of an expression that goes on with what comes next

abbrev pub operator_level : Option BinaryOp → Option AssignOp → Option ℕ
operator_level (Some operator) assigns = Some (binary_level operator)
operator_level None (Some assigns) = Some loosest_level
operator_level None None = None

abbrev pub mark_level : Punctuation → Option ℕ
mark_level punct_of.Dot = Some tightest_level
mark_level punct_of.OpenBracket = Some tightest_level
mark_level punct_of.Eq = Some loosest_level
mark_level other = operator_level (binary_of other) (assign_of other)

abbrev pub level_with : Option (Punctuation × Mark × State) → Bool → Option ℕ
level_with (Some x) cast = mark_level x.0
level_with None true = Some cast_level
level_with None false = None

abbrev pub level_at : State → Option ℕ
level_at state = level_with (first_mark state) (has_keyword keyword_of.As state)

-- the loosest left operand of an expression of this level: comparisons are not chained, and assignments group to the right
abbrev pub loosest_left : ℕ → ℕ
loosest_left level = if level == comparison_level then compared_level else (if level == loosest_level then target_level else level)

-- an expression of this level is the left operand of one of the next level, up to a level
abbrev pub takes_on : ℕ → ℕ → Option ℕ → Bool
takes_on level most None = false
takes_on level most (Some next) = nat_le next most && nat_le level (loosest_left next)

-- an expression of this level goes on with what comes next, up to a level
unfoldable pub goes_on : ℕ → ℕ → State → Bool
goes_on level most state = takes_on level most (level_at state)
