-- What an operator expects of its operands.
use Rattle.std.specs.Prelude.{Bool, true, false, if◌then◌else◌, Option, Some, None}
use Rattle.tb_types.specs.declared.shape.Ty.{Ty}
use Rattle.tb_thir.specs.declared.operator.BinaryOperator.{BinaryOperator}
use Rattle.tb_thir.specs.declared.operator.BinaryOperator.TheVariants as operator
use Rattle.tb_rules.specs.declared.want.Want.{Want}
use Rattle.tb_rules.specs.declared.want.Want.TheVariants.{Free, Just, Into, Pointer}

abbrev pub is_shift : BinaryOperator → Bool
is_shift operator.Shl = true
is_shift operator.Shr = true
is_shift other = false

abbrev pub is_comparison : BinaryOperator → Bool
is_comparison operator.Eq = true
is_comparison operator.Ne = true
is_comparison operator.Lt = true
is_comparison operator.Le = true
is_comparison operator.Gt = true
is_comparison operator.Ge = true
is_comparison other = false

-- Coercions do not reach operands.
abbrev pub operand_want : Want → Want
operand_want (Into ty) = Just ty
operand_want (Pointer mutable) = Free
operand_want want = want

-- of the side that is typed first: a comparison passes nothing on
abbrev pub outer_want : BinaryOperator → Want → Want
outer_want operator want = if is_comparison operator then Free else operand_want want

-- the second side has the type of the first
abbrev pub side_want : BinaryOperator → Want → Option Ty → Want
side_want operator want None = outer_want operator want
side_want operator want (Some other) = Just other

-- the sides of a shift have nothing to do with one another
abbrev pub left_want : BinaryOperator → Want → Option Ty → Want
left_want operator want right = if is_shift operator then operand_want want else side_want operator want right

abbrev pub right_want : BinaryOperator → Want → Option Ty → Want
right_want operator want left = if is_shift operator then Free else side_want operator want left
