-- Expressions with one part.
use Rattle.std.specs.Prelude.{ℕ, List, Some, Result, Ok}
use Rattle.tb_perm.specs.declared.span.Span.{Span}
use Rattle.tb_types.specs.declared.shape.Ty.{Ty}
use Rattle.tb_types.specs.Table.{TypeTable}
use Rattle.tb_thir.specs.declared.operator.BorrowKind.{BorrowKind}
use Rattle.tb_thir.specs.declared.operator.UnaryOperator.{UnaryOperator}
use Rattle.tb_thir.specs.declared.node.Node.{Node}
use Rattle.tb_rules.specs.declared.want.Want.{Want}
use Rattle.tb_rules.specs.declared.want.Want.TheVariants.{Free, Just, Into}
use Rattle.tb_rules.specs.Answers.{Fault}
use Rattle.tb_rules.specs.Fits.{with_types}
use Rattle.tb_operators.specs.Operators.{unary}
use Rattle.tb_operators.specs.Sides.{operand_want}
use Rattle.tb_operators.specs.Casts.{cast_to}
use Rattle.tb_places.specs.Derefs.{deref_of}
use Rattle.tb_places.specs.Fields.{field, tuple_field}
use Rattle.tb_places.specs.Borrows.{borrow_of, borrow_want}
use Rattle.tb_aggregates.specs.Arrays.{element_want, repeat}
use Rattle.tb_control.specs.Jumps.{return_of}
use Rattle.tb_control.specs.Prints.{assert_of}
use Rattle.tb_compose.specs.declared.one_part.OnePart.{OnePart}
use Rattle.tb_compose.specs.declared.one_part.OnePart.TheVariants as form
use Rattle.tb_compose.specs.declared.setting.Setting.{Setting}
use Rattle.tb_compose.specs.Settling.{settled}

pub data OneOf : Type 0 where
  Paren : OneOf
  Unary : UnaryOperator → OneOf
  Deref : OneOf
  Borrow : BorrowKind → OneOf
  Cast : Ty → OneOf
  Field : List ℕ → OneOf
  TupleField : ℕ → OneOf
  Repeat : ℕ → OneOf
  Assert : OneOf
  Return : OneOf

-- the form that is told
abbrev pub told_form : OnePart → OneOf
told_form form.Paren = OneOf.Paren
told_form (form.Unary operator) = OneOf.Unary operator
told_form form.Deref = OneOf.Deref
told_form (form.Borrow kind) = OneOf.Borrow kind
told_form (form.Cast to) = OneOf.Cast to
told_form (form.Field name) = OneOf.Field name.now
told_form (form.TupleField number) = OneOf.TupleField number
told_form (form.Repeat n) = OneOf.Repeat n
told_form form.Assert = OneOf.Assert
told_form form.Return = OneOf.Return

-- of the part, where this is expected of the whole
abbrev pub one_want : TypeTable → Setting → OneOf → Want → Want
one_want types setting OneOf.Paren want = want
one_want types setting (OneOf.Unary operator) want = operand_want want
one_want types setting OneOf.Deref want = Free
one_want types setting (OneOf.Borrow kind) want = borrow_want types kind want
one_want types setting (OneOf.Cast to) want = Free
one_want types setting (OneOf.Field name) want = Free
one_want types setting (OneOf.TupleField number) want = Free
one_want types setting (OneOf.Repeat n) want = element_want types want
one_want types setting OneOf.Assert want = Just setting.scalars.boolean
one_want types setting OneOf.Return want = Into setting.output

abbrev pub one_made : TypeTable → Setting → OneOf → Want → Node → Span → Result (Node × TypeTable) Fault
one_made types setting OneOf.Paren want part span = Ok (part, types)
one_made types setting (OneOf.Unary operator) want part span = with_types types (unary types operator part span)
one_made types setting OneOf.Deref want part span = with_types types (deref_of types setting.is_unsafe part span)
one_made types setting (OneOf.Borrow kind) want part span = borrow_of types kind part span
one_made types setting (OneOf.Cast to) want part span = with_types types (cast_to types to part span)
one_made types setting (OneOf.Field name) want part span = with_types types (field types part name span)
one_made types setting (OneOf.TupleField number) want part span = with_types types (tuple_field types part number span)
one_made types setting (OneOf.Repeat n) want part span = repeat types want part n span
one_made types setting OneOf.Assert want part span = Ok (assert_of setting.scalars part span, types)
one_made types setting OneOf.Return want part span = with_types types (return_of setting.scalars setting.output want (Some part) span)

-- what stands in parentheses was settled there
abbrev pub one : TypeTable → Setting → OneOf → Want → Node → Span → Result (Node × TypeTable) Fault
one types setting OneOf.Paren want part span = Ok (part, types)
one types setting row want part span = settled want (one_made types setting row want part span)
