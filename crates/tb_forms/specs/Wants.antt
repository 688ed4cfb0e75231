-- What a form wants to be read behind its first part, and what it is with what was read there.
use Rattle.std.specs.Prelude.{Bool, true, false, if◌then◌else◌, List, [], Option, None, Some}
use Rattle.tb_perm.specs.declared.span.Span.{Span}
use Rattle.tb_lex.specs.declared.punctuation.Punctuation.TheVariants.{CloseParen, CloseBracket}
use Rattle.tb_ast.specs.declared.expression.PrintText.{PrintText}
use Rattle.tb_ast.specs.declared.expression.FieldValue.{FieldValue}
use Rattle.tb_ast.specs.declared.expression.Expr.{Expr, roll-Expr}
use Rattle.tb_ast.specs.declared.expression.Else.{Else}
use Rattle.tb_ast.specs.declared.expression.Block.{Block}
use Rattle.tb_ast.specs.declared.expression.Else.TheOpen.{Expr-F}
use Rattle.tb_syntax.specs.State.{State}
use Rattle.tb_forms.specs.declared.place.Where.{Where}
use Rattle.tb_forms.specs.declared.place.Where.TheVariants.{Anywhere}
use Rattle.tb_forms.specs.declared.front.Front.{Front}
use Rattle.tb_forms.specs.declared.front.Front.TheVariants as front
use Rattle.tb_forms.specs.declared.step.Step.{Step}
use Rattle.tb_forms.specs.declared.step.Step.TheVariants as step
use Rattle.tb_forms.specs.declared.wanted.Wanted.{Wanted}
use Rattle.tb_forms.specs.declared.wanted.Wanted.TheVariants as wanted
use Rattle.tb_forms.specs.declared.wanted.Got.{Got}
use Rattle.tb_forms.specs.declared.wanted.Got.TheVariants as got
use Rattle.tb_forms.specs.Beginnings.{begins_expr}
use Rattle.tb_forms.specs.Levels.{prefix_level, loosest_level, right_level}
use Rattle.tb_forms.specs.Trees.{unary_to, borrow_to, return_to, unsafe_to, loop_to, while_to, if_to, field_of, tuple_field_of, cast_to, binary_with, assign_to, compute_to, panic_of}
use Rattle.tb_forms.specs.Closings.{group_at, array_at, literal_at, call_at, method_call_at, index_at, print_at, assert_at}

-- Operands.

-- values stand behind the text of a print only behind a comma
abbrev pub takes_values : Option PrintText → Bool
takes_values None = false
takes_values (Some format) = is_some format.comma where
  is_some : Option Span → Bool
  is_some None = false
  is_some (Some comma) = true

-- `return` takes what begins an expression
unfoldable pub wants : Front → Where → State → Wanted
wants (front.Literal value) place state = wanted.Nothing
wants (front.Path path) place state = wanted.Nothing
wants (front.StructLiteral path opening) place state = wanted.Fields
wants (front.Call callee opening) place state = wanted.Values CloseParen
wants (front.Paren opening) place state = wanted.Values CloseParen
wants (front.Bracket opening) place state = wanted.Values CloseBracket
wants front.Block place state = wanted.Body
wants (front.Unsafe at) place state = wanted.Body
wants (front.While at) place state = wanted.Repeated
wants (front.Loop at) place state = wanted.Body
wants (front.If at) place state = wanted.Chosen
wants (front.Return at) place state = if begins_expr state then wanted.One place loosest_level else wanted.Nothing
wants (front.Break span) place state = wanted.Nothing
wants (front.Continue span) place state = wanted.Nothing
wants (front.Print name newline bang opening text) place state = if takes_values text then wanted.Values CloseParen else wanted.Nothing
wants (front.Panic name bang opening text closing) place state = wanted.Nothing
wants (front.Assert name bang opening) place state = wanted.One Anywhere loosest_level
wants (front.Unary operator at) place state = wanted.One place prefix_level
wants (front.Borrow and kind) place state = wanted.One place prefix_level

-- with nothing
abbrev pub alone_at : Front → State → Option (Expr × State)
alone_at (front.Literal value) state = Some (roll-Expr (Expr-F.Literal value), state)
alone_at (front.Path path) state = Some (roll-Expr (Expr-F.Path path), state)
alone_at (front.Return at) state = Some (return_to at None, state)
alone_at (front.Break span) state = Some (roll-Expr (Expr-F.Break span), state)
alone_at (front.Continue span) state = Some (roll-Expr (Expr-F.Continue span), state)
alone_at (front.Print name newline bang opening text) state = print_at name newline bang opening text ([], []) state
alone_at (front.Panic name bang opening text closing) state = Some (panic_of name bang opening text closing, state)
alone_at other state = None

-- with an expression
abbrev pub with_at : Front → Expr → State → Option (Expr × State)
with_at (front.Return at) e state = Some (return_to at (Some e), state)
with_at (front.Assert name bang opening) e state = assert_at name bang opening e state
with_at (front.Unary operator at) e state = Some (unary_to operator at e, state)
with_at (front.Borrow and kind) e state = Some (borrow_to and kind e, state)
with_at other e state = None

-- with expressions in brackets
abbrev pub values_at : Front → List Expr → List Span → State → Option (Expr × State)
values_at (front.Call callee opening) values commas state = call_at callee opening (values, commas) state
values_at (front.Paren opening) values commas state = group_at opening (values, commas) state
values_at (front.Bracket opening) values commas state = array_at opening (values, commas) state
values_at (front.Print name newline bang opening text) values commas state = print_at name newline bang opening text (values, commas) state
values_at other values commas state = None

-- with the fields of a struct literal
abbrev pub fields_at : Front → List FieldValue → List Span → State → Option (Expr × State)
fields_at (front.StructLiteral path opening) fields commas state = literal_at path opening (fields, commas) state
fields_at other fields commas state = None

-- with a block
abbrev pub body_of : Front → Block → Option Expr
body_of front.Block body = Some (roll-Expr (Expr-F.Block body))
body_of (front.Unsafe at) body = Some (unsafe_to at body)
body_of (front.Loop at) body = Some (loop_to at body)
body_of other body = None

-- with a condition and a block
abbrev pub repeated_of : Front → Expr → Block → Option Expr
repeated_of (front.While at) condition body = Some (while_to at condition body)
repeated_of other condition body = None

-- with a condition, a block and what stands behind `else`
abbrev pub chosen_of : Front → Expr → Block → Option Else → Option Expr
chosen_of (front.If at) condition body otherwise = Some (if_to at condition body otherwise)
chosen_of other condition body otherwise = None

-- an expression that ends there
abbrev pub ends_at : Option Expr → State → Option (Expr × State)
ends_at None state = None
ends_at (Some e) state = Some (e, state)

unfoldable pub finished_at : Front → Got → State → Option (Expr × State)
finished_at first got.Nothing state = alone_at first state
finished_at first (got.One e) state = with_at first e state
finished_at first (got.Values values commas) state = values_at first values commas state
finished_at first (got.Fields fields commas) state = fields_at first fields commas state
finished_at first (got.Body body) state = ends_at (body_of first body) state
finished_at first (got.Repeated condition body) state = ends_at (repeated_of first condition body) state
finished_at first (got.Chosen condition body otherwise) state = ends_at (chosen_of first condition body otherwise) state

-- Steps, behind a left operand.

unfoldable pub step_wants : Where → Step → Wanted
step_wants place (step.Field dot name) = wanted.Nothing
step_wants place (step.TupleField dot index) = wanted.Nothing
step_wants place (step.MethodCall dot name turbofish opening) = wanted.Values CloseParen
step_wants place (step.Index opening) = wanted.One Anywhere loosest_level
step_wants place (step.Cast at ty) = wanted.Nothing
step_wants place (step.Binary operator at) = wanted.One place (right_level operator)
step_wants place (step.Assign equals) = wanted.One place loosest_level
step_wants place (step.AssignOp operator at) = wanted.One place loosest_level

-- with nothing
abbrev pub step_alone : Expr → Step → Option Expr
step_alone left (step.Field dot name) = Some (field_of left dot name)
step_alone left (step.TupleField dot index) = Some (tuple_field_of left dot index)
step_alone left (step.Cast at ty) = Some (cast_to left at ty)
step_alone left other = None

-- with an expression
abbrev pub step_with : Expr → Step → Expr → State → Option (Expr × State)
step_with left (step.Index opening) e state = index_at left opening e state
step_with left (step.Binary operator at) e state = Some (binary_with left operator at e, state)
step_with left (step.Assign equals) e state = Some (assign_to left equals e, state)
step_with left (step.AssignOp operator at) e state = Some (compute_to left operator at e, state)
step_with left other e state = None

-- with expressions in brackets
abbrev pub step_values : Expr → Step → List Expr → List Span → State → Option (Expr × State)
step_values left (step.MethodCall dot name turbofish opening) values commas state = method_call_at left dot name turbofish opening (values, commas) state
step_values left other values commas state = None

unfoldable pub step_finished_at : Expr → Step → Got → State → Option (Expr × State)
step_finished_at left first got.Nothing state = ends_at (step_alone left first) state
step_finished_at left first (got.One e) state = step_with left first e state
step_finished_at left first (got.Values values commas) state = step_values left first values commas state
step_finished_at left first other state = None
