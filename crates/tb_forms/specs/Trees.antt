-- Trees by their parts: the place of each is from its first token to its last.
use Rattle.std.specs.Prelude.{Bool, List, Option, None, Some}
use Rattle.tb_perm.specs.declared.span.Span.{Span}
use Rattle.tb_ast.specs.declared.leaf.Mark.{Mark}
use Rattle.tb_ast.specs.declared.leaf.Ident.{Ident}
use Rattle.tb_ast.specs.declared.leaf.IntLiteral.{IntLiteral}
use Rattle.tb_ast.specs.declared.leaf.Path.{Path}
use Rattle.tb_ast.specs.declared.leaf.TextLiteral.{TextLiteral}
use Rattle.tb_ast.specs.declared.operator.UnaryOp.{UnaryOp}
use Rattle.tb_ast.specs.declared.operator.Borrow.{Borrow}
use Rattle.tb_ast.specs.declared.operator.BinaryOp.{BinaryOp}
use Rattle.tb_ast.specs.declared.operator.AssignOp.{AssignOp}
use Rattle.tb_ast.specs.declared.written.TypeExpr.{TypeExpr}
use Rattle.tb_ast.specs.declared.written.Turbofish.{Turbofish}
use Rattle.tb_ast.specs.declared.expression.ExprPath.{ExprPath}
use Rattle.tb_ast.specs.declared.expression.PrintText.{PrintText}
use Rattle.tb_ast.specs.declared.expression.Expr.{Expr, roll-Expr}
use Rattle.tb_ast.specs.declared.expression.Else.{Else, out-Else}
use Rattle.tb_ast.specs.declared.expression.Block.{Block}
use Rattle.tb_ast.specs.declared.expression.FieldValue.{FieldValue}
use Rattle.tb_ast.specs.declared.expression.Stmt.{Stmt}
use Rattle.tb_ast.specs.declared.expression.Initializer.{Initializer}
use Rattle.tb_ast.specs.declared.expression.Else.TheOpen.{Expr-F, Else-F}
use Rattle.tb_ast.specs.Spans.{type_span, block_span, expr_span}
use Rattle.tb_syntax.specs.Paths.{from_to}

-- prefixes

abbrev pub unary_to : UnaryOp → Span → Expr → Expr
unary_to operator at operand = roll-Expr (Expr-F.Unary (from_to at (expr_span operand)) operator at operand)

abbrev pub borrow_to : Mark → Borrow → Expr → Expr
borrow_to and kind operand = roll-Expr (Expr-F.Borrow (from_to and.span (expr_span operand)) and kind operand)

abbrev pub return_span : Span → Option Expr → Span
return_span at None = at
return_span at (Some value) = from_to at (expr_span value)

abbrev pub return_to : Span → Option Expr → Expr
return_to at value = roll-Expr (Expr-F.Return (return_span at value) at value)

-- with blocks

abbrev pub unsafe_to : Span → Block → Expr
unsafe_to at body = roll-Expr (Expr-F.Unsafe (from_to at (block_span body)) at body)

abbrev pub loop_to : Span → Block → Expr
loop_to at body = roll-Expr (Expr-F.Loop (from_to at (block_span body)) at body)

abbrev pub while_to : Span → Expr → Block → Expr
while_to at condition body = roll-Expr (Expr-F.While (from_to at (block_span body)) at condition body)

abbrev pub branch_span : Else-F Else Expr FieldValue Stmt Block Initializer → Span
branch_span (Else-F.ElseBlock at body) = block_span body
branch_span (Else-F.ElseIf at branch) = expr_span branch

abbrev pub if_span : Span → Block → Option Else → Span
if_span at body None = from_to at (block_span body)
if_span at body (Some otherwise) = from_to at (branch_span (out-Else otherwise))

abbrev pub if_to : Span → Expr → Block → Option Else → Expr
if_to at condition body otherwise = roll-Expr (Expr-F.If (if_span at body otherwise) at condition body otherwise)

-- behind an operand

abbrev pub field_of : Expr → Span → Ident → Expr
field_of base dot name = roll-Expr (Expr-F.Field (from_to (expr_span base) name.span) base dot name)

abbrev pub tuple_field_of : Expr → Span → IntLiteral → Expr
tuple_field_of base dot index = roll-Expr (Expr-F.TupleField (from_to (expr_span base) index.span) base dot index)

abbrev pub method_call : Expr → Span → Ident → Option Turbofish → Span → List Expr → List Span → Span → Expr
method_call receiver dot name turbofish opening arguments commas closing =
    roll-Expr (Expr-F.MethodCall (from_to (expr_span receiver) closing) receiver dot name turbofish opening arguments commas closing)

abbrev pub index_of : Expr → Span → Expr → Span → Expr
index_of base opening index closing = roll-Expr (Expr-F.Index (from_to (expr_span base) closing) base opening index closing)

abbrev pub cast_to : Expr → Span → TypeExpr → Expr
cast_to operand at ty = roll-Expr (Expr-F.Cast (from_to (expr_span operand) (type_span ty)) operand at ty)

abbrev pub binary_with : Expr → BinaryOp → Mark → Expr → Expr
binary_with left operator at right = roll-Expr (Expr-F.Binary (from_to (expr_span left) (expr_span right)) left operator at right)

abbrev pub assign_to : Expr → Mark → Expr → Expr
assign_to target equals value = roll-Expr (Expr-F.Assign (from_to (expr_span target) (expr_span value)) target equals value)

abbrev pub compute_to : Expr → AssignOp → Span → Expr → Expr
compute_to target operator at value = roll-Expr (Expr-F.AssignOp (from_to (expr_span target) (expr_span value)) target operator at value)

-- in brackets

abbrev pub struct_literal : Path → Span → List FieldValue → List Span → Span → Expr
struct_literal path opening fields commas closing = roll-Expr (Expr-F.StructLiteral (from_to path.span closing) path opening fields commas closing)

abbrev pub call_of : ExprPath → Span → List Expr → List Span → Span → Expr
call_of callee opening arguments commas closing = roll-Expr (Expr-F.Call (from_to callee.span closing) callee opening arguments commas closing)

abbrev pub unit_in : Span → Span → Expr
unit_in opening closing = roll-Expr (Expr-F.Unit (from_to opening closing) opening closing)

abbrev pub paren_in : Span → Expr → Span → Expr
paren_in opening inner closing = roll-Expr (Expr-F.Paren (from_to opening closing) opening inner closing)

abbrev pub tuple_in : Span → List Expr → List Span → Span → Expr
tuple_in opening parts commas closing = roll-Expr (Expr-F.Tuple (from_to opening closing) opening parts commas closing)

abbrev pub array_in : Span → List Expr → List Span → Span → Expr
array_in opening elements commas closing = roll-Expr (Expr-F.Array (from_to opening closing) opening elements commas closing)

abbrev pub repeat_in : Span → Expr → Span → IntLiteral → Span → Expr
repeat_in opening element semicolon length closing = roll-Expr (Expr-F.Repeat (from_to opening closing) opening element semicolon length closing)

-- macros

abbrev pub print_of : Span → Bool → Span → Span → Option PrintText → List Expr → List Span → Span → Expr
print_of name newline bang opening text arguments commas closing =
    roll-Expr (Expr-F.Print (from_to name closing) name newline bang opening text arguments commas closing)

abbrev pub panic_of : Span → Span → Span → Option TextLiteral → Span → Expr
panic_of name bang opening text closing = roll-Expr (Expr-F.Panic (from_to name closing) name bang opening text closing)

abbrev pub assert_of : Span → Span → Span → Expr → Option Span → Span → Expr
assert_of name bang opening condition comma closing = roll-Expr (Expr-F.Assert (from_to name closing) name bang opening condition comma closing)
