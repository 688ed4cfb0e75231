-- What an expression holds beside the expressions, blocks and fields in it, and beside its marks.
use Rattle.std.specs.Prelude.{Bool, Option, None, Some}
use Rattle.std.specs.Option.{option_map}
use Rattle.tb_ast.specs.declared.leaf.Literal.{Literal as AnyLiteral}
use Rattle.tb_ast.specs.declared.leaf.IntLiteral.{IntLiteral}
use Rattle.tb_ast.specs.declared.leaf.TextLiteral.{TextLiteral}
use Rattle.tb_ast.specs.declared.leaf.Ident.{Ident}
use Rattle.tb_ast.specs.declared.leaf.Path.{Path as PlainPath}
use Rattle.tb_ast.specs.declared.operator.UnaryOp.{UnaryOp}
use Rattle.tb_ast.specs.declared.operator.Borrow.{Borrow as BorrowKind}
use Rattle.tb_ast.specs.declared.operator.BinaryOp.{BinaryOp}
use Rattle.tb_ast.specs.declared.operator.AssignOp.{AssignOp as AssignKind}
use Rattle.tb_ast.specs.declared.written.Turbofish.{Turbofish}
use Rattle.tb_ast.specs.declared.written.TypeExpr.{TypeExpr}
use Rattle.tb_ast.specs.declared.expression.ExprPath.{ExprPath}
use Rattle.tb_ast.specs.declared.expression.PrintText.{PrintText}
use Rattle.tb_ast.specs.declared.expression.Expr.{Expr, out-Expr}
use Rattle.tb_ast.specs.declared.expression.Else.TheOpen.{Expr-F}
use Rattle.tb_ast.specs.declared.form.Form.{Form}
use Rattle.tb_ast.specs.declared.form.Form.TheVariants as form

pub data FormOf : Type 0 where
  Literal : AnyLiteral → FormOf
  Path : ExprPath → FormOf
  StructLiteral : PlainPath → FormOf
  Unit : FormOf
  Paren : FormOf
  Tuple : FormOf
  Array : FormOf
  Repeat : IntLiteral → FormOf
  Block : FormOf
  Unsafe : FormOf
  While : FormOf
  Loop : FormOf
  If : FormOf
  Return : FormOf
  Break : FormOf
  Continue : FormOf
  Print : Bool → Option TextLiteral → FormOf
  Panic : Option TextLiteral → FormOf
  Assert : FormOf
  Field : Ident → FormOf
  TupleField : IntLiteral → FormOf
  MethodCall : Ident → Option Turbofish → FormOf
  Call : ExprPath → FormOf
  Index : FormOf
  Unary : UnaryOp → FormOf
  Borrow : BorrowKind → FormOf
  Cast : TypeExpr → FormOf
  Binary : BinaryOp → FormOf
  Assign : FormOf
  AssignOp : AssignKind → FormOf

-- the text of a print, without the comma behind it
abbrev pub shown : Option PrintText → Option TextLiteral
shown None = None
shown (Some format) = Some format.text

abbrev pub form_in : {A B C D E F : Type 0} → Expr-F A B C D E F → FormOf
form_in (Expr-F.Literal value) = FormOf.Literal value
form_in (Expr-F.Path path) = FormOf.Path path
form_in (Expr-F.StructLiteral span path opening fields commas closing) = FormOf.StructLiteral path
form_in (Expr-F.Unit span opening closing) = FormOf.Unit
form_in (Expr-F.Paren span opening inner closing) = FormOf.Paren
form_in (Expr-F.Tuple span opening parts commas closing) = FormOf.Tuple
form_in (Expr-F.Array span opening elements commas closing) = FormOf.Array
form_in (Expr-F.Repeat span opening element semicolon length closing) = FormOf.Repeat length
form_in (Expr-F.Block body) = FormOf.Block
form_in (Expr-F.Unsafe span at body) = FormOf.Unsafe
form_in (Expr-F.While span at condition body) = FormOf.While
form_in (Expr-F.Loop span at body) = FormOf.Loop
form_in (Expr-F.If span at condition body otherwise) = FormOf.If
form_in (Expr-F.Return span at value) = FormOf.Return
form_in (Expr-F.Break span) = FormOf.Break
form_in (Expr-F.Continue span) = FormOf.Continue
form_in (Expr-F.Print span name newline bang opening text arguments commas closing) = FormOf.Print newline (shown text)
form_in (Expr-F.Panic span name bang opening text closing) = FormOf.Panic text
form_in (Expr-F.Assert span name bang opening condition comma closing) = FormOf.Assert
form_in (Expr-F.Field span base dot name) = FormOf.Field name
form_in (Expr-F.TupleField span base dot index) = FormOf.TupleField index
form_in (Expr-F.MethodCall span receiver dot name turbofish opening arguments commas closing) = FormOf.MethodCall name turbofish
form_in (Expr-F.Call span callee opening arguments commas closing) = FormOf.Call callee
form_in (Expr-F.Index span base opening index closing) = FormOf.Index
form_in (Expr-F.Unary span operator at operand) = FormOf.Unary operator
form_in (Expr-F.Borrow span and kind operand) = FormOf.Borrow kind
form_in (Expr-F.Cast span operand at ty) = FormOf.Cast ty
form_in (Expr-F.Binary span left operator at right) = FormOf.Binary operator
form_in (Expr-F.Assign span target equals value) = FormOf.Assign
form_in (Expr-F.AssignOp span target operator at value) = FormOf.AssignOp operator

-- the form that is told
abbrev pub told_form : Form → FormOf
told_form (form.Literal value) = FormOf.Literal value
told_form (form.Path path) = FormOf.Path path.now
told_form (form.StructLiteral path) = FormOf.StructLiteral path.now
told_form form.Unit = FormOf.Unit
told_form form.Paren = FormOf.Paren
told_form form.Tuple = FormOf.Tuple
told_form form.Array = FormOf.Array
told_form (form.Repeat length) = FormOf.Repeat length
told_form form.Block = FormOf.Block
told_form form.Unsafe = FormOf.Unsafe
told_form form.While = FormOf.While
told_form form.Loop = FormOf.Loop
told_form form.If = FormOf.If
told_form form.Return = FormOf.Return
told_form form.Break = FormOf.Break
told_form form.Continue = FormOf.Continue
told_form (form.Print newline text) = FormOf.Print newline (option_map (λ t. t.now) text)
told_form (form.Panic text) = FormOf.Panic (option_map (λ t. t.now) text)
told_form form.Assert = FormOf.Assert
told_form (form.Field name) = FormOf.Field name.now
told_form (form.TupleField index) = FormOf.TupleField index
told_form (form.MethodCall name turbofish) = FormOf.MethodCall name.now (option_map (λ t. t.now) turbofish)
told_form (form.Call callee) = FormOf.Call callee.now
told_form form.Index = FormOf.Index
told_form (form.Unary operator) = FormOf.Unary operator
told_form (form.Borrow kind) = FormOf.Borrow kind
told_form (form.Cast ty) = FormOf.Cast ty.now
told_form (form.Binary operator) = FormOf.Binary operator
told_form form.Assign = FormOf.Assign
told_form (form.AssignOp operator) = FormOf.AssignOp operator

abbrev pub form_of : Expr → FormOf
form_of e = form_in (out-Expr e)
