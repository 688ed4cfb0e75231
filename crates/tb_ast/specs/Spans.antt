-- Where the nodes of a tree stand.
use Rattle.tb_perm.specs.declared.span.Span.{Span}
use Rattle.tb_ast.specs.declared.leaf.Literal.{Literal}
use Rattle.tb_ast.specs.declared.leaf.Literal.TheVariants.{Int, Char, Byte, Bool as Boolean}
use Rattle.tb_ast.specs.declared.written.TypeExpr.{TypeExpr, out-TypeExpr}
use Rattle.tb_ast.specs.declared.written.TypeArgument.TheOpen.{TypeExpr-F}
use Rattle.tb_ast.specs.declared.expression.Expr.{Expr, out-Expr}
use Rattle.tb_ast.specs.declared.expression.Stmt.{Stmt, out-Stmt}
use Rattle.tb_ast.specs.declared.expression.Block.{Block, out-Block}
use Rattle.tb_ast.specs.declared.expression.Else.TheOpen.{Expr-F, Stmt-F}

abbrev pub literal_span : Literal → Span
literal_span (Int int) = int.span
literal_span (Char character) = character.span
literal_span (Byte byte) = byte.span
literal_span (Boolean boolean) = boolean.span

abbrev pub type_layer_span : {A B C : Type 0} → TypeExpr-F A B C → Span
type_layer_span (TypeExpr-F.Unit span opening closing) = span
type_layer_span (TypeExpr-F.Tuple span opening parts commas closing) = span
type_layer_span (TypeExpr-F.Slice span opening element closing) = span
type_layer_span (TypeExpr-F.Array span opening element semicolon length closing) = span
type_layer_span (TypeExpr-F.Reference span and name mutable target) = span
type_layer_span (TypeExpr-F.Pointer span star kind target) = span
type_layer_span (TypeExpr-F.Path span path arguments) = span

abbrev pub type_span : TypeExpr → Span
type_span ty = type_layer_span (out-TypeExpr ty)

abbrev pub block_span : Block → Span
block_span block = (out-Block block).span

-- an expression over the spans of the blocks in it
abbrev pub expr_layer_span : {A B C D E F : Type 0} → (E → Span) → Expr-F A B C D E F → Span
expr_layer_span block (Expr-F.Literal value) = literal_span value
expr_layer_span block (Expr-F.Path path) = path.span
expr_layer_span block (Expr-F.StructLiteral span path opening fields commas closing) = span
expr_layer_span block (Expr-F.Unit span opening closing) = span
expr_layer_span block (Expr-F.Paren span opening inner closing) = span
expr_layer_span block (Expr-F.Tuple span opening parts commas closing) = span
expr_layer_span block (Expr-F.Array span opening elements commas closing) = span
expr_layer_span block (Expr-F.Repeat span opening element semicolon length closing) = span
expr_layer_span block (Expr-F.Block body) = block body
expr_layer_span block (Expr-F.Unsafe span at body) = span
expr_layer_span block (Expr-F.While span at condition body) = span
expr_layer_span block (Expr-F.Loop span at body) = span
expr_layer_span block (Expr-F.If span at condition body otherwise) = span
expr_layer_span block (Expr-F.Return span at value) = span
expr_layer_span block (Expr-F.Break span) = span
expr_layer_span block (Expr-F.Continue span) = span
expr_layer_span block (Expr-F.Print span name newline bang opening text arguments commas closing) = span
expr_layer_span block (Expr-F.Panic span name bang opening text closing) = span
expr_layer_span block (Expr-F.Assert span name bang opening condition comma closing) = span
expr_layer_span block (Expr-F.Field span base dot name) = span
expr_layer_span block (Expr-F.TupleField span base dot index) = span
expr_layer_span block (Expr-F.MethodCall span receiver dot name turbofish opening arguments commas closing) = span
expr_layer_span block (Expr-F.Call span callee opening arguments commas closing) = span
expr_layer_span block (Expr-F.Index span base opening index closing) = span
expr_layer_span block (Expr-F.Unary span operator at operand) = span
expr_layer_span block (Expr-F.Borrow span and kind operand) = span
expr_layer_span block (Expr-F.Cast span operand at ty) = span
expr_layer_span block (Expr-F.Binary span left operator at right) = span
expr_layer_span block (Expr-F.Assign span target equals value) = span
expr_layer_span block (Expr-F.AssignOp span target operator at value) = span

abbrev pub expr_span : Expr → Span
expr_span e = expr_layer_span block_span (out-Expr e)

-- a statement over the spans of the expressions in it
abbrev pub stmt_layer_span : {A B C D E F : Type 0} → (B → Span) → Stmt-F A B C D E F → Span
stmt_layer_span expr (Stmt-F.Empty span) = span
stmt_layer_span expr (Stmt-F.Let span at mutable name ty value semicolon) = span
stmt_layer_span expr (Stmt-F.Expr span expression semicolon) = span
stmt_layer_span expr (Stmt-F.Blocky expression) = expr expression

abbrev pub stmt_span : Stmt → Span
stmt_span statement = stmt_layer_span expr_span (out-Stmt statement)
