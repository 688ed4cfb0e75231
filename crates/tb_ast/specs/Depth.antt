-- How deep the nodes of a tree lie in one another: expressions, statements, blocks and types are nodes.
use Rattle.std.specs.Prelude.{ℕ, ◌+◌, ◌^◌, ◌-◌, max, min, List, [], ◌∷◌, map, Option, None, Some}
use Rattle.tb_ast.specs.declared.written.Turbofish.{Turbofish}
use Rattle.tb_ast.specs.declared.written.TypeNote.{TypeNote}
use Rattle.tb_ast.specs.declared.written.TypeExpr.{TypeExpr}
use Rattle.tb_ast.specs.declared.written.TypeArgument.{TypeArgument}
use Rattle.tb_ast.specs.declared.written.TypeArguments.{TypeArguments}
use Rattle.tb_ast.specs.declared.written.TypeArgument.TheOpen.{TypeExpr-F, TypeArgument-F, TypeArguments-F}
use Rattle.tb_ast.specs.declared.written.TypeArgument.TheFolds.{fold-TypeExpr, fold-TypeArgument, fold-TypeArguments}
use Rattle.tb_ast.specs.declared.expression.Expr.{Expr, out-Expr}
use Rattle.tb_ast.specs.declared.expression.Else.{Else}
use Rattle.tb_ast.specs.declared.expression.Block.{Block}
use Rattle.tb_ast.specs.declared.expression.Stmt.{Stmt}
use Rattle.tb_ast.specs.declared.expression.FieldValue.{FieldValue}
use Rattle.tb_ast.specs.declared.expression.Initializer.{Initializer}
use Rattle.tb_ast.specs.declared.expression.Else.TheOpen.{Else-F, Expr-F, FieldValue-F, Stmt-F, Block-F, Initializer-F}
use Rattle.tb_ast.specs.declared.expression.Else.TheFolds.{fold-Else, fold-Expr, fold-FieldValue, fold-Stmt, fold-Block, fold-Initializer, map-Expr}
use Rattle.tb_ast.specs.declared.item.Item.{Item}
use Rattle.tb_ast.specs.declared.item.ItemKind.{ItemKind}
use Rattle.tb_ast.specs.declared.item.ItemKind.TheVariants as item
use Rattle.tb_ast.specs.declared.item.Field.{Field}
use Rattle.tb_ast.specs.declared.item.Parameter.{Parameter}
use Rattle.tb_ast.specs.declared.item.ResultType.{ResultType}
use Rattle.tb_ast.specs.declared.item.ForeignFunction.{ForeignFunction}
use Rattle.tb_ast.specs.declared.item.Tree.{Tree}

abbrev pub deepest : List ℕ → ℕ
deepest [] = 0
deepest (depth ∷ depths) = max depth (deepest depths)

abbrev pub or_none : Option ℕ → ℕ
or_none None = 0
or_none (Some depth) = depth

-- Types: each is a node, with the types in it below. A lifetime is none.

abbrev pub type_step : TypeExpr-F ℕ ℕ ℕ → ℕ
type_step (TypeExpr-F.Unit span opening closing) = 1
type_step (TypeExpr-F.Tuple span opening parts commas closing) = deepest parts + 1
type_step (TypeExpr-F.Slice span opening element closing) = element + 1
type_step (TypeExpr-F.Array span opening element semicolon length closing) = element + 1
type_step (TypeExpr-F.Reference span and name mutable target) = target + 1
type_step (TypeExpr-F.Pointer span star kind target) = target + 1
type_step (TypeExpr-F.Path span path arguments) = or_none arguments + 1

abbrev pub argument_step : TypeArgument-F ℕ ℕ ℕ → ℕ
argument_step (TypeArgument-F.Lifetime name) = 0
argument_step (TypeArgument-F.TypeExpr ty) = ty

abbrev pub arguments_step : TypeArguments-F ℕ ℕ ℕ → ℕ
arguments_step row = deepest row.arguments

abbrev pub type_depth : TypeExpr → ℕ
type_depth = fold-TypeExpr ℕ ℕ ℕ argument_step type_step arguments_step

abbrev pub argument_depth : TypeArgument → ℕ
argument_depth = fold-TypeArgument ℕ ℕ ℕ argument_step type_step arguments_step

abbrev pub arguments_depth : TypeArguments → ℕ
arguments_depth = fold-TypeArguments ℕ ℕ ℕ argument_step type_step arguments_step

-- the types behind a path, and behind a name
abbrev pub turbofish_depth : Option Turbofish → ℕ
turbofish_depth None = 0
turbofish_depth (Some turbofish) = deepest (map type_depth turbofish.types)

abbrev pub note_depth : Option TypeNote → ℕ
note_depth None = 0
note_depth (Some note) = type_depth note.ty

-- Expressions. What lies in each: the path of a call or of a struct literal, and a name behind a dot, are no nodes.
abbrev pub below : Expr-F ℕ ℕ ℕ ℕ ℕ ℕ → ℕ
below (Expr-F.Literal value) = 0
below (Expr-F.Path path) = turbofish_depth path.turbofish
below (Expr-F.StructLiteral span path opening fields commas closing) = deepest fields
below (Expr-F.Unit span opening closing) = 0
below (Expr-F.Paren span opening inner closing) = inner
below (Expr-F.Tuple span opening parts commas closing) = deepest parts
below (Expr-F.Array span opening elements commas closing) = deepest elements
below (Expr-F.Repeat span opening element semicolon length closing) = element
below (Expr-F.Block body) = body
below (Expr-F.Unsafe span at body) = body
below (Expr-F.While span at condition body) = max condition body
below (Expr-F.Loop span at body) = body
below (Expr-F.If span at condition body otherwise) = max (max condition body) (or_none otherwise)
below (Expr-F.Return span at value) = or_none value
below (Expr-F.Break span) = 0
below (Expr-F.Continue span) = 0
below (Expr-F.Print span name newline bang opening text arguments commas closing) = deepest arguments
below (Expr-F.Panic span name bang opening text closing) = 0
below (Expr-F.Assert span name bang opening condition comma closing) = condition
below (Expr-F.Field span base dot name) = base
below (Expr-F.TupleField span base dot index) = base
below (Expr-F.MethodCall span receiver dot name turbofish opening arguments commas closing) = max (max receiver (turbofish_depth turbofish)) (deepest arguments)
below (Expr-F.Call span callee opening arguments commas closing) = max (turbofish_depth callee.turbofish) (deepest arguments)
below (Expr-F.Index span base opening index closing) = max base index
below (Expr-F.Unary span operator at operand) = operand
below (Expr-F.Borrow span and kind operand) = operand
below (Expr-F.Cast span operand at ty) = max operand (type_depth ty)
below (Expr-F.Binary span left operator at right) = max left right
below (Expr-F.Assign span target equals value) = max target value
below (Expr-F.AssignOp span target operator at value) = max target value

-- the same of the calls and operators alone, by which the code is proved
abbrev pub below_operator : Expr-F ℕ ℕ ℕ ℕ ℕ ℕ → ℕ
below_operator (Expr-F.Field span base dot name) = base
below_operator (Expr-F.TupleField span base dot index) = base
below_operator (Expr-F.MethodCall span receiver dot name turbofish opening arguments commas closing) = max (max receiver (turbofish_depth turbofish)) (deepest arguments)
below_operator (Expr-F.Call span callee opening arguments commas closing) = max (turbofish_depth callee.turbofish) (deepest arguments)
below_operator (Expr-F.Index span base opening index closing) = max base index
below_operator (Expr-F.Unary span operator at operand) = operand
below_operator (Expr-F.Borrow span and kind operand) = operand
below_operator (Expr-F.Cast span operand at ty) = max operand (type_depth ty)
below_operator (Expr-F.Binary span left operator at right) = max left right
below_operator (Expr-F.Assign span target equals value) = max target value
below_operator (Expr-F.AssignOp span target operator at value) = max target value
below_operator row = 0

-- a bare block is one node, and not two
abbrev pub expr_step : Expr-F ℕ ℕ ℕ ℕ ℕ ℕ → ℕ
expr_step (Expr-F.Block body) = body
expr_step row = below row + 1

-- `else` is no node: the block or the `if` behind it lies below the `if` before it
abbrev pub else_step : Else-F ℕ ℕ ℕ ℕ ℕ ℕ → ℕ
else_step (Else-F.ElseBlock at body) = body
else_step (Else-F.ElseIf at branch) = branch

-- a field without `:` is no node
abbrev pub field_step : FieldValue-F ℕ ℕ ℕ ℕ ℕ ℕ → ℕ
field_step (FieldValue-F.Named name colon value) = value
field_step (FieldValue-F.Short name) = 0

-- each statement is a node
abbrev pub stmt_step : Stmt-F ℕ ℕ ℕ ℕ ℕ ℕ → ℕ
stmt_step (Stmt-F.Empty span) = 1
stmt_step (Stmt-F.Let span at mutable name ty value semicolon) = max (note_depth ty) (or_none value) + 1
stmt_step (Stmt-F.Expr span expression semicolon) = expression + 1
stmt_step (Stmt-F.Blocky expression) = expression + 1

abbrev pub block_step : Block-F ℕ ℕ ℕ ℕ ℕ ℕ → ℕ
block_step block = max (deepest block.statements) (or_none block.last) + 1

abbrev pub initializer_step : Initializer-F ℕ ℕ ℕ ℕ ℕ ℕ → ℕ
initializer_step initializer = initializer.value

abbrev pub else_depth : Else → ℕ
else_depth = fold-Else ℕ ℕ ℕ ℕ ℕ ℕ else_step expr_step field_step stmt_step block_step initializer_step

abbrev pub expr_depth : Expr → ℕ
expr_depth = fold-Expr ℕ ℕ ℕ ℕ ℕ ℕ else_step expr_step field_step stmt_step block_step initializer_step

abbrev pub field_depth : FieldValue → ℕ
field_depth = fold-FieldValue ℕ ℕ ℕ ℕ ℕ ℕ else_step expr_step field_step stmt_step block_step initializer_step

abbrev pub stmt_depth : Stmt → ℕ
stmt_depth = fold-Stmt ℕ ℕ ℕ ℕ ℕ ℕ else_step expr_step field_step stmt_step block_step initializer_step

abbrev pub block_depth : Block → ℕ
block_depth = fold-Block ℕ ℕ ℕ ℕ ℕ ℕ else_step expr_step field_step stmt_step block_step initializer_step

abbrev pub initializer_depth : Initializer → ℕ
initializer_depth = fold-Initializer ℕ ℕ ℕ ℕ ℕ ℕ else_step expr_step field_step stmt_step block_step initializer_step

-- an expression, with their depths in the place of the expressions and blocks in it
abbrev pub depths_in : Expr → Expr-F ℕ ℕ ℕ ℕ ℕ ℕ
depths_in e = map-Expr _ _ _ _ _ _ ℕ ℕ ℕ ℕ ℕ ℕ else_depth expr_depth field_depth stmt_depth block_depth initializer_depth (out-Expr e)

-- Items: no node is around the types of fields and of a function's head, and around a function's body.

abbrev pub member_depth : Field → ℕ
member_depth field = type_depth field.ty

abbrev pub parameter_depth : Parameter → ℕ
parameter_depth parameter = type_depth parameter.ty

abbrev pub result_depth : Option ResultType → ℕ
result_depth None = 0
result_depth (Some output) = type_depth output.ty

abbrev pub foreign_depth : ForeignFunction → ℕ
foreign_depth function = type_depth function.result.ty

abbrev pub kind_depth : ItemKind → ℕ
kind_depth (item.Use use_item) = 0
kind_depth (item.Struct struct_item) = deepest (map member_depth struct_item.fields)
kind_depth (item.Function function) = max (max (deepest (map parameter_depth function.parameters)) (result_depth function.result)) (block_depth function.body)
kind_depth (item.Extern block) = deepest (map foreign_depth block.functions)

abbrev pub item_depth : Item → ℕ
item_depth item = kind_depth item.kind

-- the greatest depth of a node of a tree
abbrev pub depth_of : Tree → ℕ
depth_of tree = deepest (map item_depth tree.items)

-- the greatest number that is told
abbrev pub capped : ℕ → ℕ
capped depth = min depth (2 ^ 32 - 1)
