-- An item in the order of its text: where blocks begin and end, which variables are declared, how many parts tuples have, and what is mentioned.
use Rattle.std.specs.Prelude.{ℕ, List, [], ◌∷◌, ◌++◌, map, length, Option, None, Some}
use Rattle.tb_ast.specs.declared.leaf.Ident.{Ident}
use Rattle.tb_ast.specs.declared.leaf.Path.{Path as PlainPath}
use Rattle.tb_ast.specs.declared.written.Turbofish.{Turbofish}
use Rattle.tb_ast.specs.declared.written.TypeNote.{TypeNote}
use Rattle.tb_ast.specs.declared.written.TypeExpr.{TypeExpr}
use Rattle.tb_ast.specs.declared.expression.ExprPath.{ExprPath}
use Rattle.tb_ast.specs.declared.expression.Expr.{Expr, out-Expr}
use Rattle.tb_ast.specs.declared.expression.Else.{Else}
use Rattle.tb_ast.specs.declared.expression.Block.{Block}
use Rattle.tb_ast.specs.declared.expression.Stmt.{Stmt}
use Rattle.tb_ast.specs.declared.expression.FieldValue.{FieldValue}
use Rattle.tb_ast.specs.declared.expression.Initializer.{Initializer}
use Rattle.tb_ast.specs.declared.expression.Else.TheOpen.{Else-F, Expr-F, FieldValue-F, Stmt-F, Block-F, Initializer-F}
use Rattle.tb_ast.specs.declared.expression.Else.TheFolds.{fold-Else, fold-Expr, fold-FieldValue, fold-Stmt, fold-Block, fold-Initializer, map-Expr}
use Rattle.tb_ast.specs.declared.item.Item.{Item}
use Rattle.tb_ast.specs.declared.item.ItemKind.{ItemKind}
use Rattle.tb_ast.specs.declared.item.ItemKind.TheVariants as item
use Rattle.tb_ast.specs.declared.item.Field.{Field}
use Rattle.tb_ast.specs.declared.item.Parameter.{Parameter}
use Rattle.tb_ast.specs.declared.item.ResultType.{ResultType}
use Rattle.tb_ast.specs.declared.item.ForeignFunction.{ForeignFunction}
use Rattle.tb_ast.specs.declared.item.Function.{Function}
use Rattle.tb_ast.specs.declared.written.TypeArgument.{TypeArgument}
use Rattle.tb_ast.specs.declared.written.TypeArguments.{TypeArguments}
use Rattle.tb_ast.specs.declared.written.TypeArgument.TheOpen.{TypeExpr-F, TypeArgument-F, TypeArguments-F}
use Rattle.tb_ast.specs.declared.written.TypeArgument.TheFolds.{fold-TypeExpr, fold-TypeArgument, fold-TypeArguments, map-TypeExpr}
use Rattle.tb_ast.specs.declared.written.TypeExpr.{out-TypeExpr}
use Rattle.tb_ast.specs.Mentions.{MentionOf, told_mention}
use Rattle.tb_outline.specs.declared.step.Step.{Step}
use Rattle.tb_outline.specs.declared.step.Step.TheVariants as step

-- a block, or a function's parameters with its body, begins and ends; a variable is declared; a tuple or its type has so many parts; a path stands in a written type; something is mentioned
pub data StepOf : Type 0 where
  Opened : StepOf
  Closed : StepOf
  Declared : Ident → StepOf
  Parted : ℕ → StepOf
  Named : PlainPath → StepOf
  Mentioned : MentionOf → StepOf

-- the step that is told
abbrev pub told_step : Step → StepOf
told_step step.Open = StepOf.Opened
told_step step.Close = StepOf.Closed
told_step (step.Declare name) = StepOf.Declared name.now
told_step (step.Parts count) = StepOf.Parted count
told_step (step.Named path) = StepOf.Named path.now
told_step (step.Mention mention) = StepOf.Mentioned (told_mention mention)

abbrev pub told_steps : List Step → List StepOf
told_steps = map told_step

abbrev pub Outline : Type 0
Outline = List StepOf

abbrev pub joined : List Outline → Outline
joined [] = []
joined (first ∷ rest) = first ++ joined rest

abbrev pub if_there : Option Outline → Outline
if_there None = []
if_there (Some outline) = outline

abbrev pub mentioned : MentionOf → StepOf
mentioned mention = StepOf.Mentioned mention

-- Types, over the outlines of the types in them.
abbrev pub type_outlined : TypeExpr-F Outline Outline Outline → Outline
type_outlined (TypeExpr-F.Unit span opening closing) = []
type_outlined (TypeExpr-F.Tuple span opening parts commas closing) = StepOf.Parted (length parts) ∷ joined parts
type_outlined (TypeExpr-F.Slice span opening element closing) = element
type_outlined (TypeExpr-F.Array span opening element semicolon length closing) = element
type_outlined (TypeExpr-F.Reference span and name mutable target) = target
type_outlined (TypeExpr-F.Pointer span star kind target) = target
type_outlined (TypeExpr-F.Path span path arguments) = StepOf.Named path ∷ if_there arguments

abbrev pub argument_outlined : TypeArgument-F Outline Outline Outline → Outline
argument_outlined (TypeArgument-F.Lifetime name) = []
argument_outlined (TypeArgument-F.TypeExpr ty) = ty

abbrev pub arguments_outlined : TypeArguments-F Outline Outline Outline → Outline
arguments_outlined arguments = joined arguments.arguments

-- what lies in a type
abbrev pub type_outline : TypeExpr → Outline
type_outline = fold-TypeExpr Outline Outline Outline argument_outlined type_outlined arguments_outlined

abbrev pub argument_outline : TypeArgument → Outline
argument_outline = fold-TypeArgument Outline Outline Outline argument_outlined type_outlined arguments_outlined

abbrev pub arguments_outline : TypeArguments → Outline
arguments_outline = fold-TypeArguments Outline Outline Outline argument_outlined type_outlined arguments_outlined

-- a written type
abbrev pub written_outline : TypeExpr → Outline
written_outline ty = StepOf.Mentioned (MentionOf.Written ty) ∷ type_outline ty

-- the types behind a path, and behind a name
abbrev pub turbofish_outline : Option Turbofish → Outline
turbofish_outline None = []
turbofish_outline (Some turbofish) = joined (map written_outline turbofish.types)

abbrev pub note_outline : Option TypeNote → Outline
note_outline None = []
note_outline (Some note) = written_outline note.ty

-- Expressions, over the outlines of what lies in them.
abbrev pub expr_outlined : Expr-F Outline Outline Outline Outline Outline Outline → Outline
expr_outlined (Expr-F.Literal value) = []
expr_outlined (Expr-F.Path path) = StepOf.Mentioned (MentionOf.Value path) ∷ turbofish_outline path.turbofish
expr_outlined (Expr-F.StructLiteral span path opening fields commas closing) = StepOf.Mentioned (MentionOf.Struct path) ∷ joined fields
expr_outlined (Expr-F.Unit span opening closing) = []
expr_outlined (Expr-F.Paren span opening inner closing) = inner
expr_outlined (Expr-F.Tuple span opening parts commas closing) = StepOf.Parted (length parts) ∷ joined parts
expr_outlined (Expr-F.Array span opening elements commas closing) = joined elements
expr_outlined (Expr-F.Repeat span opening element semicolon length closing) = element
expr_outlined (Expr-F.Block body) = body
expr_outlined (Expr-F.Unsafe span at body) = body
expr_outlined (Expr-F.While span at condition body) = condition ++ body
expr_outlined (Expr-F.Loop span at body) = body
expr_outlined (Expr-F.If span at condition body otherwise) = condition ++ (body ++ if_there otherwise)
expr_outlined (Expr-F.Return span at value) = if_there value
expr_outlined (Expr-F.Break span) = []
expr_outlined (Expr-F.Continue span) = []
expr_outlined (Expr-F.Print span name newline bang opening text arguments commas closing) = joined arguments
expr_outlined (Expr-F.Panic span name bang opening text closing) = []
expr_outlined (Expr-F.Assert span name bang opening condition comma closing) = condition
expr_outlined (Expr-F.Field span base dot name) = base
expr_outlined (Expr-F.TupleField span base dot index) = base
expr_outlined (Expr-F.MethodCall span receiver dot name turbofish opening arguments commas closing) = receiver ++ (turbofish_outline turbofish ++ joined arguments)
expr_outlined (Expr-F.Call span callee opening arguments commas closing) = StepOf.Mentioned (MentionOf.Callee callee) ∷ (turbofish_outline callee.turbofish ++ joined arguments)
expr_outlined (Expr-F.Index span base opening index closing) = base ++ index
expr_outlined (Expr-F.Unary span operator at operand) = operand
expr_outlined (Expr-F.Borrow span and kind operand) = operand
expr_outlined (Expr-F.Cast span operand at ty) = operand ++ written_outline ty
expr_outlined (Expr-F.Binary span left operator at right) = left ++ right
expr_outlined (Expr-F.Assign span target equals value) = target ++ value
expr_outlined (Expr-F.AssignOp span target operator at value) = target ++ value

-- the same of the calls and operators alone, by which the code is proved
abbrev pub operator_outlined : Expr-F Outline Outline Outline Outline Outline Outline → Outline
operator_outlined (Expr-F.Field span base dot name) = base
operator_outlined (Expr-F.TupleField span base dot index) = base
operator_outlined (Expr-F.MethodCall span receiver dot name turbofish opening arguments commas closing) = receiver ++ (turbofish_outline turbofish ++ joined arguments)
operator_outlined (Expr-F.Call span callee opening arguments commas closing) = StepOf.Mentioned (MentionOf.Callee callee) ∷ (turbofish_outline callee.turbofish ++ joined arguments)
operator_outlined (Expr-F.Index span base opening index closing) = base ++ index
operator_outlined (Expr-F.Unary span operator at operand) = operand
operator_outlined (Expr-F.Borrow span and kind operand) = operand
operator_outlined (Expr-F.Cast span operand at ty) = operand ++ written_outline ty
operator_outlined (Expr-F.Binary span left operator at right) = left ++ right
operator_outlined (Expr-F.Assign span target equals value) = target ++ value
operator_outlined (Expr-F.AssignOp span target operator at value) = target ++ value
operator_outlined row = []

abbrev pub else_outlined : Else-F Outline Outline Outline Outline Outline Outline → Outline
else_outlined (Else-F.ElseBlock at body) = body
else_outlined (Else-F.ElseIf at branch) = branch

abbrev pub field_outlined : FieldValue-F Outline Outline Outline Outline Outline Outline → Outline
field_outlined (FieldValue-F.Named name colon value) = value
field_outlined (FieldValue-F.Short name) = StepOf.Mentioned (MentionOf.Short name) ∷ []

abbrev pub stmt_outlined : Stmt-F Outline Outline Outline Outline Outline Outline → Outline
stmt_outlined (Stmt-F.Empty span) = []
stmt_outlined (Stmt-F.Let span at mutable name ty value semicolon) = note_outline ty ++ (if_there value ++ StepOf.Declared name ∷ [])
stmt_outlined (Stmt-F.Expr span expression semicolon) = expression
stmt_outlined (Stmt-F.Blocky expression) = expression

abbrev pub block_outlined : Block-F Outline Outline Outline Outline Outline Outline → Outline
block_outlined block = StepOf.Opened ∷ (joined block.statements ++ (if_there block.last ++ StepOf.Closed ∷ []))

abbrev pub initializer_outlined : Initializer-F Outline Outline Outline Outline Outline Outline → Outline
initializer_outlined initializer = initializer.value

-- the outline of each
abbrev pub else_outline : Else → Outline
else_outline = fold-Else Outline Outline Outline Outline Outline Outline else_outlined expr_outlined field_outlined stmt_outlined block_outlined initializer_outlined

abbrev pub expr_outline : Expr → Outline
expr_outline = fold-Expr Outline Outline Outline Outline Outline Outline else_outlined expr_outlined field_outlined stmt_outlined block_outlined initializer_outlined

abbrev pub field_outline : FieldValue → Outline
field_outline = fold-FieldValue Outline Outline Outline Outline Outline Outline else_outlined expr_outlined field_outlined stmt_outlined block_outlined initializer_outlined

abbrev pub stmt_outline : Stmt → Outline
stmt_outline = fold-Stmt Outline Outline Outline Outline Outline Outline else_outlined expr_outlined field_outlined stmt_outlined block_outlined initializer_outlined

abbrev pub block_outline : Block → Outline
block_outline = fold-Block Outline Outline Outline Outline Outline Outline else_outlined expr_outlined field_outlined stmt_outlined block_outlined initializer_outlined

abbrev pub initializer_outline : Initializer → Outline
initializer_outline = fold-Initializer Outline Outline Outline Outline Outline Outline else_outlined expr_outlined field_outlined stmt_outlined block_outlined initializer_outlined

-- an expression, with their outlines in the place of the expressions and blocks in it
abbrev pub outlines_in : Expr → Expr-F Outline Outline Outline Outline Outline Outline
outlines_in e = map-Expr _ _ _ _ _ _ Outline Outline Outline Outline Outline Outline else_outline expr_outline field_outline stmt_outline block_outline initializer_outline (out-Expr e)

-- Items: the types of fields; the types of a function's head, and then its parameters and its body.

abbrev pub member_outline : Field → Outline
member_outline field = written_outline field.ty

abbrev pub parameter_outline : Parameter → Outline
parameter_outline parameter = written_outline parameter.ty

abbrev pub declared_parameter : Parameter → StepOf
declared_parameter parameter = StepOf.Declared parameter.name

abbrev pub result_outline : Option ResultType → Outline
result_outline None = []
result_outline (Some output) = written_outline output.ty

abbrev pub foreign_outline : ForeignFunction → Outline
foreign_outline function = written_outline function.result.ty

abbrev pub function_outline : Function → Outline
function_outline function = joined (map parameter_outline function.parameters) ++ (result_outline function.result ++ StepOf.Opened ∷ (map declared_parameter function.parameters ++ (block_outline function.body ++ StepOf.Closed ∷ [])))

abbrev pub kind_outline : ItemKind → Outline
kind_outline (item.Use use_item) = []
kind_outline (item.Struct struct_item) = joined (map member_outline struct_item.fields)
kind_outline (item.Function function) = function_outline function
kind_outline (item.Extern block) = joined (map foreign_outline block.functions)

abbrev pub item_outline : Item → Outline
item_outline item = kind_outline item.kind
