-- The mentions of an item: the paths and the written types in it that names give a meaning to, in the order of the text. A type with the types in it is one mention, and a name after a dot, a name that is declared, an attribute's word and the path of a `use` are none.
use Rattle.std.specs.Prelude.{List, [], ◌∷◌, ◌++◌, map, Option, None, Some}
use Rattle.tb_ast.specs.declared.leaf.Ident.{Ident}
use Rattle.tb_ast.specs.declared.leaf.Path.{Path as PlainPath}
use Rattle.tb_ast.specs.declared.written.Turbofish.{Turbofish}
use Rattle.tb_ast.specs.declared.written.TypeNote.{TypeNote}
use Rattle.tb_ast.specs.declared.written.TypeExpr.{TypeExpr}
use Rattle.tb_ast.specs.declared.expression.ExprPath.{ExprPath}
use Rattle.tb_ast.specs.declared.expression.Expr.{Expr, out-Expr}
use Rattle.tb_ast.specs.declared.expression.Else.{Else}
use Rattle.tb_ast.specs.declared.expression.Block.{Block}
use Rattle.tb_ast.specs.declared.expression.Stmt.{Stmt}
use Rattle.tb_ast.specs.declared.expression.FieldValue.{FieldValue}
use Rattle.tb_ast.specs.declared.expression.Initializer.{Initializer}
use Rattle.tb_ast.specs.declared.expression.Else.TheOpen.{Else-F, Expr-F, FieldValue-F, Stmt-F, Block-F, Initializer-F}
use Rattle.tb_ast.specs.declared.expression.Else.TheFolds.{fold-Else, fold-Expr, fold-FieldValue, fold-Stmt, fold-Block, fold-Initializer, map-Expr}
use Rattle.tb_ast.specs.declared.item.Item.{Item}
use Rattle.tb_ast.specs.declared.item.ItemKind.{ItemKind}
use Rattle.tb_ast.specs.declared.item.ItemKind.TheVariants as item
use Rattle.tb_ast.specs.declared.item.Field.{Field}
use Rattle.tb_ast.specs.declared.item.Parameter.{Parameter}
use Rattle.tb_ast.specs.declared.item.ResultType.{ResultType}
use Rattle.tb_ast.specs.declared.item.ForeignFunction.{ForeignFunction}
use Rattle.tb_ast.specs.declared.mention.Mention.{Mention}
use Rattle.tb_ast.specs.declared.mention.Mention.TheVariants as mention

-- a variable or another name as a value; the path that is called; the struct of a struct literal; a field without `:`, whose value is the variable of that name; a type
pub data MentionOf : Type 0 where
  Value : ExprPath → MentionOf
  Callee : ExprPath → MentionOf
  Struct : PlainPath → MentionOf
  Short : Ident → MentionOf
  Written : TypeExpr → MentionOf

-- the mention that is told
abbrev pub told_mention : Mention → MentionOf
told_mention (mention.Value path) = MentionOf.Value path.now
told_mention (mention.Callee path) = MentionOf.Callee path.now
told_mention (mention.Struct path) = MentionOf.Struct path.now
told_mention (mention.Short name) = MentionOf.Short name.now
told_mention (mention.Written ty) = MentionOf.Written ty.now

abbrev pub told_mentions : List Mention → List MentionOf
told_mentions = map told_mention

abbrev pub Mentions : Type 0
Mentions = List MentionOf

abbrev pub all_in_order : List Mentions → Mentions
all_in_order [] = []
all_in_order (first ∷ rest) = first ++ all_in_order rest

abbrev pub if_there : Option Mentions → Mentions
if_there None = []
if_there (Some mentions) = mentions

-- the types behind a path, and behind a name
abbrev pub turbofish_mentions : Option Turbofish → Mentions
turbofish_mentions None = []
turbofish_mentions (Some turbofish) = map MentionOf.Written turbofish.types

abbrev pub note_mentions : Option TypeNote → Mentions
note_mentions None = []
note_mentions (Some note) = MentionOf.Written note.ty ∷ []

-- Expressions, over the mentions of what lies in them.
abbrev pub expr_mentioned : Expr-F Mentions Mentions Mentions Mentions Mentions Mentions → Mentions
expr_mentioned (Expr-F.Literal value) = []
expr_mentioned (Expr-F.Path path) = MentionOf.Value path ∷ turbofish_mentions path.turbofish
expr_mentioned (Expr-F.StructLiteral span path opening fields commas closing) = MentionOf.Struct path ∷ all_in_order fields
expr_mentioned (Expr-F.Unit span opening closing) = []
expr_mentioned (Expr-F.Paren span opening inner closing) = inner
expr_mentioned (Expr-F.Tuple span opening parts commas closing) = all_in_order parts
expr_mentioned (Expr-F.Array span opening elements commas closing) = all_in_order elements
expr_mentioned (Expr-F.Repeat span opening element semicolon length closing) = element
expr_mentioned (Expr-F.Block body) = body
expr_mentioned (Expr-F.Unsafe span at body) = body
expr_mentioned (Expr-F.While span at condition body) = condition ++ body
expr_mentioned (Expr-F.Loop span at body) = body
expr_mentioned (Expr-F.If span at condition body otherwise) = condition ++ (body ++ if_there otherwise)
expr_mentioned (Expr-F.Return span at value) = if_there value
expr_mentioned (Expr-F.Break span) = []
expr_mentioned (Expr-F.Continue span) = []
expr_mentioned (Expr-F.Print span name newline bang opening text arguments commas closing) = all_in_order arguments
expr_mentioned (Expr-F.Panic span name bang opening text closing) = []
expr_mentioned (Expr-F.Assert span name bang opening condition comma closing) = condition
expr_mentioned (Expr-F.Field span base dot name) = base
expr_mentioned (Expr-F.TupleField span base dot index) = base
expr_mentioned (Expr-F.MethodCall span receiver dot name turbofish opening arguments commas closing) = receiver ++ (turbofish_mentions turbofish ++ all_in_order arguments)
expr_mentioned (Expr-F.Call span callee opening arguments commas closing) = MentionOf.Callee callee ∷ (turbofish_mentions callee.turbofish ++ all_in_order arguments)
expr_mentioned (Expr-F.Index span base opening index closing) = base ++ index
expr_mentioned (Expr-F.Unary span operator at operand) = operand
expr_mentioned (Expr-F.Borrow span and kind operand) = operand
expr_mentioned (Expr-F.Cast span operand at ty) = operand ++ MentionOf.Written ty ∷ []
expr_mentioned (Expr-F.Binary span left operator at right) = left ++ right
expr_mentioned (Expr-F.Assign span target equals value) = target ++ value
expr_mentioned (Expr-F.AssignOp span target operator at value) = target ++ value

-- the same of the calls and operators alone, by which the code is proved
abbrev pub operator_mentioned : Expr-F Mentions Mentions Mentions Mentions Mentions Mentions → Mentions
operator_mentioned (Expr-F.Field span base dot name) = base
operator_mentioned (Expr-F.TupleField span base dot index) = base
operator_mentioned (Expr-F.MethodCall span receiver dot name turbofish opening arguments commas closing) = receiver ++ (turbofish_mentions turbofish ++ all_in_order arguments)
operator_mentioned (Expr-F.Call span callee opening arguments commas closing) = MentionOf.Callee callee ∷ (turbofish_mentions callee.turbofish ++ all_in_order arguments)
operator_mentioned (Expr-F.Index span base opening index closing) = base ++ index
operator_mentioned (Expr-F.Unary span operator at operand) = operand
operator_mentioned (Expr-F.Borrow span and kind operand) = operand
operator_mentioned (Expr-F.Cast span operand at ty) = operand ++ MentionOf.Written ty ∷ []
operator_mentioned (Expr-F.Binary span left operator at right) = left ++ right
operator_mentioned (Expr-F.Assign span target equals value) = target ++ value
operator_mentioned (Expr-F.AssignOp span target operator at value) = target ++ value
operator_mentioned row = []

abbrev pub else_mentioned : Else-F Mentions Mentions Mentions Mentions Mentions Mentions → Mentions
else_mentioned (Else-F.ElseBlock at body) = body
else_mentioned (Else-F.ElseIf at branch) = branch

abbrev pub field_mentioned : FieldValue-F Mentions Mentions Mentions Mentions Mentions Mentions → Mentions
field_mentioned (FieldValue-F.Named name colon value) = value
field_mentioned (FieldValue-F.Short name) = MentionOf.Short name ∷ []

abbrev pub stmt_mentioned : Stmt-F Mentions Mentions Mentions Mentions Mentions Mentions → Mentions
stmt_mentioned (Stmt-F.Empty span) = []
stmt_mentioned (Stmt-F.Let span at mutable name ty value semicolon) = note_mentions ty ++ if_there value
stmt_mentioned (Stmt-F.Expr span expression semicolon) = expression
stmt_mentioned (Stmt-F.Blocky expression) = expression

abbrev pub block_mentioned : Block-F Mentions Mentions Mentions Mentions Mentions Mentions → Mentions
block_mentioned block = all_in_order block.statements ++ if_there block.last

abbrev pub initializer_mentioned : Initializer-F Mentions Mentions Mentions Mentions Mentions Mentions → Mentions
initializer_mentioned initializer = initializer.value

-- the mentions of each
abbrev pub else_mentions : Else → Mentions
else_mentions = fold-Else Mentions Mentions Mentions Mentions Mentions Mentions else_mentioned expr_mentioned field_mentioned stmt_mentioned block_mentioned initializer_mentioned

abbrev pub expr_mentions : Expr → Mentions
expr_mentions = fold-Expr Mentions Mentions Mentions Mentions Mentions Mentions else_mentioned expr_mentioned field_mentioned stmt_mentioned block_mentioned initializer_mentioned

abbrev pub field_mentions : FieldValue → Mentions
field_mentions = fold-FieldValue Mentions Mentions Mentions Mentions Mentions Mentions else_mentioned expr_mentioned field_mentioned stmt_mentioned block_mentioned initializer_mentioned

abbrev pub stmt_mentions : Stmt → Mentions
stmt_mentions = fold-Stmt Mentions Mentions Mentions Mentions Mentions Mentions else_mentioned expr_mentioned field_mentioned stmt_mentioned block_mentioned initializer_mentioned

abbrev pub block_mentions : Block → Mentions
block_mentions = fold-Block Mentions Mentions Mentions Mentions Mentions Mentions else_mentioned expr_mentioned field_mentioned stmt_mentioned block_mentioned initializer_mentioned

abbrev pub initializer_mentions : Initializer → Mentions
initializer_mentions = fold-Initializer Mentions Mentions Mentions Mentions Mentions Mentions else_mentioned expr_mentioned field_mentioned stmt_mentioned block_mentioned initializer_mentioned

-- an expression, with their mentions in the place of the expressions and blocks in it
abbrev pub mentions_in : Expr → Expr-F Mentions Mentions Mentions Mentions Mentions Mentions
mentions_in e = map-Expr _ _ _ _ _ _ Mentions Mentions Mentions Mentions Mentions Mentions else_mentions expr_mentions field_mentions stmt_mentions block_mentions initializer_mentions (out-Expr e)

-- Items: the types of fields; the types of a function's head, and then its body.

abbrev pub member_mentions : Field → Mentions
member_mentions field = MentionOf.Written field.ty ∷ []

abbrev pub parameter_mentions : Parameter → Mentions
parameter_mentions parameter = MentionOf.Written parameter.ty ∷ []

abbrev pub result_mentions : Option ResultType → Mentions
result_mentions None = []
result_mentions (Some output) = MentionOf.Written output.ty ∷ []

abbrev pub foreign_mentions : ForeignFunction → Mentions
foreign_mentions function = MentionOf.Written function.result.ty ∷ []

abbrev pub kind_mentions : ItemKind → Mentions
kind_mentions (item.Use use_item) = []
kind_mentions (item.Struct struct_item) = all_in_order (map member_mentions struct_item.fields)
kind_mentions (item.Function function) = all_in_order (map parameter_mentions function.parameters) ++ (result_mentions function.result ++ block_mentions function.body)
kind_mentions (item.Extern block) = all_in_order (map foreign_mentions block.functions)

-- the mentions of an item: the number of each is its place in this list
abbrev pub item_mentions : Item → Mentions
item_mentions item = kind_mentions item.kind
