-- How expressions, statements and blocks are written: one line for each form.
use Rattle.std.specs.Prelude.{ℕ, Bool, true, false, List, [], ◌∷◌, ◌++◌, Option, None, Some, codes}
use Rattle.tb_perm.specs.declared.span.Span.{Span}
use Rattle.tb_lex.specs.declared.keyword.Keyword.TheVariants as keyword_of
use Rattle.tb_lex.specs.declared.punctuation.Punctuation.{Punctuation}
use Rattle.tb_lex.specs.declared.punctuation.Punctuation.TheVariants as punct_of
use Rattle.tb_lex.specs.declared.punctuation.Punctuation.TheVariants.{OpenParen, CloseParen, OpenBracket, CloseBracket, OpenBrace, CloseBrace, Comma, Semicolon, Colon, Dot}
use Rattle.tb_ast.specs.declared.operator.UnaryOp.{UnaryOp}
use Rattle.tb_ast.specs.declared.operator.UnaryOp.TheVariants as unary
use Rattle.tb_ast.specs.declared.operator.Borrow.{Borrow}
use Rattle.tb_ast.specs.declared.operator.Borrow.TheVariants as borrow
use Rattle.tb_ast.specs.declared.operator.BinaryOp.{BinaryOp}
use Rattle.tb_ast.specs.declared.operator.BinaryOp.TheVariants as binary
use Rattle.tb_ast.specs.declared.operator.AssignOp.{AssignOp}
use Rattle.tb_ast.specs.declared.operator.AssignOp.TheVariants as assign
use Rattle.tb_ast.specs.declared.expression.ExprPath.{ExprPath}
use Rattle.tb_ast.specs.declared.expression.PrintText.{PrintText}
use Rattle.tb_ast.specs.declared.expression.Expr.{Expr, out-Expr}
use Rattle.tb_ast.specs.declared.expression.Else.{Else}
use Rattle.tb_ast.specs.declared.expression.Block.{Block}
use Rattle.tb_ast.specs.declared.expression.Stmt.{Stmt}
use Rattle.tb_ast.specs.declared.expression.FieldValue.{FieldValue}
use Rattle.tb_ast.specs.declared.expression.Initializer.{Initializer}
use Rattle.tb_ast.specs.declared.expression.Else.TheOpen.{Else-F, Expr-F, FieldValue-F, Stmt-F, Block-F, Initializer-F}
use Rattle.tb_ast.specs.declared.expression.Else.TheOpen.Expr-F.{Literal, Path, StructLiteral, Unit, Paren, Tuple, Array, Repeat, Unsafe, While, Loop, Return, Break, Continue, Print, Panic, Assert, Field, TupleField, MethodCall, Call, Index, Unary, Borrow as Borrowed, Cast, Binary, Assign, AssignOp as Computed}
use Rattle.tb_ast.specs.declared.expression.Else.TheFolds.{fold-Else, fold-Expr, fold-FieldValue, fold-Stmt, fold-Block, fold-Initializer, map-Expr}
use Rattle.tb_ast.specs.Pieces.{punct, mark, keyword, word, ident, number, literal, optional_keyword, optional_mark, text_piece, text_pieces, separated, in_order, path_pieces}
use Rattle.tb_ast.specs.Types.{Row, optional, type_pieces, turbofish_pieces, note_pieces}

-- Operators.

abbrev pub unary_mark : UnaryOp → Punctuation
unary_mark unary.Neg = punct_of.Minus
unary_mark unary.Not = punct_of.Not
unary_mark unary.Deref = punct_of.Star

abbrev pub borrow_kind : Borrow → Row
borrow_kind borrow.Shared = []
borrow_kind (borrow.Mut mutable) = keyword keyword_of.Mut mutable ∷ []
borrow_kind (borrow.RawConst raw constant) = word (codes "raw") raw ∷ keyword keyword_of.Const constant ∷ []
borrow_kind (borrow.RawMut raw mutable) = word (codes "raw") raw ∷ keyword keyword_of.Mut mutable ∷ []

abbrev pub binary_mark : BinaryOp → Punctuation
binary_mark binary.Mul = punct_of.Star
binary_mark binary.Div = punct_of.Slash
binary_mark binary.Rem = punct_of.Percent
binary_mark binary.Add = punct_of.Plus
binary_mark binary.Sub = punct_of.Minus
binary_mark binary.Shl = punct_of.Shl
binary_mark binary.Shr = punct_of.Shr
binary_mark binary.BitAnd = punct_of.And
binary_mark binary.BitXor = punct_of.Caret
binary_mark binary.BitOr = punct_of.Or
binary_mark binary.Eq = punct_of.EqEq
binary_mark binary.Ne = punct_of.Ne
binary_mark binary.Lt = punct_of.Lt
binary_mark binary.Gt = punct_of.Gt
binary_mark binary.Le = punct_of.Le
binary_mark binary.Ge = punct_of.Ge
binary_mark binary.And = punct_of.AndAnd
binary_mark binary.Or = punct_of.OrOr

abbrev pub assign_mark : AssignOp → Punctuation
assign_mark assign.Mul = punct_of.StarEq
assign_mark assign.Div = punct_of.SlashEq
assign_mark assign.Rem = punct_of.PercentEq
assign_mark assign.Add = punct_of.PlusEq
assign_mark assign.Sub = punct_of.MinusEq
assign_mark assign.Shl = punct_of.ShlEq
assign_mark assign.Shr = punct_of.ShrEq
assign_mark assign.BitAnd = punct_of.AndEq
assign_mark assign.BitXor = punct_of.CaretEq
assign_mark assign.BitOr = punct_of.OrEq

-- Parts of expressions that hold no expression.

abbrev pub path_row : ExprPath → Row
path_row expression = path_pieces expression.path ++ turbofish_pieces expression.turbofish

abbrev pub print_word : Bool → List ℕ
print_word false = codes "print"
print_word true = codes "println"

abbrev pub print_text : Option PrintText → Row
print_text None = []
print_text (Some format) = text_piece format.text ∷ optional_mark Comma format.comma

abbrev pub macro_front : List ℕ → Span → Span → Span → Row
macro_front name at bang opening = word name at ∷ punct punct_of.Not bang ∷ punct OpenParen opening ∷ []

-- an expression over the pieces of the expressions and blocks in it
abbrev pub expr_row : Expr-F Row Row Row Row Row Row → Row
expr_row (Literal value) = literal value ∷ []
expr_row (Path path) = path_row path
expr_row (StructLiteral span path opening fields commas closing) = path_pieces path ++ (punct OpenBrace opening ∷ (separated Comma fields commas ++ punct CloseBrace closing ∷ []))
expr_row (Unit span opening closing) = punct OpenParen opening ∷ punct CloseParen closing ∷ []
expr_row (Paren span opening inner closing) = punct OpenParen opening ∷ (inner ++ punct CloseParen closing ∷ [])
expr_row (Tuple span opening parts commas closing) = punct OpenParen opening ∷ (separated Comma parts commas ++ punct CloseParen closing ∷ [])
expr_row (Array span opening elements commas closing) = punct OpenBracket opening ∷ (separated Comma elements commas ++ punct CloseBracket closing ∷ [])
expr_row (Repeat span opening element semicolon length closing) = punct OpenBracket opening ∷ (element ++ punct Semicolon semicolon ∷ number length ∷ punct CloseBracket closing ∷ [])
expr_row (Expr-F.Block body) = body
expr_row (Unsafe span at body) = keyword keyword_of.Unsafe at ∷ body
expr_row (While span at condition body) = keyword keyword_of.While at ∷ (condition ++ body)
expr_row (Loop span at body) = keyword keyword_of.Loop at ∷ body
expr_row (Expr-F.If span at condition body otherwise) = keyword keyword_of.If at ∷ (condition ++ (body ++ optional otherwise))
expr_row (Return span at value) = keyword keyword_of.Return at ∷ optional value
expr_row (Break span) = keyword keyword_of.Break span ∷ []
expr_row (Continue span) = keyword keyword_of.Continue span ∷ []
expr_row (Print span name newline bang opening text arguments commas closing) = macro_front (print_word newline) name bang opening ++ (print_text text ++ (separated Comma arguments commas ++ punct CloseParen closing ∷ []))
expr_row (Panic span name bang opening text closing) = macro_front (codes "panic") name bang opening ++ (text_pieces text ++ punct CloseParen closing ∷ [])
expr_row (Assert span name bang opening condition comma closing) = macro_front (codes "assert") name bang opening ++ (condition ++ (optional_mark Comma comma ++ punct CloseParen closing ∷ []))
expr_row (Field span base dot name) = base ++ punct Dot dot ∷ ident name ∷ []
expr_row (TupleField span base dot index) = base ++ punct Dot dot ∷ number index ∷ []
expr_row (MethodCall span receiver dot name turbofish opening arguments commas closing) = receiver ++ (punct Dot dot ∷ ident name ∷ (turbofish_pieces turbofish ++ (punct OpenParen opening ∷ (separated Comma arguments commas ++ punct CloseParen closing ∷ []))))
expr_row (Call span callee opening arguments commas closing) = path_row callee ++ (punct OpenParen opening ∷ (separated Comma arguments commas ++ punct CloseParen closing ∷ []))
expr_row (Index span base opening index closing) = base ++ (punct OpenBracket opening ∷ (index ++ punct CloseBracket closing ∷ []))
expr_row (Unary span operator at operand) = punct (unary_mark operator) at ∷ operand
expr_row (Borrowed span and kind operand) = mark punct_of.And and ∷ (borrow_kind kind ++ operand)
expr_row (Cast span operand at ty) = operand ++ keyword keyword_of.As at ∷ type_pieces ty
expr_row (Binary span left operator at right) = left ++ mark (binary_mark operator) at ∷ right
expr_row (Assign span target equals value) = target ++ mark punct_of.Eq equals ∷ value
expr_row (Computed span target operator at value) = target ++ punct (assign_mark operator) at ∷ value

abbrev pub else_row : Else-F Row Row Row Row Row Row → Row
else_row (Else-F.ElseBlock at body) = keyword keyword_of.Else at ∷ body
else_row (Else-F.ElseIf at branch) = keyword keyword_of.Else at ∷ branch

abbrev pub field_row : FieldValue-F Row Row Row Row Row Row → Row
field_row (FieldValue-F.Named name colon value) = ident name ∷ punct Colon colon ∷ value
field_row (FieldValue-F.Short name) = ident name ∷ []

abbrev pub stmt_row : Stmt-F Row Row Row Row Row Row → Row
stmt_row (Stmt-F.Empty span) = punct Semicolon span ∷ []
stmt_row (Stmt-F.Let span at mutable name ty value semicolon) = keyword keyword_of.Let at ∷ (optional_keyword keyword_of.Mut mutable ++ (ident name ∷ (note_pieces ty ++ (optional value ++ punct Semicolon semicolon ∷ []))))
stmt_row (Stmt-F.Expr span expression semicolon) = expression ++ punct Semicolon semicolon ∷ []
stmt_row (Stmt-F.Blocky expression) = expression

abbrev pub block_row : Block-F Row Row Row Row Row Row → Row
block_row block = punct OpenBrace block.opening ∷ (in_order block.statements ++ (optional block.last ++ punct CloseBrace block.closing ∷ []))

abbrev pub initializer_row : Initializer-F Row Row Row Row Row Row → Row
initializer_row initializer = mark punct_of.Eq initializer.equals ∷ initializer.value

-- the pieces of each
abbrev pub else_pieces : Else → Row
else_pieces = fold-Else Row Row Row Row Row Row else_row expr_row field_row stmt_row block_row initializer_row

abbrev pub expr_pieces : Expr → Row
expr_pieces = fold-Expr Row Row Row Row Row Row else_row expr_row field_row stmt_row block_row initializer_row

abbrev pub field_pieces : FieldValue → Row
field_pieces = fold-FieldValue Row Row Row Row Row Row else_row expr_row field_row stmt_row block_row initializer_row

abbrev pub stmt_pieces : Stmt → Row
stmt_pieces = fold-Stmt Row Row Row Row Row Row else_row expr_row field_row stmt_row block_row initializer_row

abbrev pub block_pieces : Block → Row
block_pieces = fold-Block Row Row Row Row Row Row else_row expr_row field_row stmt_row block_row initializer_row

abbrev pub initializer_pieces : Initializer → Row
initializer_pieces = fold-Initializer Row Row Row Row Row Row else_row expr_row field_row stmt_row block_row initializer_row

-- an expression, with their pieces in the place of the expressions and blocks in it
abbrev pub expr_layer : Expr → Expr-F Row Row Row Row Row Row
expr_layer e = map-Expr _ _ _ _ _ _ Row Row Row Row Row Row else_pieces expr_pieces field_pieces stmt_pieces block_pieces initializer_pieces (out-Expr e)
