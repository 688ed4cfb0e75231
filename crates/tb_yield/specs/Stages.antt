-- An expression in four parts: what stands before the first expression or block in it, between the first and the others, and behind the last.
use Rattle.std.specs.Prelude.{[], ◌∷◌, ◌++◌, codes}
use Rattle.tb_lex.specs.declared.keyword.Keyword.TheVariants as keyword_of
use Rattle.tb_lex.specs.declared.punctuation.Punctuation.TheVariants as punct_of
use Rattle.tb_lex.specs.declared.punctuation.Punctuation.TheVariants.{OpenParen, CloseParen, OpenBracket, CloseBracket, OpenBrace, CloseBrace, Comma, Semicolon, Dot}
use Rattle.tb_ast.specs.declared.expression.Else.TheOpen.{Expr-F}
use Rattle.tb_ast.specs.declared.expression.Else.TheOpen.Expr-F.{Literal, Path, StructLiteral, Unit, Paren, Tuple, Array, Repeat, Unsafe, While, Loop, Return, Break, Continue, Print, Panic, Assert, Field, TupleField, MethodCall, Call, Index, Unary, Borrow as Borrowed, Cast, Binary, Assign, AssignOp as Computed}
use Rattle.tb_ast.specs.Pieces.{punct, mark, keyword, ident, number, literal, optional_mark, text_pieces, separated, path_pieces}
use Rattle.tb_ast.specs.Types.{Row, optional, type_pieces, turbofish_pieces}
use Rattle.tb_ast.specs.Expressions.{unary_mark, borrow_kind, binary_mark, assign_mark, path_row, print_word, print_text, macro_front}

-- the words that an expression may begin with, and what else stands before the first expression or block in it
abbrev pub word_front : Expr-F Row Row Row Row Row Row → Row
word_front (Unsafe span at body) = keyword keyword_of.Unsafe at ∷ []
word_front (While span at condition body) = keyword keyword_of.While at ∷ []
word_front (Loop span at body) = keyword keyword_of.Loop at ∷ []
word_front (Expr-F.If span at condition body otherwise) = keyword keyword_of.If at ∷ []
word_front (Return span at value) = keyword keyword_of.Return at ∷ []
word_front (Break span) = keyword keyword_of.Break span ∷ []
word_front (Continue span) = keyword keyword_of.Continue span ∷ []
word_front (Print span name newline bang opening text arguments commas closing) = macro_front (print_word newline) name bang opening ++ print_text text
word_front (Panic span name bang opening text closing) = macro_front (codes "panic") name bang opening ++ (text_pieces text ++ punct CloseParen closing ∷ [])
word_front (Assert span name bang opening condition comma closing) = macro_front (codes "assert") name bang opening
word_front row = []

abbrev pub expr_front : Expr-F Row Row Row Row Row Row → Row
expr_front (Literal value) = literal value ∷ []
expr_front (Path path) = path_row path
expr_front (StructLiteral span path opening fields commas closing) = path_pieces path ++ punct OpenBrace opening ∷ []
expr_front (Unit span opening closing) = punct OpenParen opening ∷ punct CloseParen closing ∷ []
expr_front (Paren span opening inner closing) = punct OpenParen opening ∷ []
expr_front (Tuple span opening parts commas closing) = punct OpenParen opening ∷ []
expr_front (Array span opening elements commas closing) = punct OpenBracket opening ∷ []
expr_front (Repeat span opening element semicolon length closing) = punct OpenBracket opening ∷ []
expr_front (Call span callee opening arguments commas closing) = path_row callee ++ punct OpenParen opening ∷ []
expr_front (Unary span operator at operand) = punct (unary_mark operator) at ∷ []
expr_front (Borrowed span and kind operand) = mark punct_of.And and ∷ borrow_kind kind
expr_front row = word_front row

abbrev pub expr_middle : Expr-F Row Row Row Row Row Row → Row
expr_middle (MethodCall span receiver dot name turbofish opening arguments commas closing) = punct Dot dot ∷ ident name ∷ (turbofish_pieces turbofish ++ punct OpenParen opening ∷ [])
expr_middle (Index span base opening index closing) = punct OpenBracket opening ∷ []
expr_middle (Binary span left operator at right) = mark (binary_mark operator) at ∷ []
expr_middle (Assign span target equals value) = mark punct_of.Eq equals ∷ []
expr_middle (Computed span target operator at value) = punct (assign_mark operator) at ∷ []
expr_middle row = []

-- the expressions and blocks in an expression, and what stands between them: first where an operator stands between two, or a method between a receiver and its arguments
abbrev pub operands_inside : Expr-F Row Row Row Row Row Row → Row
operands_inside (MethodCall span receiver dot name turbofish opening arguments commas closing) = receiver ++ (expr_middle (MethodCall span receiver dot name turbofish opening arguments commas closing) ++ separated Comma arguments commas)
operands_inside (Index span base opening index closing) = base ++ punct OpenBracket opening ∷ index
operands_inside (Binary span left operator at right) = left ++ mark (binary_mark operator) at ∷ right
operands_inside (Assign span target equals value) = target ++ mark punct_of.Eq equals ∷ value
operands_inside (Computed span target operator at value) = target ++ punct (assign_mark operator) at ∷ value
operands_inside row = []

abbrev pub choices_inside : Expr-F Row Row Row Row Row Row → Row
choices_inside (While span at condition body) = condition ++ body
choices_inside (Expr-F.If span at condition body otherwise) = condition ++ (body ++ optional otherwise)
choices_inside (Return span at value) = optional value
choices_inside (Field span base dot name) = base
choices_inside (TupleField span base dot index) = base
choices_inside (Unary span operator at operand) = operand
choices_inside (Borrowed span and kind operand) = operand
choices_inside (Cast span operand at ty) = operand
choices_inside row = operands_inside row

abbrev pub expr_inside : Expr-F Row Row Row Row Row Row → Row
expr_inside (StructLiteral span path opening fields commas closing) = separated Comma fields commas
expr_inside (Paren span opening inner closing) = inner
expr_inside (Tuple span opening parts commas closing) = separated Comma parts commas
expr_inside (Array span opening elements commas closing) = separated Comma elements commas
expr_inside (Repeat span opening element semicolon length closing) = element
expr_inside (Expr-F.Block body) = body
expr_inside (Unsafe span at body) = body
expr_inside (Loop span at body) = body
expr_inside (Print span name newline bang opening text arguments commas closing) = separated Comma arguments commas
expr_inside (Assert span name bang opening condition comma closing) = condition
expr_inside (Call span callee opening arguments commas closing) = separated Comma arguments commas
expr_inside row = choices_inside row

abbrev pub expr_back : Expr-F Row Row Row Row Row Row → Row
expr_back (StructLiteral span path opening fields commas closing) = punct CloseBrace closing ∷ []
expr_back (Paren span opening inner closing) = punct CloseParen closing ∷ []
expr_back (Tuple span opening parts commas closing) = punct CloseParen closing ∷ []
expr_back (Array span opening elements commas closing) = punct CloseBracket closing ∷ []
expr_back (Repeat span opening element semicolon length closing) = punct Semicolon semicolon ∷ number length ∷ punct CloseBracket closing ∷ []
expr_back (Print span name newline bang opening text arguments commas closing) = punct CloseParen closing ∷ []
expr_back (Assert span name bang opening condition comma closing) = optional_mark Comma comma ++ punct CloseParen closing ∷ []
expr_back (Field span base dot name) = punct Dot dot ∷ ident name ∷ []
expr_back (TupleField span base dot index) = punct Dot dot ∷ number index ∷ []
expr_back (MethodCall span receiver dot name turbofish opening arguments commas closing) = punct CloseParen closing ∷ []
expr_back (Call span callee opening arguments commas closing) = punct CloseParen closing ∷ []
expr_back (Index span base opening index closing) = punct CloseBracket closing ∷ []
expr_back (Cast span operand at ty) = keyword keyword_of.As at ∷ type_pieces ty
expr_back row = []
