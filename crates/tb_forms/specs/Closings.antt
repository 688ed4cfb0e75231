-- What stands behind the last expression in an operand.
use Rattle.std.specs.Prelude.{◌≡◌, ◌⊎◌, Bool, true, false, if◌then◌else◌, List, [], ◌∷◌, Option, None, Some}
use Rattle.tb_perm.specs.declared.span.Span.{Span}
use Rattle.tb_lex.specs.declared.suffix.Suffix.{Suffix}
use Rattle.tb_lex.specs.declared.suffix.Suffix.TheVariants as suffix
use Rattle.tb_lex.specs.declared.punctuation.Punctuation.TheVariants.{CloseParen, CloseBracket, CloseBrace, Semicolon}
use Rattle.tb_ast.specs.declared.leaf.Ident.{Ident}
use Rattle.tb_ast.specs.declared.leaf.IntLiteral.{IntLiteral}
use Rattle.tb_ast.specs.declared.leaf.Path.{Path}
use Rattle.tb_ast.specs.declared.written.Turbofish.{Turbofish}
use Rattle.tb_ast.specs.declared.expression.ExprPath.{ExprPath}
use Rattle.tb_ast.specs.declared.expression.PrintText.{PrintText}
use Rattle.tb_ast.specs.declared.expression.FieldValue.{FieldValue}
use Rattle.tb_ast.specs.declared.expression.Expr.{Expr}
use Rattle.tb_syntax.specs.Reading.{◌>>=◌}
use Rattle.tb_syntax.specs.State.{State}
use Rattle.tb_syntax.specs.Marks.{punct_at, has_mark}
use Rattle.tb_syntax.specs.Leaves.{number_at}
use Rattle.tb_syntax.specs.Lists.{Listed}
use Rattle.tb_forms.specs.Fronts.{optional_comma_at}
use Rattle.tb_forms.specs.Trees.{struct_literal, call_of, method_call, unit_in, paren_in, tuple_in, array_in, repeat_in, print_of, assert_of, index_of}

-- none, one without a comma, or two or more
abbrev pub group_of : Span → List Expr → List Span → Span → Option Expr
group_of opening [] commas closing = Some (unit_in opening closing)
group_of opening (inner ∷ []) [] closing = Some (paren_in opening inner closing)
group_of opening (inner ∷ []) (comma ∷ commas) closing = None
group_of opening (first ∷ second ∷ parts) commas closing = Some (tuple_in opening (first ∷ second ∷ parts) commas closing)

unfoldable pub group_at : Span → Listed Expr → State → Option (Expr × State)
group_at opening parts state = punct_at CloseParen state >>= λ closing. group_of opening parts.0 parts.1 closing.0 >>= λ e. Some (e, closing.1)

-- the number of elements may have the suffix of its type
abbrev pub is_count : Option Suffix → Bool
is_count None = true
is_count (Some suffix.Usize) = true
is_count (Some other) = false

unfoldable pub count_at : State → Option (IntLiteral × State)
count_at state = number_at state >>= λ x. if is_count x.0.integer.suffix then Some (x.0, x.1) else None

-- one element alone before the semicolon
abbrev pub repeated_in : List Expr → List Span → Option Expr
repeated_in (element ∷ []) [] = Some element
repeated_in elements commas = None

unfoldable pub repeat_at : Span → Expr → State → Option (Expr × State)
repeat_at opening element state = do
  semicolon ← punct_at Semicolon state
  count ← count_at semicolon.1
  closing ← punct_at CloseBracket count.1
  Some (repeat_in opening element semicolon.0 count.0 closing.0, closing.1)

unfoldable pub array_at : Span → Listed Expr → State → Option (Expr × State)
array_at opening elements state =
    if has_mark Semicolon state then (repeated_in elements.0 elements.1 >>= λ element. repeat_at opening element state)
    else (punct_at CloseBracket state >>= λ closing. Some (array_in opening elements.0 elements.1 closing.0, closing.1))

unfoldable pub literal_at : Path → Span → Listed FieldValue → State → Option (Expr × State)
literal_at path opening fields state = punct_at CloseBrace state >>= λ closing. Some (struct_literal path opening fields.0 fields.1 closing.0, closing.1)

unfoldable pub call_at : ExprPath → Span → Listed Expr → State → Option (Expr × State)
call_at callee opening arguments state = punct_at CloseParen state >>= λ closing. Some (call_of callee opening arguments.0 arguments.1 closing.0, closing.1)

unfoldable pub method_call_at : Expr → Span → Ident → Option Turbofish → Span → Listed Expr → State → Option (Expr × State)
method_call_at receiver dot name turbofish opening arguments state =
    punct_at CloseParen state >>= λ closing. Some (method_call receiver dot name turbofish opening arguments.0 arguments.1 closing.0, closing.1)

unfoldable pub index_at : Expr → Span → Expr → State → Option (Expr × State)
index_at base opening index state = punct_at CloseBracket state >>= λ closing. Some (index_of base opening index closing.0, closing.1)

unfoldable pub print_at : Span → Bool → Span → Span → Option PrintText → Listed Expr → State → Option (Expr × State)
print_at name newline bang opening text arguments state =
    punct_at CloseParen state >>= λ closing. Some (print_of name newline bang opening text arguments.0 arguments.1 closing.0, closing.1)

unfoldable pub assert_at : Span → Span → Span → Expr → State → Option (Expr × State)
assert_at name bang opening condition state =
    optional_comma_at state >>= λ comma. punct_at CloseParen comma.1 >>= λ closing. Some (assert_of name bang opening condition comma.0 closing.0, closing.1)

-- As they are written.

abbrev pub IsCount : IntLiteral → Type 0
IsCount int = (int.integer.suffix ≡ None) ⊎ (int.integer.suffix ≡ Some suffix.Usize)
