-- What stands before the first expression, block or list in an operand, or is the whole of it.
use Rattle.std.specs.Prelude.{◌≡◌, ℕ, Bool, true, false, if◌then◌else◌, List, [], ◌∷◌, ◌++◌, Option, None, Some, codes}
use Rattle.tb_perm.specs.declared.span.Span.{Span}
use Rattle.tb_lex.specs.declared.keyword.Keyword.{Keyword}
use Rattle.tb_lex.specs.declared.keyword.Keyword.TheVariants as keyword_of
use Rattle.tb_lex.specs.declared.punctuation.Punctuation.{Punctuation}
use Rattle.tb_lex.specs.declared.punctuation.Punctuation.TheVariants as punct_of
use Rattle.tb_lex.specs.declared.token.TokenKind.{TokenKind}
use Rattle.tb_lex.specs.declared.token.TokenKind.TheVariants as kind
use Rattle.tb_lex.specs.declared.token.Token.{Token}
use Rattle.tb_ast.specs.declared.leaf.Mark.{Mark}
use Rattle.tb_ast.specs.declared.leaf.Path.{Path}
use Rattle.tb_ast.specs.declared.leaf.TextLiteral.{TextLiteral}
use Rattle.tb_ast.specs.declared.leaf.Literal.TheVariants as literals
use Rattle.tb_ast.specs.declared.operator.UnaryOp.TheVariants as unary
use Rattle.tb_ast.specs.declared.operator.Borrow.{Borrow}
use Rattle.tb_ast.specs.declared.operator.Borrow.TheVariants as borrow
use Rattle.tb_ast.specs.declared.written.Turbofish.{Turbofish}
use Rattle.tb_ast.specs.declared.expression.ExprPath.{ExprPath}
use Rattle.tb_ast.specs.declared.expression.PrintText.{PrintText}
use Rattle.tb_ast.specs.Pieces.{punct, mark, keyword, literal, path_pieces, text_pieces}
use Rattle.tb_ast.specs.Expressions.{unary_mark, borrow_kind, path_row, print_word, print_text, macro_front}
use Rattle.tb_syntax.specs.Reading.{◌>>=◌}
use Rattle.tb_syntax.specs.State.{State, Begins, Stands}
use Rattle.tb_syntax.specs.Marks.{first_mark, mark_at, punct_at, has_mark}
use Rattle.tb_syntax.specs.Leaves.{token_at, keyword_at, has_keyword, word_at, text_at}
use Rattle.tb_syntax.specs.Attributes.{has_word}
use Rattle.tb_syntax.specs.Paths.{from_to, path_at, IsPath}
use Rattle.tb_syntax.specs.Notes.{turbofish_at, IsTurbofish, TurbofishEnds}
use Rattle.tb_forms.specs.declared.place.Where.{Where}
use Rattle.tb_forms.specs.declared.place.Where.TheVariants.{Anywhere, Condition}
use Rattle.tb_forms.specs.declared.front.Front.{Front}
use Rattle.tb_forms.specs.declared.front.Front.TheVariants as front
use Rattle.tb_forms.specs.Beginnings.{begins_macro, begins_raw, has_text}

-- Paths.

abbrev pub path_span : Path → Option Turbofish → Span
path_span path None = path.span
path_span path (Some turbofish) = from_to path.span turbofish.closing.span

unfoldable pub expr_path_at : ℕ → State → Option (ExprPath × State)
expr_path_at depth state = do
  path ← path_at state
  turbofish ← turbofish_at depth path.1
  Some (record { span = path_span path.0 turbofish.0; path = path.0; turbofish = turbofish.0 }, turbofish.1)

-- `{` opens a struct literal behind a path without types, but not in a condition
abbrev pub opens_literal : Where → Option Turbofish → State → Bool
opens_literal Anywhere None state = has_mark punct_of.OpenBrace state
opens_literal Anywhere (Some turbofish) state = false
opens_literal Condition turbofish state = false

abbrev pub call_front : ExprPath → State → Option (Front × State)
call_front path state = punct_at punct_of.OpenParen state >>= λ opening. Some (front.Call path opening.0, opening.1)

abbrev pub literal_front : Path → State → Option (Front × State)
literal_front path state = punct_at punct_of.OpenBrace state >>= λ opening. Some (front.StructLiteral path opening.0, opening.1)

-- a call, a struct literal, or the path alone
abbrev pub path_goes_on : Where → ExprPath → State → Option (Front × State)
path_goes_on place path state =
    if has_mark punct_of.OpenParen state then call_front path state
    else (if opens_literal place path.turbofish state then literal_front path.path state
    else Some (front.Path path, state))

unfoldable pub path_front_at : ℕ → Where → State → Option (Front × State)
path_front_at depth place state = expr_path_at depth state >>= λ path. path_goes_on place path.0 path.1

-- Macros: a word, `!` and `(`.

abbrev pub MacroHead : Type 0
MacroHead = Span × (Span × Span)

unfoldable pub macro_head_at : List ℕ → State → Option (MacroHead × State)
macro_head_at name state = do
  at ← word_at name state
  bang ← punct_at punct_of.Not at.1
  opening ← punct_at punct_of.OpenParen bang.1
  Some ((at.0, (bang.0, opening.0)), opening.1)

-- a comma that may be left out
unfoldable pub optional_comma_at : State → Option (Option Span × State)
optional_comma_at state =
    if has_mark punct_of.Comma state then (punct_at punct_of.Comma state >>= λ x. Some (Some x.0, x.1)) else Some (None, state)

-- only `println!` may be without a text
unfoldable pub print_text_at : Bool → State → Option (Option PrintText × State)
print_text_at newline state =
    if has_text state then (text_at state >>= λ text. optional_comma_at text.1 >>= λ comma. Some (Some (record { text = text.0; comma = comma.0 }), comma.1))
    else (if newline then Some (None, state) else None)

unfoldable pub print_front_at : Bool → State → Option (Front × State)
print_front_at newline state = do
  head ← macro_head_at (print_word newline) state
  text ← print_text_at newline head.1
  Some (front.Print head.0.0 newline head.0.1.0 head.0.1.1 text.0, text.1)

unfoldable pub optional_text_at : State → Option (Option TextLiteral × State)
optional_text_at state = if has_text state then (text_at state >>= λ x. Some (Some x.0, x.1)) else Some (None, state)

unfoldable pub panic_front_at : State → Option (Front × State)
panic_front_at state = do
  head ← macro_head_at (codes "panic") state
  text ← optional_text_at head.1
  closing ← punct_at punct_of.CloseParen text.1
  Some (front.Panic head.0.0 head.0.1.0 head.0.1.1 text.0 closing.0, closing.1)

unfoldable pub assert_front_at : State → Option (Front × State)
assert_front_at state = macro_head_at (codes "assert") state >>= λ head. Some (front.Assert head.0.0 head.0.1.0 head.0.1.1, head.1)

unfoldable pub macro_front_at : State → Option (Front × State)
macro_front_at state =
    if has_word (codes "print") state then print_front_at false state
    else (if has_word (codes "println") state then print_front_at true state
    else (if has_word (codes "panic") state then panic_front_at state
    else assert_front_at state))

-- Borrows.

abbrev pub raw_kind : Span → State → Option (Borrow × State)
raw_kind raw state =
    if has_keyword keyword_of.Const state then (keyword_at keyword_of.Const state >>= λ x. Some (borrow.RawConst raw x.0, x.1))
    else (keyword_at keyword_of.Mut state >>= λ x. Some (borrow.RawMut raw x.0, x.1))

unfoldable pub borrow_kind_at : State → Option (Borrow × State)
borrow_kind_at state =
    if has_keyword keyword_of.Mut state then (keyword_at keyword_of.Mut state >>= λ x. Some (borrow.Mut x.0, x.1))
    else (if begins_raw state then (word_at (codes "raw") state >>= λ raw. raw_kind raw.0 raw.1)
    else Some (borrow.Shared, state))

unfoldable pub borrow_front_at : State → Option (Front × State)
borrow_front_at state = mark_at punct_of.And state >>= λ and. borrow_kind_at and.1 >>= λ kind. Some (front.Borrow and.0 kind.0, kind.1)

-- All of them, by the mark or the token that comes next.

-- what a mark that is not glued is, with what follows it
abbrev pub unless_glued : {A : Type 0} → Mark → A → State → Option (A × State)
unless_glued at value state = if at.glued then None else Some (value, state)

abbrev pub marked_front : State → Punctuation → Mark → State → Option (Front × State)
marked_front state punct_of.OpenParen at rest = unless_glued at (front.Paren at.span) rest
marked_front state punct_of.OpenBracket at rest = unless_glued at (front.Bracket at.span) rest
marked_front state punct_of.OpenBrace at rest = Some (front.Block, state)
marked_front state punct_of.Minus at rest = unless_glued at (front.Unary unary.Neg at.span) rest
marked_front state punct_of.Not at rest = unless_glued at (front.Unary unary.Not at.span) rest
marked_front state punct_of.Star at rest = unless_glued at (front.Unary unary.Deref at.span) rest
marked_front state punct_of.And at rest = borrow_front_at state
marked_front state punct_of.AndAnd at rest = borrow_front_at state
marked_front state other at rest = None

abbrev pub keyword_front : Keyword → Span → Option Front
keyword_front keyword_of.True span = Some (front.Literal (literals.Bool (record { value = true; span = span })))
keyword_front keyword_of.False span = Some (front.Literal (literals.Bool (record { value = false; span = span })))
keyword_front keyword_of.Unsafe span = Some (front.Unsafe span)
keyword_front keyword_of.While span = Some (front.While span)
keyword_front keyword_of.Loop span = Some (front.Loop span)
keyword_front keyword_of.If span = Some (front.If span)
keyword_front keyword_of.Return span = Some (front.Return span)
keyword_front keyword_of.Break span = Some (front.Break span)
keyword_front keyword_of.Continue span = Some (front.Continue span)
keyword_front other span = None

abbrev pub worded_front : ℕ → Where → State → TokenKind → Span → State → Option (Front × State)
worded_front depth place state (kind.Integer integer) span rest = Some (front.Literal (literals.Int (record { integer = integer; span = span })), rest)
worded_front depth place state (kind.Character value) span rest = Some (front.Literal (literals.Char (record { value = value; span = span })), rest)
worded_front depth place state (kind.Byte value) span rest = Some (front.Literal (literals.Byte (record { value = value; span = span })), rest)
worded_front depth place state (kind.Keyword word) span rest = keyword_front word span >>= λ f. Some (f, rest)
worded_front depth place state (kind.Name name) span rest =
    if has_mark punct_of.Not rest then macro_front_at state else path_front_at depth place state
worded_front depth place state other span rest = None

abbrev pub token_front : ℕ → Where → State → Option (Token × State) → Option (Front × State)
token_front depth place state None = None
token_front depth place state (Some x) = worded_front depth place state x.0.kind x.0.span x.1

abbrev pub front_with : ℕ → Where → State → Option (Punctuation × Mark × State) → Option (Front × State)
front_with depth place state (Some x) = marked_front state x.0 x.1 x.2
front_with depth place state None = token_front depth place state (token_at state)

-- with types of at most this depth, and with a struct literal or not
unfoldable pub front_at : ℕ → Where → State → Option (Front × State)
front_at depth place state = front_with depth place state (first_mark state)

-- As they are written.

-- a path in an expression: a name with `!` behind it is none, and it goes on with `::` as far as it can
pub record IsExprPathAt (depth : ℕ) (state : State) (path : ExprPath) (rest : State) : Type 0 where
  pub plain : begins_macro state ≡ false
  pub stands : Stands (path_row path) state rest
  pub span : path.span ≡ path_span path.path path.turbofish
  pub is_path : IsPath path.path
  pub types : IsTurbofish depth path.turbofish
  pub ends : TurbofishEnds path.turbofish rest

-- `&` alone stands before no `mut`, and before no `raw` that is a word
abbrev pub BorrowEnds : Borrow → State → Type 0
BorrowEnds borrow.Shared rest = (has_keyword keyword_of.Mut rest ≡ false) × (begins_raw rest ≡ false)
BorrowEnds other rest = Unit {0}

-- a text without a comma stands before none, and only `println!` is without a text
abbrev pub PrintEnds : Bool → Option PrintText → State → Type 0
PrintEnds newline None rest = (newline ≡ true) × (has_text rest ≡ false)
PrintEnds newline (Some format) rest = (format.comma ≡ None → has_mark punct_of.Comma rest ≡ false)

abbrev pub IsFrontAt : ℕ → Where → State → Front → State → Type 0
IsFrontAt depth place state (front.Literal value) rest = Begins (literal value) state rest
IsFrontAt depth place state (front.Path path) rest = IsExprPathAt depth state path rest × (has_mark punct_of.OpenParen rest ≡ false) × (opens_literal place path.turbofish rest ≡ false)
IsFrontAt depth place state (front.StructLiteral path opening) rest =
    (place ≡ Anywhere) × (begins_macro state ≡ false) × IsPath path × (middle : State) × Stands (path_pieces path) state middle × Begins (punct punct_of.OpenBrace opening) middle rest
IsFrontAt depth place state (front.Call path opening) rest = (middle : State) × IsExprPathAt depth state path middle × Begins (punct punct_of.OpenParen opening) middle rest
IsFrontAt depth place state (front.Paren opening) rest = Begins (punct punct_of.OpenParen opening) state rest
IsFrontAt depth place state (front.Bracket opening) rest = Begins (punct punct_of.OpenBracket opening) state rest
IsFrontAt depth place state front.Block rest = (has_mark punct_of.OpenBrace state ≡ true) × (state ≡ rest)
IsFrontAt depth place state (front.Unsafe at) rest = Begins (keyword keyword_of.Unsafe at) state rest
IsFrontAt depth place state (front.While at) rest = Begins (keyword keyword_of.While at) state rest
IsFrontAt depth place state (front.Loop at) rest = Begins (keyword keyword_of.Loop at) state rest
IsFrontAt depth place state (front.If at) rest = Begins (keyword keyword_of.If at) state rest
IsFrontAt depth place state (front.Return at) rest = Begins (keyword keyword_of.Return at) state rest
IsFrontAt depth place state (front.Break at) rest = Begins (keyword keyword_of.Break at) state rest
IsFrontAt depth place state (front.Continue at) rest = Begins (keyword keyword_of.Continue at) state rest
IsFrontAt depth place state (front.Print name newline bang opening text) rest = Stands (macro_front (print_word newline) name bang opening ++ print_text text) state rest × PrintEnds newline text rest
IsFrontAt depth place state (front.Panic name bang opening text closing) rest =
    Stands (macro_front (codes "panic") name bang opening ++ (text_pieces text ++ punct punct_of.CloseParen closing ∷ [])) state rest
IsFrontAt depth place state (front.Assert name bang opening) rest = Stands (macro_front (codes "assert") name bang opening) state rest
IsFrontAt depth place state (front.Unary operator at) rest = Begins (punct (unary_mark operator) at) state rest
IsFrontAt depth place state (front.Borrow and kind) rest = (middle : State) × Begins (mark punct_of.And and) state middle × Stands (borrow_kind kind) middle rest × BorrowEnds kind rest
