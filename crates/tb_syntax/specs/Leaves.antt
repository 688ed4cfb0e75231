-- Reading whole tokens: keywords, names, words, lifetimes, integers and texts.
use Rattle.std.specs.Prelude.{ℕ, Bool, true, false, if◌then◌else◌, List, [], ◌∷◌, Option, None, Some}
use Rattle.std.specs.Str.{bytes_eq}
use Rattle.tb_perm.specs.declared.span.Span.{Span}
use Rattle.tb_lex.specs.declared.keyword.Keyword.{Keyword}
use Rattle.tb_lex.specs.contracts.keyword.KeywordPartialEq.TheImpl as keyword_law
use Rattle.tb_lex.specs.declared.token.TokenKind.{TokenKind}
use Rattle.tb_lex.specs.declared.token.TokenKind.TheVariants as kind
use Rattle.tb_lex.specs.declared.token.Token.{Token}
use Rattle.tb_lex.specs.declared.token.Name.{Name}
use Rattle.tb_lex.specs.declared.token.Integer.{Integer}
use Rattle.tb_lex.specs.declared.token.Text.{Text}
use Rattle.tb_ast.specs.declared.leaf.Ident.{Ident}
use Rattle.tb_ast.specs.declared.leaf.Lifetime.{Lifetime}
use Rattle.tb_ast.specs.declared.leaf.IntLiteral.{IntLiteral}
use Rattle.tb_ast.specs.declared.leaf.TextLiteral.{TextLiteral}
use Rattle.tb_ast.specs.Joined.{token_of}
use Rattle.tb_syntax.specs.Reading.{◌>>=◌}
use Rattle.tb_syntax.specs.State.{State}

-- the token at the front, and what stands behind it
abbrev pub token_at : State → Option (Token × State)
token_at [] = None
token_at (piece ∷ state) = if piece.glued then None else Some (token_of piece, state)

abbrev pub is_keyword : Keyword → TokenKind → Bool
is_keyword word (kind.Keyword found) = (keyword_law.ghosts).eq found word
is_keyword word other = false

abbrev pub name_in : TokenKind → Option Name
name_in (kind.Name name) = Some name
name_in other = None

abbrev pub lifetime_in : TokenKind → Option Name
lifetime_in (kind.Lifetime name) = Some name
lifetime_in other = None

abbrev pub integer_in : TokenKind → Option Integer
integer_in (kind.Integer integer) = Some integer
integer_in other = None

abbrev pub text_in : TokenKind → Option Text
text_in (kind.Text text) = Some text
text_in other = None

abbrev pub is_name : TokenKind → Bool
is_name (kind.Name name) = true
is_name other = false

abbrev pub is_lifetime : TokenKind → Bool
is_lifetime (kind.Lifetime name) = true
is_lifetime other = false

-- a keyword, and its place
unfoldable pub keyword_at : Keyword → State → Option (Span × State)
keyword_at word state = token_at state >>= λ x. if is_keyword word x.0.kind then Some (x.0.span, x.1) else None

-- an identifier
unfoldable pub name_at : State → Option (Ident × State)
name_at state = token_at state >>= λ x. name_in x.0.kind >>= λ name. Some (record { name = name; span = x.0.span }, x.1)

-- an identifier that the grammar reads as a word
unfoldable pub word_at : List ℕ → State → Option (Span × State)
word_at word state = token_at state >>= λ x. name_in x.0.kind >>= λ name. if bytes_eq name.bytes word then Some (x.0.span, x.1) else None

unfoldable pub lifetime_at : State → Option (Lifetime × State)
lifetime_at state = token_at state >>= λ x. lifetime_in x.0.kind >>= λ name. Some (record { name = name; span = x.0.span }, x.1)

unfoldable pub number_at : State → Option (IntLiteral × State)
number_at state = token_at state >>= λ x. integer_in x.0.kind >>= λ integer. Some (record { integer = integer; span = x.0.span }, x.1)

unfoldable pub text_at : State → Option (TextLiteral × State)
text_at state = token_at state >>= λ x. text_in x.0.kind >>= λ text. Some (record { text = text; span = x.0.span }, x.1)

-- a token of this form comes next
abbrev pub passes : (TokenKind → Bool) → Option (Token × State) → Bool
passes test None = false
passes test (Some x) = test x.0.kind

unfoldable pub has_keyword : Keyword → State → Bool
has_keyword word state = passes (is_keyword word) (token_at state)

unfoldable pub has_name : State → Bool
has_name state = passes is_name (token_at state)

unfoldable pub has_lifetime : State → Bool
has_lifetime state = passes is_lifetime (token_at state)

-- a keyword that may be left out
unfoldable pub optional_keyword_at : Keyword → State → Option (Option Span × State)
optional_keyword_at word state =
    if has_keyword word state then (keyword_at word state >>= λ x. Some (Some x.0, x.1)) else Some (None, state)

-- a lifetime that may be left out
unfoldable pub optional_lifetime_at : State → Option (Option Lifetime × State)
optional_lifetime_at state =
    if has_lifetime state then (lifetime_at state >>= λ x. Some (Some x.0, x.1)) else Some (None, state)
