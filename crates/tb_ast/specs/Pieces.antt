-- Pieces of a source: tokens, and parts of tokens that are glued to the piece before them.
use Rattle.std.specs.Prelude.{ℕ, Bool, true, false, List, [], ◌∷◌, ◌++◌, map, drop, slice_get, Option, None, Some}
use Rattle.tb_perm.specs.declared.span.Span.{Span}
use Rattle.tb_lex.specs.declared.keyword.Keyword.{Keyword}
use Rattle.tb_lex.specs.declared.keyword.Keyword.TheVariants.{True, False}
use Rattle.tb_lex.specs.declared.punctuation.Punctuation.{Punctuation}
use Rattle.tb_lex.specs.declared.punctuation.Punctuation.TheVariants.{PathSep}
use Rattle.tb_lex.specs.declared.token.TokenKind.{TokenKind}
use Rattle.tb_lex.specs.declared.token.TokenKind.TheVariants as kind
use Rattle.tb_ast.specs.declared.leaf.Mark.{Mark}
use Rattle.tb_ast.specs.declared.leaf.Ident.{Ident}
use Rattle.tb_ast.specs.declared.leaf.Lifetime.{Lifetime}
use Rattle.tb_ast.specs.declared.leaf.Path.{Path}
use Rattle.tb_ast.specs.declared.leaf.IntLiteral.{IntLiteral}
use Rattle.tb_ast.specs.declared.leaf.TextLiteral.{TextLiteral}
use Rattle.tb_ast.specs.declared.leaf.Literal.{Literal}
use Rattle.tb_ast.specs.declared.leaf.Literal.TheVariants.{Int, Char, Byte, Bool as Boolean}
use Rattle.tb_ast.specs.declared.piece.Piece.{Piece}

-- a token of its own
abbrev pub piece : TokenKind → Span → Piece
piece kind span = record { kind = kind; span = span; glued = false }

-- punctuation, a keyword, and an identifier that the grammar reads as a word
abbrev pub punct : Punctuation → Span → Piece
punct punctuation span = piece (kind.Punctuation punctuation) span

abbrev pub keyword : Keyword → Span → Piece
keyword word span = piece (kind.Keyword word) span

abbrev pub word : List ℕ → Span → Piece
word text span = piece (kind.Name (record { bytes = text })) span

-- punctuation that may be glued
abbrev pub mark : Punctuation → Mark → Piece
mark punctuation at = record { kind = kind.Punctuation punctuation; span = at.span; glued = at.glued }

-- leaves
abbrev pub ident : Ident → Piece
ident name = piece (kind.Name name.name) name.span

abbrev pub lifetime : Lifetime → Piece
lifetime name = piece (kind.Lifetime name.name) name.span

abbrev pub number : IntLiteral → Piece
number int = piece (kind.Integer int.integer) int.span

abbrev pub text_piece : TextLiteral → Piece
text_piece text = piece (kind.Text text.text) text.span

abbrev pub truth : Bool → Keyword
truth true = True
truth false = False

abbrev pub literal : Literal → Piece
literal (Int int) = number int
literal (Char character) = piece (kind.Character character.value) character.span
literal (Byte byte) = piece (kind.Byte byte.value) byte.span
literal (Boolean boolean) = keyword (truth boolean.value) boolean.span

-- what may be left out
abbrev pub optional_keyword : Keyword → Option Span → List Piece
optional_keyword word None = []
optional_keyword word (Some span) = keyword word span ∷ []

abbrev pub optional_mark : Punctuation → Option Span → List Piece
optional_mark punctuation None = []
optional_mark punctuation (Some span) = punct punctuation span ∷ []

abbrev pub text_pieces : Option TextLiteral → List Piece
text_pieces None = []
text_pieces (Some text) = text_piece text ∷ []

-- values with a mark behind each, as far as there are marks
abbrev pub separated : Punctuation → List (List Piece) → List Span → List Piece
separated punctuation [] marks = []
separated punctuation (value ∷ values) marks = value ++ (optional_mark punctuation (slice_get marks 0) ++ separated punctuation values (drop 1 marks))

-- rows one behind another
abbrev pub in_order : List (List Piece) → List Piece
in_order [] = []
in_order (row ∷ rows) = row ++ in_order rows

abbrev pub named : Punctuation → List Ident → List Span → List Piece
named punctuation names marks = separated punctuation (map (λ name. ident name ∷ []) names) marks

abbrev pub path_pieces : Path → List Piece
path_pieces path = named PathSep path.segments path.separators
