-- Glued pieces joined into tokens.
use Rattle.std.specs.Prelude.{◌≡◌, false, if◌then◌else◌, List, [], ◌∷◌, map, Option, None, Some}
use Rattle.tb_lex.specs.declared.punctuation.Punctuation.{Punctuation}
use Rattle.tb_lex.specs.declared.punctuation.Punctuation.TheVariants.{And, AndAnd, Gt, Ge, Shr, ShrEq, Eq}
use Rattle.tb_lex.specs.declared.token.TokenKind.{TokenKind}
use Rattle.tb_lex.specs.declared.token.TokenKind.TheVariants as kind
use Rattle.tb_lex.specs.declared.token.Token.{Token}
use Rattle.tb_lex.specs.declared.token.Tokens.{Tokens}
use Rattle.tb_ast.specs.declared.piece.Piece.{Piece}
use Rattle.tb_ast.specs.declared.item.Tree.{Tree}
use Rattle.tb_ast.specs.Files.{tree_pieces}

-- the token that `&`, or `>`, is with a mark that is glued to it
abbrev pub with_and : Punctuation → Option Punctuation
with_and And = Some AndAnd
with_and other = None

abbrev pub with_gt : Punctuation → Option Punctuation
with_gt Gt = Some Shr
with_gt Eq = Some Ge
with_gt Ge = Some ShrEq
with_gt other = None

-- the token that two marks are
abbrev pub with_mark : Punctuation → Punctuation → Option Punctuation
with_mark And second = with_and second
with_mark Gt second = with_gt second
with_mark other second = None

abbrev pub with_kind : TokenKind → TokenKind → Option Punctuation
with_kind (kind.Punctuation first) (kind.Punctuation second) = with_mark first second
with_kind first second = None

-- the token that a piece is with the piece behind it, if that is glued
abbrev pub joint : Piece → Piece → Option Punctuation
joint first second = if second.glued then with_kind first.kind second.kind else None

abbrev pub over : Piece → Piece → Punctuation → Piece
over first second punctuation = record { kind = kind.Punctuation punctuation; span = record { lo = first.span.lo; hi = second.span.hi }; glued = first.glued }

abbrev pub put_joint : Piece → Piece → List Piece → Option Punctuation → List Piece
put_joint first second rest None = first ∷ second ∷ rest
put_joint first second rest (Some punctuation) = over first second punctuation ∷ rest

abbrev pub put_before : Piece → List Piece → List Piece
put_before first [] = first ∷ []
put_before first (second ∷ rest) = put_joint first second rest (joint first second)

-- each glued piece is joined to the piece before it, from the last on
abbrev pub joined_before : List Piece → List Piece → List Piece
joined_before [] rest = rest
joined_before (piece ∷ pieces) rest = put_before piece (joined_before pieces rest)

abbrev pub joined : List Piece → List Piece
joined pieces = joined_before pieces []

abbrev pub token_of : Piece → Token
token_of piece = record { kind = piece.kind; span = piece.span }

-- the tokens of a tree
abbrev pub tokens_of : Tree → Tokens
tokens_of tree = record { list = map token_of (joined (tree_pieces tree)); end = tree.end }

-- the piece is not glued
abbrev pub IsApart : Piece → Type 0
IsApart piece = piece.glued ≡ false
