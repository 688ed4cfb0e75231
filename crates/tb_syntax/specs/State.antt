-- What is still to be read of a source: pieces of which all but the first are whole tokens.
use Rattle.std.specs.Prelude.{◌≡◌, ℕ, ◌+◌, ◌-◌, ◌^◌, min, true, false, List, [], ◌∷◌, Option, None, Some, ◌⊎◌}
use Rattle.std.specs.List.{AllByRecursion}
use Rattle.tb_perm.specs.declared.span.Span.{Span}
use Rattle.tb_lex.specs.declared.punctuation.Punctuation.{Punctuation}
use Rattle.tb_lex.specs.declared.token.TokenKind.{TokenKind}
use Rattle.tb_lex.specs.declared.token.TokenKind.TheVariants as kind
use Rattle.tb_lex.specs.declared.token.Token.{Token}
use Rattle.tb_ast.specs.declared.piece.Piece.{Piece}
use Rattle.tb_ast.specs.Joined.{joint, over, joined_before, IsApart}

abbrev pub State : Type 0
State = List Piece

-- what the piece at the front is
abbrev pub first_kind : State → Option TokenKind
first_kind [] = None
first_kind (piece ∷ state) = Some piece.kind

-- all pieces but the first are whole tokens
abbrev pub IsState : State → Type 0
IsState [] = Unit {0}
IsState (first ∷ state) = AllByRecursion IsApart state

-- a token as a piece
abbrev pub piece_of : Token → Piece
piece_of token = record { kind = token.kind; span = token.span; glued = false }

-- what is left of a token of which a part was read
abbrev pub left_of : Punctuation → Span → Piece
left_of mark span = record { kind = kind.Punctuation mark; span = span; glued = true }

abbrev pub left_in : Option (Punctuation × Span) → State
left_in None = []
left_in (Some left) = left_of left.0 left.1 ∷ []

-- the place behind one byte, as far as places go
abbrev pub behind : ℕ → ℕ
behind place = min (place + 1) (2 ^ 32 - 1)

-- the piece is the first part of the token at the front: one byte long, and the piece that is left
-- begins where it ends
pub record IsPart (piece : Piece) (state rest : State) : Type 0 where
  pub left : Piece
  pub after : State
  pub whole : Punctuation
  pub joint : joint piece left ≡ Some whole
  pub short : piece.span.hi ≡ behind piece.span.lo
  pub tight : left.span.lo ≡ piece.span.hi
  pub stands : state ≡ over piece left whole ∷ after
  pub follows : rest ≡ left ∷ after

-- the piece stands at the front, and this rest behind it
abbrev pub Begins : Piece → State → State → Type 0
Begins piece state rest = (state ≡ piece ∷ rest) ⊎ IsPart piece state rest

-- the pieces stand at the front, one behind another, and this rest behind them
abbrev pub Stands : List Piece → State → State → Type 0
Stands [] state rest = state ≡ rest
Stands (piece ∷ pieces) state rest = (after : State) × Begins piece state after × Stands pieces after rest

-- where a piece is one token with the piece behind it, it is one byte long, and that begins where it ends
abbrev pub Meets : Piece → State → Type 0
Meets piece [] = Unit {0}
Meets piece (second ∷ state) = (whole : Punctuation) → joint piece second ≡ Some whole → (piece.span.hi ≡ behind piece.span.lo) × (second.span.lo ≡ piece.span.hi)

-- and so with each of these pieces before this rest
abbrev pub AreTight : List Piece → State → Type 0
AreTight [] rest = Unit {0}
AreTight (piece ∷ pieces) rest = Meets piece (joined_before pieces rest) × AreTight pieces rest
