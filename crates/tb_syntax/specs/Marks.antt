-- Reading marks: where `&` is wanted it is taken off `&&`, and `>` off `>>`, `>=` and `>>=`.
use Rattle.std.specs.Prelude.{Bool, true, false, ◌||◌, if◌then◌else◌, [], ◌∷◌, Option, None, Some}
use Rattle.tb_perm.specs.declared.span.Span.{Span}
use Rattle.tb_lex.specs.declared.punctuation.Punctuation.{Punctuation}
use Rattle.tb_lex.specs.declared.punctuation.Punctuation.TheVariants.{And, AndAnd, Gt, Ge, Shr, ShrEq, Eq}
use Rattle.tb_lex.specs.contracts.punctuation.PunctuationPartialEq.TheImpl as punctuation_law
use Rattle.tb_lex.specs.declared.token.TokenKind.{TokenKind}
use Rattle.tb_lex.specs.declared.token.TokenKind.TheVariants as kind
use Rattle.tb_ast.specs.declared.leaf.Mark.{Mark}
use Rattle.tb_syntax.specs.Reading.{◌>>=◌}
use Rattle.tb_syntax.specs.State.{State, left_of, behind}

abbrev pub same_mark : Punctuation → Punctuation → Bool
same_mark = (punctuation_law.ghosts).eq

-- what is left of a mark where this one is taken off its front
abbrev pub left_behind : Punctuation → Punctuation → Option Punctuation
left_behind And AndAnd = Some And
left_behind Gt Shr = Some Gt
left_behind Gt Ge = Some Eq
left_behind Gt ShrEq = Some Ge
left_behind wanted other = None

-- the mark that a piece is
abbrev pub mark_of : TokenKind → Option Punctuation
mark_of (kind.Punctuation mark) = Some mark
mark_of other = None

-- the mark at the front, and what stands behind it
abbrev pub first_mark : State → Option (Punctuation × Mark × State)
first_mark [] = None
first_mark (piece ∷ state) = mark_of piece.kind >>= λ mark. Some (mark, record { span = piece.span; glued = piece.glued }, state)

abbrev pub part_at : Option Punctuation → Mark → State → Option (Mark × State)
part_at None mark state = None
part_at (Some left) mark state = Some (record { span = record { lo = mark.span.lo; hi = behind mark.span.lo }; glued = mark.glued }, left_of left (record { lo = behind mark.span.lo; hi = mark.span.hi }) ∷ state)

abbrev pub taken : Punctuation → Punctuation → Mark → State → Option (Mark × State)
taken wanted found mark state = if same_mark found wanted then Some (mark, state) else part_at (left_behind wanted found) mark state

-- this mark, which may be glued
unfoldable pub mark_at : Punctuation → State → Option (Mark × State)
mark_at wanted state = first_mark state >>= λ x. taken wanted x.0 x.1 x.2

-- this mark, not glued
unfoldable pub punct_at : Punctuation → State → Option (Span × State)
punct_at wanted state = mark_at wanted state >>= λ x. if x.0.glued then None else Some (x.0.span, x.1)

abbrev pub is_some : {A : Type 0} → Option A → Bool
is_some None = false
is_some (Some value) = true

abbrev pub begins_mark : Punctuation → Option (Punctuation × Mark × State) → Bool
begins_mark wanted None = false
begins_mark wanted (Some x) = same_mark x.0 wanted || is_some (left_behind wanted x.0)

-- this mark comes next
unfoldable pub has_mark : Punctuation → State → Bool
has_mark wanted state = begins_mark wanted (first_mark state)
