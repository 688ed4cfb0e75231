-- A text and its tokens, or its first fault.
use Rattle.std.specs.Prelude.{◌≡◌, ℕ, ◌+◌, ◌-◌, ◌<◌, ◌≤◌, true, ◌==◌, if◌then◌else◌, List, [], ◌∷◌, ◌++◌, length, ⊤}
use Rattle.std.specs.Str.{all_scalars, encode_utf8_all, IsValidUpTo}
use Rattle.tb_perm.specs.declared.code.Code.{Code}
use Rattle.tb_perm.specs.declared.code.Code.TheVariants.{NotUtf8}
use Rattle.tb_perm.specs.declared.span.Span.{Span}
use Rattle.tb_lex.specs.declared.error.LexError.{LexError}
use Rattle.tb_lex.specs.declared.error.LexError.TheVariants.{Refused, Memory}
use Rattle.tb_lex.specs.declared.token.Token.{Token}
use Rattle.tb_lex.specs.Characters.{width}
use Rattle.tb_lex.specs.Tokens.{Stands, IsPassed}
use Rattle.tb_lex.specs.Faults.{IsFault}

-- from a place up to where the rest begins, in a text of so many bytes
abbrev pub span_of : ℕ → List ℕ → List ℕ → Span
span_of size text rest = record { lo = size - width text; hi = size - width rest }

-- from the text up to the rest these pieces stand one behind the other, and all are white space or
-- comments
abbrev pub Passes : List (List ℕ) → List ℕ → List ℕ → Type 0
Passes [] text rest = text ≡ rest
Passes (piece ∷ pieces) text rest =
    (after : List ℕ) × (text ≡ piece ++ after) × IsPassed piece after × Passes pieces after rest

-- at the front of the text this token stands, and this rest follows it
pub record Begins (size : ℕ) (text : List ℕ) (token : Token) (rest : List ℕ) : Type 0 where
  pub piece : List ℕ
  pub parts : text ≡ piece ++ rest
  pub stands : Stands token.kind piece rest
  pub span : token.span ≡ span_of size text rest

-- from the text up to the rest these tokens stand, with nothing but white space and comments before,
-- between and behind them
abbrev pub Reads : ℕ → List ℕ → List Token → List ℕ → Type 0
Reads size text [] rest = (pieces : List (List ℕ)) × Passes pieces text rest
Reads size text (token ∷ tokens) rest =
    (pieces : List (List ℕ)) × (front : List ℕ) × (after : List ℕ) × Passes pieces text front
    × Begins size front token after × Reads size after tokens rest

-- the text without U+FEFF at its front
abbrev pub after_mark : List ℕ → List ℕ
after_mark [] = []
after_mark (c ∷ text) = if c == 0xFEFF then text else c ∷ text

-- the bytes are these characters in UTF-8
pub record IsText (bytes : List ℕ) (text : List ℕ) : Type 0 where
  pub scalars : all_scalars text ≡ true
  pub spelled : encode_utf8_all text ≡ bytes

-- the bytes have these tokens
pub record IsLexed (bytes : List ℕ) (tokens : List Token) : Type 0 where
  pub text : List ℕ
  pub is_text : IsText bytes text
  pub reads : Reads (length bytes) (after_mark text) tokens []

-- the bytes have this first fault: they are no UTF-8 from this byte on; or behind some tokens, which
-- stand as they would in a text without fault, a fault stands
pub data IsRefused (bytes : List ℕ) : Code → Span → Type 0 where
  NoText : (lo : ℕ) → IsValidUpTo bytes lo → IsRefused bytes NotUtf8 (record { lo = lo; hi = lo + 1 })
  Fault : (text : List ℕ) → IsText bytes text → (tokens : List Token) (front piece rest : List ℕ) (code : Code)
      → Reads (length bytes) (after_mark text) tokens front → front ≡ piece ++ rest → IsFault code piece rest
      → IsRefused bytes code (span_of (length bytes) front rest)

-- the tokens stand one behind the other from this place on, and the last ends by the end
abbrev pub AreRising : ℕ → List Token → ℕ → Type 0
AreRising lo [] end = lo ≤ end
AreRising lo (token ∷ tokens) end = (lo ≤ token.span.lo) × (token.span.lo < token.span.hi) × AreRising token.span.hi tokens end

-- why the bytes have no tokens: the fault is theirs, they have no other, and no tokens either
abbrev pub IsCause : List ℕ → LexError → Type 0
IsCause bytes (Refused code span) =
    IsRefused bytes code span
    × ((other : Code) (place : Span) → IsRefused bytes other place → (other ≡ code) × (place ≡ span))
    × ((tokens : List Token) → IsLexed bytes tokens → ⊥)
IsCause bytes Memory = ⊤
