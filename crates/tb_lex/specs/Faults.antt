-- What no token is: the faults of a text.
use Rattle.std.specs.Prelude.{◌≡◌, ◌≢◌, ℕ, ◌≤◌, true, false, List, [], ◌∷◌, ◌++◌, length}
use Rattle.std.specs.Char.{is_ascii_digit}
use Rattle.tb_perm.specs.declared.code.Code.{Code}
use Rattle.tb_perm.specs.declared.code.Code.TheVariants.{UnknownCharacter, BadLiteral, UnfinishedComment, BadNumber, UnknownSuffix}
use Rattle.tb_lex.specs.declared.literal.Literal.{Literal}
use Rattle.tb_lex.specs.declared.punctuation.Punctuation.{Punctuation}
use Rattle.tb_lex.specs.declared.suffix.Suffix.{Suffix}
use Rattle.tb_lex.specs.declared.token.TokenKind.{TokenKind}
use Rattle.tb_lex.specs.Characters.{is_space, is_start}
use Rattle.tb_lex.specs.Tables.{punctuation_text, suffix_text}
use Rattle.tb_lex.specs.Literals.{opening, IsFront}
use Rattle.tb_lex.specs.Tokens.{IsToken, IsBlock, IsNumber, IsDigitWord, is_sound}

-- a literal that is opened and does not end: the piece is the longest at the place with which some
-- literal of its kind begins, and no token stands there
pub record IsUnfinished (literal : Literal) (piece rest : List ℕ) : Type 0 where
  pub inner : List ℕ
  pub opened : piece ≡ opening literal ++ inner
  pub front : IsFront literal piece
  pub longest : (longer after : List ℕ) → longer ++ after ≡ piece ++ rest → IsFront literal longer → length longer ≤ length piece
  pub no_token : (kind : TokenKind) (token after : List ℕ) → token ++ after ≡ piece ++ rest → IsToken kind token after → ⊥

-- the piece is a fault of this code, where this rest follows it: a character that is no white space and
-- with which no token begins; a literal that does not end; a block comment that does not end; a number
-- without a digit at its front, with a digit outside its base, or above 64 bits; and a number with other
-- identifier characters behind it than a suffix
pub data IsFault : Code → List ℕ → List ℕ → Type 0 where
  Character : (c : ℕ) (rest : List ℕ) → is_space c ≡ false → c ≢ 39 → c ≢ 34 → is_ascii_digit c ≡ false → is_start c ≡ false
      → ((punctuation : Punctuation) (after : List ℕ) → c ∷ rest ≢ punctuation_text punctuation ++ after)
      → IsFault UnknownCharacter (c ∷ []) rest
  Unended : (literal : Literal) (piece rest : List ℕ) → IsUnfinished literal piece rest → IsFault BadLiteral piece rest
  Comment : (inner : List ℕ) → ((block after : List ℕ) → inner ≡ block ++ after → IsBlock block → ⊥)
      → IsFault UnfinishedComment (47 ∷ 42 ∷ inner) []
  Number : (piece rest : List ℕ) (base : ℕ) (digits tail : List ℕ) → IsDigitWord piece rest → IsNumber piece base digits tail
      → is_sound base digits ≡ false → IsFault BadNumber piece rest
  Suffixed : (piece rest : List ℕ) (base : ℕ) (digits tail : List ℕ) → IsDigitWord piece rest → IsNumber piece base digits tail
      → is_sound base digits ≡ true → tail ≢ [] → ((suffix : Suffix) → tail ≢ suffix_text suffix)
      → IsFault UnknownSuffix piece rest
