-- What is a token, and what stands between tokens (Rust Reference, "Lexical structure").
use Rattle.std.specs.Prelude.{◌≡◌, ◌≢◌, ℕ, ◌+◌, ◌*◌, ◌^◌, ◌≤◌, Bool, true, false, ◌&&◌, ◌||◌, not, ◌==◌, nat_lt, if◌then◌else◌, List, [], ◌∷◌, ◌++◌, length, Option, None, Some, codes}
use Rattle.std.specs.Char.{digit_value, is_ascii_digit, is_ascii_hexdigit}
use Rattle.std.specs.List.{list_all}
use Rattle.std.specs.Str.{encode_utf8_all}
use Rattle.tb_lex.specs.declared.keyword.Keyword.{Keyword}
use Rattle.tb_lex.specs.declared.literal.Literal.TheVariants as literal
use Rattle.tb_lex.specs.declared.suffix.Suffix.{Suffix}
use Rattle.tb_lex.specs.declared.token.TokenKind.{TokenKind}
use Rattle.tb_lex.specs.declared.token.TokenKind.TheVariants.{Name, Underscore, Keyword as KeywordToken, Lifetime, Integer, Character, Byte, Text, Punctuation}
use Rattle.tb_lex.specs.Characters.{is_space, is_start, is_continue, begins_by, begins, begins_pair, is_in_line}
use Rattle.tb_lex.specs.Tables.{keyword_text, punctuation_text, suffix_text}
use Rattle.tb_lex.specs.Literals.{IsWritten, AreWritten, quoted}

-- Words.

-- a character with which identifiers begin, and then any number with which they go on
abbrev pub is_word : List ℕ → Bool
is_word [] = false
is_word (c ∷ word) = is_start c && list_all is_continue word

-- a word is an identifier where it is neither `_` nor a keyword
pub record IsName (word : List ℕ) : Type 0 where
  pub is_word : is_word word ≡ true
  pub not_underscore : word ≢ codes "_"
  pub not_keyword : (keyword : Keyword) → word ≢ keyword_text keyword

-- `b` before a `'` opens a byte literal and is no identifier
abbrev pub opens_byte : List ℕ → List ℕ → Bool
opens_byte word rest = begins_pair 98 39 (word ++ rest)

-- Integers.

-- the base of a number, and what follows its prefix
abbrev pub based : List ℕ → ℕ × List ℕ
based [] = (10, [])
based (c ∷ []) = (10, c ∷ [])
based (c ∷ d ∷ rest) =
    if c == 48 && d == 120 then (16, rest)
    else (if c == 48 && d == 111 then (8, rest)
    else (if c == 48 && d == 98 then (2, rest) else (10, c ∷ d ∷ rest)))

-- what may stand among digits: `_`, a decimal digit, and of base 16 a hexadecimal one
abbrev pub is_among_digits : ℕ → ℕ → Bool
is_among_digits base c = c == 95 || is_ascii_digit c || (base == 16 && is_ascii_hexdigit c)

-- a word that begins with a digit falls into its base's prefix, its digits with `_` among them, and the rest
pub record IsNumber (word : List ℕ) (base : ℕ) (digits rest : List ℕ) : Type 0 where
  pub parts : based word ≡ (base, digits ++ rest)
  pub all : list_all (is_among_digits base) digits ≡ true
  pub ends : begins_by (is_among_digits base) rest ≡ false

-- a digit of the base, or `_`
abbrev pub is_digit_of : ℕ → ℕ → Bool
is_digit_of base c = c == 95 || nat_lt (digit_value c) base

-- the value with these digits behind it, `_` passed over
abbrev pub digits_value : ℕ → ℕ → List ℕ → ℕ
digits_value base value [] = value
digits_value base value (c ∷ digits) =
    if c == 95 then digits_value base value digits else digits_value base (value * base + digit_value c) digits

-- the first is a digit, all are of the base, and 64 bits hold the value
abbrev pub is_sound : ℕ → List ℕ → Bool
is_sound base digits =
    begins_by (λ c. not (c == 95)) digits && list_all (is_digit_of base) digits
    && nat_lt (digits_value base 0 digits) (2 ^ 64)

-- a suffix, or nothing
abbrev pub suffixed_text : Option Suffix → List ℕ
suffixed_text None = []
suffixed_text (Some suffix) = suffix_text suffix

-- all identifier characters from a decimal digit on
pub record IsDigitWord (word rest : List ℕ) : Type 0 where
  pub begins : begins_by is_ascii_digit word ≡ true
  pub all : list_all is_continue word ≡ true
  pub ends : begins_by is_continue rest ≡ false

-- Tokens.

-- the piece is a token of this kind, where this rest follows it
abbrev pub IsToken : TokenKind → List ℕ → List ℕ → Type 0
IsToken (Name name) piece rest =
    IsName piece × (opens_byte piece rest ≡ false) × (name.bytes ≡ encode_utf8_all piece)
IsToken Underscore piece rest = piece ≡ codes "_"
IsToken (KeywordToken keyword) piece rest = piece ≡ keyword_text keyword
IsToken (Lifetime name) piece rest =
    (word : List ℕ) × (piece ≡ 39 ∷ word) × (is_word word ≡ true) × (begins_by is_continue rest ≡ false)
    × (begins 39 rest ≡ false) × (name.bytes ≡ encode_utf8_all word)
IsToken (Integer integer) piece rest =
    (base : ℕ) × (digits : List ℕ) × IsDigitWord piece rest × IsNumber piece base digits (suffixed_text integer.suffix)
    × (is_sound base digits ≡ true) × (integer.value ≡ digits_value base 0 digits)
IsToken (Character value) piece rest =
    (inner : List ℕ) × (piece ≡ quoted literal.Character inner) × IsWritten literal.Character value inner
IsToken (Byte value) piece rest =
    (inner : List ℕ) × (piece ≡ quoted literal.Byte inner) × IsWritten literal.Byte value inner
IsToken (Text text) piece rest =
    (inner : List ℕ) × (values : List ℕ) × (piece ≡ quoted literal.Text inner) × AreWritten values inner
    × (text.source ≡ encode_utf8_all inner)
IsToken (Punctuation punctuation) piece rest =
    (piece ≡ punctuation_text punctuation) × (begins_pair 47 47 (piece ++ rest) ≡ false)
    × (begins_pair 47 42 (piece ++ rest) ≡ false)

-- of all the pieces that are a token at this place, this is the longest
pub record Stands (kind : TokenKind) (piece rest : List ℕ) : Type 0 where
  pub token : IsToken kind piece rest
  pub longest : (other : TokenKind) (longer after : List ℕ) → longer ++ after ≡ piece ++ rest → IsToken other longer after
      → length longer ≤ length piece

-- Between tokens.

-- what stands behind the `/*` of a comment, up to its `*/`: that, or a comment and then the same, or
-- a character that begins neither and then the same
pub data IsBlock : List ℕ → Type 0 where
  Ends : IsBlock (42 ∷ 47 ∷ [])
  Nested : (inner rest : List ℕ) → IsBlock inner → IsBlock rest → IsBlock (47 ∷ 42 ∷ (inner ++ rest))
  Other : (c : ℕ) (rest : List ℕ) → begins_pair 47 42 (c ∷ rest) ≡ false → begins_pair 42 47 (c ∷ rest) ≡ false
      → IsBlock rest → IsBlock (c ∷ rest)

-- what stands between tokens: white space, a comment up to before the next line feed, a block comment
pub data IsPassed : List ℕ → List ℕ → Type 0 where
  Blank : (c : ℕ) (rest : List ℕ) → is_space c ≡ true → IsPassed (c ∷ []) rest
  Line : (line rest : List ℕ) → list_all is_in_line line ≡ true → begins_by is_in_line rest ≡ false
      → IsPassed (47 ∷ 47 ∷ line) rest
  Block : (inner rest : List ℕ) → IsBlock inner → IsPassed (47 ∷ 42 ∷ inner) rest
