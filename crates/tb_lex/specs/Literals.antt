-- Characters, bytes and texts in quotes: how they are written (Rust Reference, "Character and string
-- literals").
use Rattle.std.specs.Prelude.{◌≡◌, ℕ, ◌+◌, ◌*◌, ◌<◌, ◌≤◌, Bool, true, false, ◌||◌, ◌&&◌, not, ◌==◌, nat_lt, if◌then◌else◌, List, [], ◌∷◌, ◌++◌, length, Option, None, Some}
use Rattle.std.specs.Char.{digit_value, is_ascii, IsScalar}
use Rattle.std.specs.List.{list_all}
use Rattle.tb_lex.specs.declared.literal.Literal.{Literal}
use Rattle.tb_lex.specs.declared.literal.Literal.TheVariants.{Character, Byte, Text}

-- the character stands for itself: neither a line feed nor the quote or a backslash, and in a text
-- neither its quote nor a backslash
abbrev pub is_plain : Literal → ℕ → Bool
is_plain Character c = not (c == 39 || c == 92 || c == 10)
is_plain Byte c = is_ascii c && not (c == 39 || c == 92 || c == 10)
is_plain Text c = not (c == 34 || c == 92)

-- what a letter behind `\` stands for
abbrev pub short : ℕ → Option ℕ
short letter =
    if letter == 110 then Some 10
    else (if letter == 114 then Some 13
    else (if letter == 116 then Some 9
    else (if letter == 48 then Some 0
    else (if letter == 92 || letter == 39 || letter == 34 then Some letter else None))))

-- the first digit behind `\x` is below this: a character written so is ASCII, a byte is any
abbrev pub high_limit : Literal → ℕ
high_limit Character = 8
high_limit Byte = 16
high_limit Text = 8

-- the escape `\u{..}` is one of characters and texts
abbrev pub has_unicode : Literal → Bool
has_unicode Character = true
has_unicode Byte = false
has_unicode Text = true

-- a hexadecimal digit
abbrev pub is_hex : ℕ → Bool
is_hex c = nat_lt (digit_value c) 16

-- the value with these hexadecimal digits behind it
abbrev pub hex_value : ℕ → List ℕ → ℕ
hex_value value [] = value
hex_value value (c ∷ digits) = hex_value (value * 16 + digit_value c) digits

-- how one character may be written in a literal: as itself; as `\` and a letter that stands for it; as
-- `\x` and two digits; and, in characters and texts, as `\u{..}` with one to six digits
pub data IsWritten (literal : Literal) : ℕ → List ℕ → Type 0 where
  Plain : (c : ℕ) → is_plain literal c ≡ true → IsWritten literal c (c ∷ [])
  Short : (value letter : ℕ) → short letter ≡ Some value → IsWritten literal value (92 ∷ letter ∷ [])
  Hex : (high low : ℕ) → digit_value high < high_limit literal → digit_value low < 16
      → IsWritten literal (digit_value high * 16 + digit_value low) (92 ∷ 120 ∷ high ∷ low ∷ [])
  Braced : (digits : List ℕ) → has_unicode literal ≡ true → 1 ≤ length digits → length digits ≤ 6
      → list_all is_hex digits ≡ true → IsScalar (hex_value 0 digits)
      → IsWritten literal (hex_value 0 digits) (92 ∷ 117 ∷ 123 ∷ (digits ++ 125 ∷ []))

-- how these characters may be written in a text, one behind the other
abbrev pub AreWritten : List ℕ → List ℕ → Type 0
AreWritten [] inner = inner ≡ []
AreWritten (value ∷ values) inner =
    (first : List ℕ) × (rest : List ℕ) × (inner ≡ first ++ rest) × IsWritten Text value first × AreWritten values rest

-- what stands between the quotes: one character, or any number of them
abbrev pub IsContent : Literal → List ℕ → Type 0
IsContent Character inner = (value : ℕ) × IsWritten Character value inner
IsContent Byte inner = (value : ℕ) × IsWritten Byte value inner
IsContent Text inner = (values : List ℕ) × AreWritten values inner

-- what opens a literal: `'`, `b'` or `"`
abbrev pub opening : Literal → List ℕ
opening Character = 39 ∷ []
opening Byte = 98 ∷ 39 ∷ []
opening Text = 34 ∷ []

-- the quote that closes it
abbrev pub closing : Literal → ℕ
closing Character = 39
closing Byte = 39
closing Text = 34

-- the literal with this content
abbrev pub quoted : Literal → List ℕ → List ℕ
quoted literal inner = opening literal ++ (inner ++ closing literal ∷ [])

-- some literal of this kind begins with the piece
pub record IsFront (literal : Literal) (piece : List ℕ) : Type 0 where
  pub inner : List ℕ
  pub more : List ℕ
  pub content : IsContent literal inner
  pub whole : quoted literal inner ≡ piece ++ more
