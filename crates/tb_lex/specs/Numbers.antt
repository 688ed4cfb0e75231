-- The words that begin with a digit, by reading: base, digits, value, suffix.
use Rattle.std.specs.Prelude.{ℕ, ◌+◌, ◌*◌, ◌^◌, ◌&&◌, ◌==◌, nat_lt, if◌then◌else◌, List, [], ◌∷◌, Option, None, Some, Result, Ok, Err}
use Rattle.std.specs.Char.{digit_value}
use Rattle.tb_perm.specs.declared.code.Code.{Code}
use Rattle.tb_perm.specs.declared.code.Code.TheVariants.{BadNumber, UnknownSuffix}
use Rattle.tb_lex.specs.declared.token.Integer.{Integer}
use Rattle.tb_lex.specs.Characters.{front, after_front}
use Rattle.tb_lex.specs.Tables.{suffix_of}
use Rattle.tb_lex.specs.Tokens.{based, is_among_digits}

-- the value with one more digit, if that is one of the base and 64 bits hold the value
abbrev pub plus_digit : ℕ → ℕ → ℕ → Option ℕ
plus_digit base value c =
    if nat_lt (digit_value c) base && nat_lt (value * base + digit_value c) (2 ^ 64)
    then Some (value * base + digit_value c)
    else None

-- the value with these digits behind it
abbrev pub value_from : ℕ → ℕ → List ℕ → Option ℕ
value_from base value [] = Some value
value_from base value (c ∷ digits) =
    if c == 95 then value_from base value digits
    else elim (plus_digit base value c) [ Some more ↦ value_from base more digits | None ↦ None ]

-- the value of digits, of which the first is none of `_`
abbrev pub number_of : ℕ → List ℕ → Option ℕ
number_of base [] = None
number_of base (c ∷ digits) = if c == 95 then None else value_from base 0 (c ∷ digits)

-- the value with what follows the digits as its suffix
abbrev pub suffixed : ℕ → List ℕ → Result Integer Code
suffixed value [] = Ok (record { value = value; suffix = None })
suffixed value (c ∷ rest) = elim (suffix_of (c ∷ rest)) [
  | Some suffix ↦ Ok (record { value = value; suffix = Some suffix })
  | None ↦ Err UnknownSuffix
]

-- the integer of these digits, with what follows them
abbrev pub integer_with : ℕ → List ℕ → List ℕ → Result Integer Code
integer_with base digits rest = elim (number_of base digits) [
  | Some value ↦ suffixed value rest
  | None ↦ Err BadNumber
]

-- the integer that a word is, or its fault
unfoldable pub integer_of : List ℕ → Result Integer Code
integer_of word =
    let parts = based word in
    integer_with parts.0 (front (is_among_digits parts.0) parts.1) (after_front (is_among_digits parts.0) parts.1)
