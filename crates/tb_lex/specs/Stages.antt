-- How the reading of a literal goes on behind its quote, one character after the other.
use Rattle.std.specs.Prelude.{ℕ, ◌+◌, ◌*◌, ◌^◌, Bool, ◌||◌, ◌&&◌, ◌==◌, nat_lt, if◌then◌else◌, List, [], ◌∷◌, Option, None, Some}
use Rattle.std.specs.Char.{digit_value}
use lib.Utf8.{scalar}
use Rattle.tb_lex.specs.declared.literal.Literal.{Literal}
use Rattle.tb_lex.specs.declared.literal.Literal.TheVariants.{Character, Byte, Text}
use Rattle.tb_lex.specs.declared.literal.Stage.{Stage}
use Rattle.tb_lex.specs.declared.literal.Stage.TheVariants.{Open, Escape, Hex, Digit, Unicode, Digits, Full}
use Rattle.tb_lex.specs.Literals.{is_plain, short, high_limit, has_unicode}

-- behind a whole character: a text goes on
abbrev pub full : Literal → ℕ → Stage
full Character c = Full c
full Byte c = Full c
full Text c = Open

-- behind a whole escape of this value
abbrev pub full_value : Literal → ℕ → Option Stage
full_value literal value = if scalar value then Some (full literal value) else None

-- from where a character may come
abbrev pub from_open : Literal → ℕ → Option Stage
from_open literal c =
    if c == 92 then Some Escape else (if is_plain literal c then Some (full literal c) else None)

-- behind `\u`
abbrev pub unicode : Literal → Option Stage
unicode literal = if has_unicode literal then Some Unicode else None

-- from behind `\`
abbrev pub from_escape : Literal → ℕ → Option Stage
from_escape literal c =
    if c == 120 then Some Hex
    else (if c == 117 then unicode literal
    else elim (short c) [ Some value ↦ Some (full literal value) | None ↦ None ])

-- from behind `\x`
abbrev pub from_hex : Literal → ℕ → Option Stage
from_hex literal c =
    if nat_lt (digit_value c) (high_limit literal) then Some (Digit (digit_value c)) else None

-- the value with one more hexadecimal digit, if 32 bits hold it
abbrev pub plus_hex : ℕ → ℕ → Option ℕ
plus_hex value c =
    if nat_lt (digit_value c) 16 && nat_lt (value * 16 + digit_value c) (2 ^ 32)
    then Some (value * 16 + digit_value c)
    else None

-- from behind `\x` and a digit
abbrev pub from_digit : Literal → ℕ → ℕ → Option Stage
from_digit literal high c = elim (plus_hex high c) [ Some value ↦ full_value literal value | None ↦ None ]

-- one more digit may stand between the braces: the sixth has to end a character's value
abbrev pub may_grow : ℕ → ℕ → Bool
may_grow count more = nat_lt count 5 || (count == 5 && scalar more)

-- between the braces, behind one more digit
abbrev pub grown : ℕ → ℕ → Option Stage
grown count more = if may_grow count more then Some (Digits (count + 1) more) else None

-- the brace behind some digits
abbrev pub closed : Literal → ℕ → ℕ → Option Stage
closed literal count value = if count == 0 then None else full_value literal value

-- from behind `\u{` and so many digits of this value
abbrev pub from_digits : Literal → ℕ → ℕ → ℕ → Option Stage
from_digits literal count value c =
    if c == 125 then closed literal count value
    else elim (plus_hex value c) [ Some more ↦ grown count more | None ↦ None ]

-- the stage behind one more character, if some literal goes on so
unfoldable pub next_stage : Literal → Stage → ℕ → Option Stage
next_stage literal Open c = from_open literal c
next_stage literal Escape c = from_escape literal c
next_stage literal Hex c = from_hex literal c
next_stage literal (Digit high) c = from_digit literal high c
next_stage literal Unicode c = if c == 123 then Some (Digits 0 0) else None
next_stage literal (Digits count value) c = from_digits literal count value c
next_stage literal (Full value) c = None

-- the stage to which a text leads, and what follows from where no literal goes on so
abbrev pub content : Literal → Stage → List ℕ → Stage × List ℕ
content literal stage [] = (stage, [])
content literal stage (c ∷ text) = elim (next_stage literal stage c) [
  | Some next ↦ content literal next text
  | None ↦ (stage, c ∷ text)
]
