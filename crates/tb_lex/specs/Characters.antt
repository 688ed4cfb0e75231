-- Characters by their scalar values, and fronts of texts of them.
use Rattle.std.specs.Prelude.{ℕ, Bool, false, ◌||◌, ◌&&◌, not, ◌==◌, if◌then◌else◌, List, [], ◌∷◌, sum_by}
use Rattle.std.specs.Int.{is_in_range}
use Rattle.std.specs.Char.{len_utf8}
use Rattle.unicode_ident.specs.Ident.{is_xid_start, is_xid_continue}

-- white space: tab, line feed, vertical tab, form feed, carriage return, and space
abbrev pub is_space : ℕ → Bool
is_space c = is_in_range 9 13 c || c == 32

-- an identifier may begin with the character: XID_Start, or `_`
abbrev pub is_start : ℕ → Bool
is_start c = is_xid_start c || c == 95

-- an identifier may go on with the character: XID_Continue
abbrev pub is_continue : ℕ → Bool
is_continue c = is_xid_continue c

-- a line comment goes on with any character but a line feed
abbrev pub is_in_line : ℕ → Bool
is_in_line c = not (c == 10)

-- the text begins with a character that passes
abbrev pub begins_by : (ℕ → Bool) → List ℕ → Bool
begins_by passes [] = false
begins_by passes (c ∷ text) = passes c

-- the text begins with this character
abbrev pub begins : ℕ → List ℕ → Bool
begins wanted text = begins_by (λ c. c == wanted) text

-- the text begins with these two characters
abbrev pub begins_pair : ℕ → ℕ → List ℕ → Bool
begins_pair first second [] = false
begins_pair first second (c ∷ []) = false
begins_pair first second (c ∷ d ∷ text) = c == first && d == second

-- the text without its first character
abbrev pub tail : List ℕ → List ℕ
tail [] = []
tail (c ∷ text) = text

-- the longest front of characters that pass
abbrev pub front : (ℕ → Bool) → List ℕ → List ℕ
front passes [] = []
front passes (c ∷ text) = if passes c then c ∷ front passes text else []

-- what follows it
abbrev pub after_front : (ℕ → Bool) → List ℕ → List ℕ
after_front passes [] = []
after_front passes (c ∷ text) = if passes c then after_front passes text else c ∷ text

-- how many bytes a text takes in UTF-8
abbrev pub width : List ℕ → ℕ
width text = sum_by len_utf8 text
