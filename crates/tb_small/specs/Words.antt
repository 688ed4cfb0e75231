-- The words of a source: bytes, white space, identifiers and numbers, and where one token ends.
use Rattle.std.specs.Prelude.{◌≡◌, ℕ, ◌+◌, ◌-◌, ◌*◌, Bool, true, false, ◌||◌, ◌&&◌, not, ◌==◌, if◌then◌else◌, List, [], ◌∷◌, ◌++◌, length, Option, IfSome, codes, fold}
use Rattle.std.specs.Char.{is_ascii_alphanumeric, is_ascii_digit}
use Rattle.std.specs.List.{list_all, list_any}
use Rattle.std.specs.Str.{bytes_eq}

-- white space: a space or a line feed
abbrev pub is_space : ℕ → Bool
is_space byte = byte == 32 || byte == 10

-- a byte of identifiers: an ASCII letter or digit, or `_`
abbrev pub is_word_byte : ℕ → Bool
is_word_byte byte = is_ascii_alphanumeric byte || byte == 95

-- the text after the white space at its front
abbrev pub after_space : List ℕ → List ℕ
after_space [] = []
after_space (byte ∷ text) = if is_space byte then after_space text else byte ∷ text

-- the text begins with a byte of identifiers
abbrev pub begins_word : List ℕ → Bool
begins_word [] = false
begins_word (byte ∷ text) = is_word_byte byte

-- the text begins with a digit
abbrev pub begins_digit : List ℕ → Bool
begins_digit [] = false
begins_digit (byte ∷ text) = is_ascii_digit byte

-- this byte is at the front
abbrev pub begins_with : ℕ → List ℕ → Bool
begins_with wanted [] = false
begins_with wanted (byte ∷ text) = byte == wanted

-- the rest makes this sign a longer one: behind `!`, `&`, `*`, `+` or `=` stands `=`, or `&` behind `&`
abbrev pub is_lengthened : List ℕ → List ℕ → Bool
is_lengthened [] rest = false
is_lengthened (sign ∷ word) rest =
    ((sign == 33 || sign == 38 || sign == 42 || sign == 43 || sign == 61) && begins_with 61 rest)
    || (sign == 38 && begins_with 38 rest)

-- the word ends where the rest begins: a token is the longest that stands there (Rust Reference,
-- Tokens), so of two pieces of identifiers one never follows the other at once, and no sign is
-- followed by what makes it a longer one
abbrev pub is_apart : List ℕ → List ℕ → Bool
is_apart word rest = not ((begins_word word && begins_word rest) || is_lengthened word rest)

-- the keywords (Rust Reference, Keywords) that have a rule in this language
abbrev pub used_keywords : List (List ℕ)
used_keywords =
    codes "as" ∷ codes "break" ∷ codes "const" ∷ codes "continue" ∷ codes "else" ∷ codes "extern"
    ∷ codes "false" ∷ codes "fn" ∷ codes "if" ∷ codes "let" ∷ codes "loop" ∷ codes "mut"
    ∷ codes "return" ∷ codes "struct" ∷ codes "true" ∷ codes "unsafe" ∷ codes "use" ∷ codes "while" ∷ []

-- the other keywords of Rust
abbrev pub reserved_keywords : List (List ℕ)
reserved_keywords =
    codes "async" ∷ codes "await" ∷ codes "crate" ∷ codes "dyn" ∷ codes "enum" ∷ codes "for"
    ∷ codes "impl" ∷ codes "in" ∷ codes "match" ∷ codes "mod" ∷ codes "move" ∷ codes "pub"
    ∷ codes "ref" ∷ codes "self" ∷ codes "Self" ∷ codes "static" ∷ codes "super" ∷ codes "trait"
    ∷ codes "type" ∷ codes "where" ∷ []

-- the word is a keyword
unfoldable pub is_keyword : List ℕ → Bool
is_keyword word =
    list_any (λ keyword. bytes_eq keyword word) used_keywords
    || list_any (λ keyword. bytes_eq keyword word) reserved_keywords

-- an identifier in ASCII (Rust Reference, Identifiers): bytes of identifiers, no digit first, neither
-- `_` alone nor a keyword
abbrev pub is_name : List ℕ → Bool
is_name word =
    begins_word word && not (begins_digit word) && list_all is_word_byte word
    && not (bytes_eq word (codes "_")) && not (is_keyword word)

-- a number: one digit or more
abbrev pub is_number : List ℕ → Bool
is_number word = begins_digit word && list_all is_ascii_digit word

-- what decimal digits stand for, behind those that stand for `value`
abbrev pub value_from : ℕ → List ℕ → ℕ
value_from value digits = fold (λ value digit. value * 10 + (digit - 48)) value digits

-- what a number stands for
abbrev pub value_of : List ℕ → ℕ
value_of digits = value_from 0 digits

-- how a token is spelled: by these bytes, or as a number of this value
pub data Spelling : Type 0 where
  Exactly : List ℕ → Spelling
  Number : ℕ → Spelling

-- the word is spelled so
abbrev pub IsSpelled : Spelling → List ℕ → Type 0
IsSpelled (Exactly bytes) word = word ≡ bytes
IsSpelled (Number value) word = (is_number word ≡ true) × (value_of word ≡ value)

-- a token that a tree has: its spelling, and the places of its first byte and behind its last, where
-- the tree names them
pub record Token : Type 0 where
  pub spelling : Spelling
  pub lo : Option ℕ
  pub hi : Option ℕ

-- next in the text, behind white space, is this token, and the rest follows; the source has this size
pub record Begins (size : ℕ) (text : List ℕ) (token : Token) (rest : List ℕ) : Type 0 where
  pub word : List ℕ
  pub spelled : IsSpelled token.spelling word
  pub bytes : after_space text ≡ word ++ rest
  pub apart : is_apart word rest ≡ true
  pub lo : IfSome token.lo (λ place. place ≡ size - length (after_space text))
  pub hi : IfSome token.hi (λ place. place ≡ size - length rest)

-- the text is these tokens, with white space before each, and then the rest
abbrev pub Reads : ℕ → List ℕ → List Token → List ℕ → Type 0
Reads size text [] rest = text ≡ rest
Reads size text (token ∷ tokens) rest =
    (after : List ℕ) × Begins size text token after × Reads size after tokens rest
