-- What stands at a place of a text, by reading: what the private functions answer, apart from want of
-- memory.
use Rattle.std.specs.Prelude.{◌≡◌, ℕ, ◌-◌, Bool, false, ◌&&◌, not, ◌==◌, nat_lt, if◌then◌else◌, List, [], ◌∷◌, length, take, Option, None, Some, Result, Ok, Err, codes}
use Rattle.std.specs.Char.{is_ascii_digit}
use Rattle.std.specs.Str.{bytes_eq, encode_utf8_all}
use Rattle.tb_perm.specs.declared.code.Code.{Code}
use Rattle.tb_perm.specs.declared.code.Code.TheVariants.{UnknownCharacter, BadLiteral, UnfinishedComment}
use Rattle.tb_lex.specs.declared.error.Fault.{Fault}
use Rattle.tb_lex.specs.declared.error.Fault.TheVariants as fault
use Rattle.tb_lex.specs.declared.punctuation.Punctuation.{Punctuation}
use Rattle.tb_lex.specs.declared.token.Integer.{Integer}
use Rattle.tb_lex.specs.declared.literal.Literal.TheVariants as literal
use Rattle.tb_lex.specs.declared.literal.Stage.{Stage}
use Rattle.tb_lex.specs.declared.literal.Stage.TheVariants.{Open, Escape, Hex, Digit, Unicode, Digits, Full}
use Rattle.tb_lex.specs.declared.token.Name.{Name}
use Rattle.tb_lex.specs.declared.token.TokenKind.{TokenKind}
use Rattle.tb_lex.specs.declared.token.TokenKind.TheVariants as kind
use Rattle.tb_lex.specs.Characters.{is_space, is_start, is_continue, begins, tail, front, after_front, is_in_line}
use Rattle.tb_lex.specs.Tables.{keyword_of, punctuation_at}
use Rattle.tb_lex.specs.Numbers.{integer_of}
use Rattle.tb_lex.specs.Stages.{content}
use Rattle.tb_lex.specs.Comments.{after_block}

-- what a function answers with this fault
abbrev pub Fails : {Y : Type 0} → Fault → Result Y (Code × List ℕ) → Type 0
Fails (fault.Refused code rest) read = read ≡ Err (code, rest.now)
Fails fault.Memory read = Unit {0}

-- what a function answers, seen by `view`, is what reading gives, unless memory ran out
abbrev pub Gives : {X Y : Type 0} → (X → Y) → Result X Fault → Result Y (Code × List ℕ) → Type 0
Gives view (Ok value) read = read ≡ Ok (view value)
Gives view (Err error) read = Fails error read

-- a token and what follows it, or the code of a fault and what follows its piece
abbrev pub Read : Type 0
Read = Result (TokenKind × List ℕ) (Code × List ℕ)

abbrev pub token : TokenKind → List ℕ → Read
token kind rest = Ok (kind, rest)

abbrev pub refuse : Code → List ℕ → Read
refuse code rest = Err (code, rest)

-- Words.

abbrev pub name : List ℕ → Name
name word = record { bytes = encode_utf8_all word }

-- what a word is
unfoldable pub word_kind : List ℕ → TokenKind
word_kind word =
    if bytes_eq word (codes "_") then kind.Underscore
    else elim (keyword_of word) [ Some keyword ↦ kind.Keyword keyword | None ↦ kind.Name (name word) ]

unfoldable pub word_at : List ℕ → Read
word_at text = token (word_kind (front is_continue text)) (after_front is_continue text)

-- the text behind a `'` begins with the word of a lifetime
abbrev pub is_lifetime : List ℕ → Bool
is_lifetime [] = false
is_lifetime (c ∷ text) = is_start c && not (begins 39 (after_front is_continue (c ∷ text)))

unfoldable pub lifetime_at : List ℕ → Read
lifetime_at text = token (kind.Lifetime (name (front is_continue text))) (after_front is_continue text)

-- Integers.

abbrev pub numbered : Result Integer Code → List ℕ → Read
numbered (Ok integer) rest = token (kind.Integer integer) rest
numbered (Err code) rest = refuse code rest

unfoldable pub number_at : List ℕ → Read
number_at text = numbered (integer_of (front is_continue text)) (after_front is_continue text)

-- Literals.

-- the character whose literal was read up to this stage
abbrev pub character_of : Stage → List ℕ → Read
character_of (Full c) rest = if begins 39 rest then token (kind.Character c) (tail rest) else refuse BadLiteral rest
character_of Open rest = refuse BadLiteral rest
character_of Escape rest = refuse BadLiteral rest
character_of Hex rest = refuse BadLiteral rest
character_of (Digit high) rest = refuse BadLiteral rest
character_of Unicode rest = refuse BadLiteral rest
character_of (Digits count value) rest = refuse BadLiteral rest

-- the byte whose literal was read up to this stage
abbrev pub byte_of : Stage → List ℕ → Read
byte_of (Full c) rest =
    if begins 39 rest && nat_lt c 256 then token (kind.Byte c) (tail rest) else refuse BadLiteral rest
byte_of Open rest = refuse BadLiteral rest
byte_of Escape rest = refuse BadLiteral rest
byte_of Hex rest = refuse BadLiteral rest
byte_of (Digit high) rest = refuse BadLiteral rest
byte_of Unicode rest = refuse BadLiteral rest
byte_of (Digits count value) rest = refuse BadLiteral rest

-- the text whose literal was read up to this stage
abbrev pub text_of : List ℕ → Stage → List ℕ → Read
text_of text Open rest =
    if begins 34 rest
    then token (kind.Text (record { source = encode_utf8_all (take (length text - length rest) text) })) (tail rest)
    else refuse BadLiteral rest
text_of text Escape rest = refuse BadLiteral rest
text_of text Hex rest = refuse BadLiteral rest
text_of text (Digit high) rest = refuse BadLiteral rest
text_of text Unicode rest = refuse BadLiteral rest
text_of text (Digits count value) rest = refuse BadLiteral rest
text_of text (Full c) rest = refuse BadLiteral rest

unfoldable pub character_at : List ℕ → Read
character_at text = let read = content literal.Character Open text in character_of read.0 read.1

unfoldable pub byte_at : List ℕ → Read
byte_at text = let read = content literal.Byte Open text in byte_of read.0 read.1

unfoldable pub text_at : List ℕ → Read
text_at text = let read = content literal.Text Open text in text_of text read.0 read.1

-- behind a `'`
unfoldable pub quoted_at : List ℕ → Read
quoted_at text = if is_lifetime text then lifetime_at text else character_at text

-- Places.

abbrev pub marked : List ℕ → Option (Punctuation × List ℕ) → Read
marked text (Some found) = token (kind.Punctuation found.0) found.1
marked text None = refuse UnknownCharacter (tail text)

unfoldable pub mark_at : List ℕ → Read
mark_at text = marked text (punctuation_at text)

-- the token at the front of a text that does not begin with white space or a comment
unfoldable pub token_at : List ℕ → Read
token_at [] = refuse UnknownCharacter []
token_at (c ∷ rest) =
    if c == 98 && begins 39 rest then byte_at (tail rest)
    else (if c == 39 then quoted_at rest
    else (if c == 34 then text_at rest
    else (if is_ascii_digit c then number_at (c ∷ rest)
    else (if is_start c then word_at (c ∷ rest) else mark_at (c ∷ rest)))))

-- what follows a block comment, or its fault, which goes to the end
abbrev pub block_end : Option (List ℕ) → Result (Option (List ℕ)) (Code × List ℕ)
block_end (Some rest) = Ok (Some rest)
block_end None = Err (UnfinishedComment, [])

-- what follows a comment, whose first `/` stands before this text
unfoldable pub comment_at : List ℕ → Result (Option (List ℕ)) (Code × List ℕ)
comment_at [] = Ok None
comment_at (c ∷ rest) =
    if c == 47 then Ok (Some (after_front is_in_line rest))
    else (if c == 42 then block_end (after_block 0 rest) else Ok None)

-- what follows white space or a comment at the front
unfoldable pub gap_at : List ℕ → Result (Option (List ℕ)) (Code × List ℕ)
gap_at [] = Ok None
gap_at (c ∷ rest) =
    if is_space c then Ok (Some rest) else (if c == 47 then comment_at rest else Ok None)
