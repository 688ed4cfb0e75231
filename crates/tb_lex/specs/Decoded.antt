-- The characters that a text stands for, and for which of them an escape stands in its source.
use Rattle.std.specs.Prelude.{◌≡◌, ℕ, true, false, ◌==◌, if◌then◌else◌, List, [], ◌∷◌, ◌++◌, Option, None, Some}
use Rattle.tb_lex.specs.declared.decoded.TextCharacter.{TextCharacter}
use Rattle.tb_lex.specs.declared.literal.Literal.TheVariants as literal
use Rattle.tb_lex.specs.declared.literal.Stage.{Stage}
use Rattle.tb_lex.specs.declared.literal.Stage.TheVariants.{Open, Escape, Hex, Digit, Unicode, Digits, Full}
use Rattle.tb_lex.specs.Characters.{begins}
use Rattle.tb_lex.specs.Literals.{IsWritten}
use Rattle.tb_lex.specs.Stages.{content}
use Rattle.tb_lex.specs.Texts.{IsText}

-- the text begins with one character, as it is written in texts, and this rest follows it; an escape
-- begins with `\`
pub record IsFirst (text : List ℕ) (c : TextCharacter) (rest : List ℕ) : Type 0 where
  pub piece : List ℕ
  pub parts : text ≡ piece ++ rest
  pub written : IsWritten literal.Text c.value piece
  pub escaped : c.escaped ≡ begins 92 piece

-- the text is these characters, one written behind the other
abbrev pub AreDecoded : List TextCharacter → List ℕ → Type 0
AreDecoded [] text = text ≡ []
AreDecoded (c ∷ characters) text = (rest : List ℕ) × IsFirst text c rest × AreDecoded characters rest

-- these bytes between quotes are a text, and it stands for these characters
abbrev pub IsDecoded : List ℕ → List TextCharacter → Type 0
IsDecoded source characters = (inner : List ℕ) × IsText source inner × AreDecoded characters inner

-- the one value of which the fact holds, or none where it holds of no value
abbrev pub IsTheOnly : {A : Type 0} → (A → Type 0) → Option A → Type 0
IsTheOnly fact None = (other : _) → fact other → ⊥
IsTheOnly fact (Some value) = fact value × ((other : _) → fact other → other ≡ value)

-- The first character by reading: an escape is read as in a character literal.

abbrev pub escape_read : Stage × List ℕ → Option (TextCharacter × List ℕ)
escape_read (Full value, rest) = Some (record { value = value; escaped = true }, rest)
escape_read (Open, rest) = None
escape_read (Escape, rest) = None
escape_read (Hex, rest) = None
escape_read (Digit high, rest) = None
escape_read (Unicode, rest) = None
escape_read (Digits count value, rest) = None

abbrev pub first_character : List ℕ → Option (TextCharacter × List ℕ)
first_character [] = None
first_character (c ∷ text) =
    if c == 92 then escape_read (content literal.Character Open (c ∷ text))
    else (if c == 34 then None else Some (record { value = c; escaped = false }, text))
