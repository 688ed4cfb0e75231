-- How the tokens of a text come one by one, by which `lex` is proved.
use Rattle.std.specs.Prelude.{◌≡◌, ℕ, ◌+◌, ◌-◌, ◌≤◌, List, ◌++◌, length, take, ⊤}
use Rattle.tb_lex.specs.declared.error.Fault.{Fault}
use Rattle.tb_lex.specs.declared.error.Fault.TheVariants as fault
use Rattle.tb_lex.specs.declared.error.LexError.{LexError}
use Rattle.tb_lex.specs.declared.error.LexError.TheVariants as error
use Rattle.tb_lex.specs.declared.token.Token.{Token}
use Rattle.tb_lex.specs.Characters.{width}
use Rattle.tb_lex.specs.Faults.{IsFault}
use Rattle.tb_lex.specs.Texts.{span_of, Reads, IsRefused}

-- what was read up to a place goes on to a later one
abbrev pub Goes : ℕ → List Token → List ℕ → List Token → List ℕ → Type 0
Goes size old text new rest = (start : List ℕ) → Reads size start old text → Reads size start new rest

-- the rest is what some piece of the text leaves
abbrev pub Follows : List ℕ → List ℕ → Type 0
Follows text rest = (piece : List ℕ) × (text ≡ piece ++ rest)

-- what follows the piece of a fault is no longer than this text
abbrev pub IsWithin : List ℕ → Fault → Type 0
IsWithin text (fault.Refused code rest) = length rest.now ≤ length text
IsWithin text fault.Memory = ⊤

-- the fault as one of a whole text, in which the text that it begins stands at this place
abbrev pub refused_at : ℕ → List ℕ → Fault → LexError
refused_at at text (fault.Refused code rest) =
    error.Refused code (record { lo = at; hi = at + width (take (length text - length rest.now) text) })
refused_at at text fault.Memory = error.Memory

-- a fault begins the text
abbrev pub BeginsFault : ℕ → List ℕ → LexError → Type 0
BeginsFault size text (error.Refused code span) =
    (piece : List ℕ) × (rest : List ℕ) × (text ≡ piece ++ rest) × IsFault code piece rest × (span ≡ span_of size text rest)
BeginsFault size text error.Memory = ⊤

-- a fault stands behind some tokens of the text
abbrev pub HasFault : ℕ → List ℕ → LexError → Type 0
HasFault size text (error.Refused code span) =
    (tokens : List Token) × (front : List ℕ) × Reads size text tokens front × BeginsFault size front (error.Refused code span)
HasFault size text error.Memory = ⊤

-- the error is the fault of the bytes
abbrev pub IsFaultOf : List ℕ → LexError → Type 0
IsFaultOf bytes (error.Refused code span) = IsRefused bytes code span
IsFaultOf bytes error.Memory = ⊤
