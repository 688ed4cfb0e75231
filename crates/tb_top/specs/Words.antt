-- The words of a command line.
use Rattle.std.specs.Prelude.{ℕ, Bool, false, ◌==◌, if◌then◌else◌, List, [], ◌∷◌, Option, None, Some}

-- it begins with `-`, and is not `-` alone
abbrev pub is_option : List ℕ → Bool
is_option [] = false
is_option (byte ∷ []) = false
is_option (byte ∷ next ∷ bytes) = byte == 45

-- the file that the words name: there is one word, and it is no option
abbrev pub file_of : List (List ℕ) → Option (List ℕ)
file_of [] = None
file_of (word ∷ []) = if is_option word then None else Some word
file_of (word ∷ next ∷ words) = None
