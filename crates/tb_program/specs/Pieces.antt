-- Pieces of a text.
use Rattle.std.specs.Prelude.{ℕ, List, ◌++◌, codes}
use Rattle.std.specs.Fmt.{decimal}

abbrev pub numbered : List ℕ → ℕ → List ℕ
numbered word number = word ++ decimal number

-- `_1`, and `b1`
abbrev pub local_text : ℕ → List ℕ
local_text local = numbered (codes "_") local

abbrev pub block_text : ℕ → List ℕ
block_text block = numbered (codes "b") block
