-- The rows of an allocation at one of its bytes.
use Rattle.std.specs.Prelude.{ℕ, [], ◌∷◌}
use Rattle.tb_perm.specs.Rows.{Row, state_at}

-- a row with its state at this byte alone
abbrev pub at_byte : ℕ → Row → Row
at_byte byte row = record row { states = state_at row byte ∷ [] }
