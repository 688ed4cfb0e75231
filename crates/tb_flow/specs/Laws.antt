-- What a summary has to do with the ways through its piece.
use Rattle.std.specs.Prelude.{◌≤◌, Option, Some, None}
use Rattle.tb_perm.specs.declared.span.Span.{Span}

-- the place is the first with this: it has it, and no other that has it begins earlier
abbrev pub IsFirst : (Span → Type 0) → Option Span → Type 0
IsFirst Has None = (span : Span) → Has span → ⊥
IsFirst Has (Some first) = Has first × ((span : Span) → Has span → first.lo ≤ span.lo)
