-- The faults of a program.
use Rattle.std.specs.Prelude.{◌⊎◌, ℕ, ◌+◌, ◌*◌, ◌<◌, ◌≤◌, Bool, false, List, [], ◌∷◌, length, Option, Some, None, nat_le, nat_lt}
use Rattle.tb_perm.specs.declared.span.Span.{Span}
use Rattle.tb_perm.specs.declared.code.Code.{Code}
use Rattle.tb_perm.specs.declared.code.Code.TheVariants as code
use Rattle.tb_types.specs.Table.{TypeTable}
use Rattle.tb_thir.specs.declared.program.Function.{Function}
use Rattle.tb_thir.specs.declared.program.Thir.{Thir}
use Rattle.tb_flow.specs.declared.mark.Question.{Question}
use Rattle.tb_flow.specs.declared.mark.Question.TheVariants.{NoValue, AfterMove}
use Rattle.tb_flow.specs.Flows.{At, HasPart}
use Rattle.tb_flow.specs.Questions.{IsYesAt}
use Rattle.tb_moves.specs.declared.error.MoveError.{MoveError}
use Rattle.tb_moves.specs.declared.error.MoveError.TheVariants.{NotInitialised, UsedAfterMove, MoveOutOfAPart}
use Rattle.tb_moves.specs.Trees.{body_of}

abbrev pub span_of : MoveError → Span
span_of (NotInitialised span) = span
span_of (UsedAfterMove span) = span
span_of (MoveOutOfAPart span) = span

abbrev pub code_of : MoveError → Code
code_of (NotInitialised span) = code.NotInitialised
code_of (UsedAfterMove span) = code.UsedAfterMove
code_of (MoveOutOfAPart span) = code.MoveOutOfAPart

-- Faults come in the order of the text; of those that begin at one place a use after a move comes first, and a move out of a part last.
abbrev pub rank_of : MoveError → ℕ
rank_of (UsedAfterMove span) = 0
rank_of (NotInitialised span) = 1
rank_of (MoveOutOfAPart span) = 2

abbrev pub key_of : MoveError → ℕ
key_of error = 3 * (span_of error).lo + rank_of error

abbrev pub earliest_of : Bool → MoveError → MoveError → Option MoveError
earliest_of Bool.true first second = Some second
earliest_of Bool.false first second = Some first

abbrev pub earliest : Option MoveError → Option MoveError → Option MoveError
earliest None other = other
earliest (Some first) None = Some first
earliest (Some first) (Some second) = earliest_of (nat_lt (key_of second) (key_of first)) first second

-- where a function begins, its parameters have values, and no other variable has one; nothing was moved
abbrev pub starts_yes : Question → Function → ℕ → Bool
starts_yes NoValue function v = nat_le (length function.parameters) v
starts_yes AfterMove function v = false

-- on some way a variable of the function is used with the answer yes
abbrev pub IsUse : Question → TypeTable → Function → ℕ → Span → Type 0
IsUse question types function v span = IsYesAt question v (starts_yes question function v) (body_of types function) (At v span)

-- a fault of a function, about a variable below this number
abbrev pub IsFaultBelow : ℕ → TypeTable → Function → MoveError → Type 0
IsFaultBelow n types function (NotInitialised span) = (v : ℕ) × (v < n) × IsUse NoValue types function v span
IsFaultBelow n types function (UsedAfterMove span) = (v : ℕ) × (v < n) × IsUse AfterMove types function v span
IsFaultBelow n types function (MoveOutOfAPart span) = HasPart (body_of types function) span

abbrev pub IsFault : TypeTable → Function → MoveError → Type 0
IsFault types function error = IsFaultBelow (length function.variables) types function error

-- a fault of one of these functions
abbrev pub IsFaultIn : TypeTable → List Function → MoveError → Type 0
IsFaultIn types [] error = ⊥
IsFaultIn types (function ∷ functions) error = IsFault types function error ⊎ IsFaultIn types functions error

abbrev pub IsFaultOf : Thir → MoveError → Type 0
IsFaultOf thir error = IsFaultIn thir.types thir.functions error

abbrev pub NoFault : Thir → Type 0
NoFault thir = (error : MoveError) → IsFaultOf thir error → ⊥

-- no fault comes before it
abbrev pub IsFirstFault : Thir → MoveError → Type 0
IsFirstFault thir error = IsFaultOf thir error × ((other : MoveError) → IsFaultOf thir other → key_of error ≤ key_of other)
