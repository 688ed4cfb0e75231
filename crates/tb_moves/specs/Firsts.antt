-- The first fault, worked out: of a function's parts, of each of its variables, of all functions.
use Rattle.std.specs.Prelude.{ℕ, zero, suc, List, [], ◌∷◌, length, Option}
use Rattle.std.specs.Option.{option_map}
use Rattle.tb_types.specs.Table.{TypeTable}
use Rattle.tb_thir.specs.declared.program.Function.{Function}
use Rattle.tb_flow.specs.declared.mark.Question.TheVariants.{NoValue, AfterMove}
use Rattle.tb_flow.specs.Summaries.{summary_of, yes_in}
use Rattle.tb_moves.specs.declared.error.MoveError.{MoveError}
use Rattle.tb_moves.specs.declared.error.MoveError.TheVariants.{NotInitialised, UsedAfterMove, MoveOutOfAPart}
use Rattle.tb_moves.specs.Trees.{body_of}
use Rattle.tb_moves.specs.Moves.{earliest, starts_yes}

abbrev pub part_fault : TypeTable → Function → Option MoveError
part_fault types function = option_map MoveOutOfAPart (summary_of NoValue 0 (body_of types function)).part

abbrev pub variable_fault : TypeTable → Function → ℕ → Option MoveError
variable_fault types function v =
    earliest (option_map NotInitialised (yes_in NoValue v (starts_yes NoValue function v) (body_of types function)))
    (option_map UsedAfterMove (yes_in AfterMove v (starts_yes AfterMove function v) (body_of types function)))

-- of the parts and the variables below this number
abbrev pub faults_below : TypeTable → Function → ℕ → Option MoveError
faults_below types function zero = part_fault types function
faults_below types function (suc n) = earliest (faults_below types function n) (variable_fault types function n)

abbrev pub function_fault : TypeTable → Function → Option MoveError
function_fault types function = faults_below types function (length function.variables)

abbrev pub faults_from : TypeTable → Option MoveError → List Function → Option MoveError
faults_from types first [] = first
faults_from types first (function ∷ functions) = faults_from types (earliest first (function_fault types function)) functions
