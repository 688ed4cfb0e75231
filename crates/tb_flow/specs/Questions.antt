-- Two questions about a variable at a place, on one way: has it no value, and is its last event a move?
use Rattle.std.specs.Prelude.{◌≡◌, ℕ, Bool, true, false, List, [], ◌∷◌, ◌==◌, if◌then◌else◌}
use Rattle.tb_flow.specs.declared.mark.Question.{Question}
use Rattle.tb_flow.specs.declared.mark.Question.TheVariants.{NoValue, AfterMove}
use Rattle.tb_flow.specs.declared.mark.Mark.{Mark}
use Rattle.tb_flow.specs.declared.mark.Mark.TheVariants.{Kept, Yes, No}
use Rattle.tb_flow.specs.Flows.{Event, Moved, Given, Declared, Flow, Way, End}

-- what an event about the variable answers: behind a move it has no value, and its last event is a move; one that is given has a value; one that is declared anew has none, and no event before
abbrev pub answer_of : Question → Event → Mark
answer_of question (Moved w) = Yes
answer_of question (Given w) = No
answer_of NoValue (Declared w) = Yes
answer_of AfterMove (Declared w) = No

abbrev pub variable_of : Event → ℕ
variable_of (Moved w) = w
variable_of (Given w) = w
variable_of (Declared w) = w

-- an event about another variable keeps the answer
abbrev pub mark_of : Question → ℕ → Event → Mark
mark_of question v event = if variable_of event == v then answer_of question event else Kept

abbrev pub marked_answer : Mark → Bool → Bool
marked_answer Kept now = now
marked_answer Yes now = true
marked_answer No now = false

-- the answer behind these events, where it is `now` before them
abbrev pub answer_behind : Question → ℕ → Bool → List Event → Bool
answer_behind question v now [] = now
answer_behind question v now (event ∷ events) = answer_behind question v (marked_answer (mark_of question v event) now) events

-- some way leads to a use of the variable at this place, with the answer yes there
abbrev pub IsYesAt : Question → ℕ → Bool → Flow → End → Type 0
IsYesAt question v now flow end = (events : List Event) × Way flow events end × (answer_behind question v now events ≡ true)
