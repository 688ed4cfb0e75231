-- The answers that are possible at each place, by one equation for each form of a piece: the other way to say what the ways say.
use Rattle.std.specs.Prelude.{◌≡◌, ℕ, Bool, true, false, ◌||◌, List, [], ◌∷◌, ◌++◌, ◌⊎◌}
use Rattle.tb_perm.specs.declared.span.Span.{Span}
use Rattle.tb_flow.specs.declared.mark.Question.{Question}
use Rattle.tb_flow.specs.declared.mark.Mark.{Mark}
use Rattle.tb_flow.specs.declared.mark.Mark.TheVariants.{Kept, Yes, No}
use Rattle.tb_flow.specs.Flows.{Event, Flow, Nothing, Does, Uses, Part, Then, Either, Loop, Break, Continue, Stop, End, Next, Broke, Continued, At, Way}
use Rattle.tb_flow.specs.Questions.{mark_of, answer_behind}

-- a set of answers; at a place to which no way leads it is empty
pub record Answers : Type 0 where
  pub is_yes : Bool
  pub is_no : Bool

abbrev pub no_answer : Answers
no_answer = record { is_yes = false; is_no = false }

abbrev pub holds : Bool → Answers → Bool
holds true answers = answers.is_yes
holds false answers = answers.is_no

-- what is possible on either way
abbrev pub union : Answers → Answers → Answers
union a b = record { is_yes = a.is_yes || b.is_yes; is_no = a.is_no || b.is_no }

abbrev pub possible_if : Bool → Answers → Answers
possible_if true answers = answers
possible_if false answers = no_answer

-- behind an event with this mark
abbrev pub behind_mark : Mark → Answers → Answers
behind_mark Kept a = a
behind_mark Yes a = record { is_yes = a.is_yes || a.is_no; is_no = false }
behind_mark No a = record { is_yes = false; is_no = a.is_yes || a.is_no }

-- a use of a variable, and what is possible there
pub record UseSet : Type 0 where
  pub variable : ℕ
  pub span : Span
  pub answers : Answers

-- what is possible behind a piece, at its breaks, at its continues, and at the uses in it
pub record Sets : Type 0 where
  pub behind : Answers
  pub broke : Answers
  pub continued : Answers
  pub uses : List UseSet

abbrev pub passing : Answers → Sets
passing a = record { behind = a; broke = no_answer; continued = no_answer; uses = [] }

-- The equations of a piece, with what is possible before it.
abbrev pub Meets : Question → ℕ → Flow → Answers → Sets → Type 0
Meets question v Nothing a sets = sets ≡ passing a
Meets question v (Does event) a sets = sets ≡ passing (behind_mark (mark_of question v event) a)
Meets question v (Uses w span) a sets = sets ≡ record (passing a) { uses = record { variable = w; span = span; answers = a } ∷ [] }
Meets question v (Part span) a sets = sets ≡ passing a
Meets question v (Then x y) a sets =
    (first : Sets) × (second : Sets) × Meets question v x a first × Meets question v y first.behind second
    × (sets ≡ record { behind = second.behind; broke = union first.broke second.broke; continued = union first.continued second.continued; uses = first.uses ++ second.uses })
Meets question v (Either x y) a sets =
    (first : Sets) × (second : Sets) × Meets question v x a first × Meets question v y a second
    × (sets ≡ record { behind = union first.behind second.behind; broke = union first.broke second.broke; continued = union first.continued second.continued; uses = first.uses ++ second.uses })
-- at the head of a loop, what is possible before it, behind its body and at the continues of its body
Meets question v (Loop head leaves body) a sets =
    (at : Answers) × (first : Sets) × (second : Sets) × Meets question v head at first × Meets question v body first.behind second
    × (at ≡ union a (union second.behind second.continued))
    × (sets ≡ record { behind = union (possible_if leaves first.behind) second.broke; broke = first.broke; continued = first.continued; uses = first.uses ++ second.uses })
Meets question v Break a sets = sets ≡ record (passing no_answer) { broke = a }
Meets question v Continue a sets = sets ≡ record (passing no_answer) { continued = a }
Meets question v Stop a sets = sets ≡ passing no_answer

-- the answer is possible at a use of the variable at this place
abbrev pub HasUse : List UseSet → ℕ → Span → Bool → Type 0
HasUse [] w span answer = ⊥
HasUse (one ∷ uses) w span answer = ((one.variable ≡ w) × (one.span ≡ span) × (holds answer one.answers ≡ true)) ⊎ HasUse uses w span answer

abbrev pub IsPossible : Sets → End → Bool → Type 0
IsPossible sets Next answer = holds answer sets.behind ≡ true
IsPossible sets Broke answer = holds answer sets.broke ≡ true
IsPossible sets Continued answer = holds answer sets.continued ≡ true
IsPossible sets (At w span) answer = HasUse sets.uses w span answer

-- some way that begins with a possible answer leads there with this one
abbrev pub Leads : Question → ℕ → Flow → Answers → End → Bool → Type 0
Leads question v flow a end answer =
    (now : Bool) × (events : List Event) × (holds now a ≡ true) × Way flow events end × (answer_behind question v now events ≡ answer)
