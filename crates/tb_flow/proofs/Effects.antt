-- What the events of a way do to the answer.
use Rattle.std.proofs.Common.{◌≡◌, ◌∙◌, ℕ, Bool, List, [], ◌∷◌, ◌++◌, refl, ap, sym}
use Rattle.tb_flow.specs.declared.mark.Question.{Question}
use Rattle.tb_flow.specs.declared.mark.Mark.{Mark}
use Rattle.tb_flow.specs.declared.mark.Mark.TheVariants.{Kept, Yes, No}
use Rattle.tb_flow.specs.Flows.{Event, Flow, End, Way}
use Rattle.tb_flow.specs.Questions.{mark_of, marked_answer, answer_behind}
use Rattle.tb_flow.proofs.Sets.{over, over_kept, over_assoc}

abbrev pub effect : Question → ℕ → List Event → Mark
effect question v [] = Kept
effect question v (event ∷ events) = over (mark_of question v event) (effect question v events)

pub effect_append : (question : Question) (v : ℕ) (es fs : List Event) → effect question v (es ++ fs) ≡ over (effect question v es) (effect question v fs)
effect_append question v [] fs = sym (over_kept (effect question v fs))
effect_append question v (e ∷ es) fs =
    ap (λ m. over (mark_of question v e) m) (effect_append question v es fs)
    ∙ sym (over_assoc (mark_of question v e) (effect question v es) (effect question v fs))

pub answer_over : (a b : Mark) (now : Bool) → marked_answer b (marked_answer a now) ≡ marked_answer (over a b) now
answer_over a Kept now = refl
answer_over a Yes now = refl
answer_over a No now = refl

pub answer_effect : (question : Question) (v : ℕ) (now : Bool) (es : List Event) → answer_behind question v now es ≡ marked_answer (effect question v es) now
answer_effect question v now [] = refl
answer_effect question v now (e ∷ es) =
    answer_effect question v (marked_answer (mark_of question v e) now) es
    ∙ answer_over (mark_of question v e) (effect question v es) now

-- some way through the piece leaves so, with this mark
abbrev pub Reaches : Question → ℕ → Flow → End → Mark → Type 0
Reaches question v flow end m = (es : List Event) × Way flow es end × (effect question v es ≡ m)
