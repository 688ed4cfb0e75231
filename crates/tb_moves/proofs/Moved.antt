-- Where nothing is missing, nothing was moved away: behind a move a variable has no value.
use Rattle.std.proofs.Common.{◌≡◌, ◌∙◌, ℕ, Bool, true, false, List, [], ◌∷◌, Option, Some, None, ◌==◌, refl, ap, sym, subst}
use Rattle.std.specs.Prelude.{if◌then◌else◌}
use Rattle.std.specs.Option.{option_map}
use Rattle.std.proofs.lemmas.Bool.{false≢true}
use Rattle.tb_perm.specs.declared.span.Span.{Span}
use Rattle.tb_types.specs.Table.{TypeTable}
use Rattle.tb_thir.specs.declared.program.Function.{Function}
use Rattle.tb_flow.specs.declared.mark.Mark.TheVariants.{Kept}
use Rattle.tb_flow.specs.declared.mark.Question.TheVariants.{NoValue, AfterMove}
use Rattle.tb_flow.specs.Flows.{Event, Moved, Given, Declared, Flow, At}
use Rattle.tb_flow.specs.Questions.{answer_of, variable_of, mark_of, marked_answer, answer_behind, IsYesAt}
use Rattle.tb_flow.specs.Summaries.{yes_in}
use Rattle.tb_flow.specs.Laws.{IsFirst}
use Rattle.tb_flow.proofs.Firsts.{first_yes}
use Rattle.tb_moves.specs.declared.error.MoveError.TheVariants.{NotInitialised, UsedAfterMove}
use Rattle.tb_moves.specs.Trees.{body_of}
use Rattle.tb_moves.specs.Moves.{starts_yes, earliest}
use Rattle.tb_moves.specs.Firsts.{variable_fault}

about : (c : Bool) (e : Event) (a b : Bool) → (b ≡ true → a ≡ true) → marked_answer (if c then answer_of AfterMove e else Kept) b ≡ true → marked_answer (if c then answer_of NoValue e else Kept) a ≡ true
about true (Moved w) a b less h = refl
about true (Given w) a b less h = h
about true (Declared w) a b less h = refl
about false e a b less h = less h

missing_behind : (v : ℕ) (es : List Event) (a b : Bool) → (b ≡ true → a ≡ true) → answer_behind AfterMove v b es ≡ true → answer_behind NoValue v a es ≡ true
missing_behind v [] a b less h = less h
missing_behind v (e ∷ es) a b less h =
    missing_behind v es (marked_answer (mark_of NoValue v e) a) (marked_answer (mark_of AfterMove v e) b) (about (variable_of e == v) e a b less) h

none_moved : (v : ℕ) (now : Bool) (flow : Flow) → yes_in NoValue v now flow ≡ None → yes_in AfterMove v false flow ≡ None
none_moved v now flow none = at (yes_in AfterMove v false flow) (first_yes AfterMove v false flow)
  where
    no_use : (span : Span) → IsYesAt NoValue v now flow (At v span) → ⊥
    no_use = subst (IsFirst (λ span. IsYesAt NoValue v now flow (At v span))) none (first_yes NoValue v now flow)

    at : (x : Option Span) → IsFirst (λ span. IsYesAt AfterMove v false flow (At v span)) x → x ≡ None
    at None is = refl
    at (Some span) is = absurd (no_use span (is.0.0, is.0.1, missing_behind v is.0.0 now false (λ h. absurd (false≢true h)) is.0.2))

pub no_fault : (types : TypeTable) (function : Function) (v : ℕ) → yes_in NoValue v (starts_yes NoValue function v) (body_of types function) ≡ None → None ≡ variable_fault types function v
no_fault types function v none =
    sym (
    ap (λ x. earliest (option_map NotInitialised x) (option_map UsedAfterMove (yes_in AfterMove v false (body_of types function)))) none
    ∙ ap (λ x. earliest None (option_map UsedAfterMove x)) (none_moved v (starts_yes NoValue function v) (body_of types function) none)
    )
