-- A summary has the first use with the answer yes, and the first move out of a part.
use Rattle.std.proofs.Common.{◌≡◌, ◌∙◌, ℕ, Bool, true, false, Option, Some, None, ◌==◌, refl, ap, sym, subst, arith}
use Rattle.std.proofs.lemmas.Bool.{false≢true}
use Rattle.tb_perm.specs.declared.span.Span.{Span}
use Rattle.tb_flow.specs.declared.mark.Question.{Question}
use Rattle.tb_flow.specs.declared.mark.Mark.{Mark}
use Rattle.tb_flow.specs.declared.mark.Mark.TheVariants.{Kept, Yes, No}
use Rattle.tb_flow.specs.Flows.{Flow, Nothing, Does, Uses, Part, Then, Either, Loop, Break, Continue, Stop, At, HasPart}
use Rattle.tb_flow.specs.Questions.{marked_answer, IsYesAt}
use Rattle.tb_flow.specs.Summaries.{loop_of, then_of, either_of, after, use_of, summary_of, given, yes_in}
use Rattle.tb_flow.specs.Laws.{IsFirst}
use Rattle.tb_flow.proofs.Sets.{over, has, only_is}
use Rattle.tb_flow.proofs.Places.{NotAfter, first_earlier}
use Rattle.tb_flow.proofs.Found.{Allows, found_after, allows_after}
use Rattle.tb_flow.proofs.Effects.{effect, answer_effect}
use Rattle.tb_flow.proofs.Sound.{sound}
use Rattle.tb_flow.proofs.Complete.{complete}

abbrev mark_given : Bool → Mark
mark_given true = Yes
mark_given false = No

given_is : (now : Bool) (i : Mark) → has i (given now) ≡ true → i ≡ mark_given now
given_is true i h = only_is i Yes h
given_is false i h = only_is i No h

is_given : (now : Bool) → has (mark_given now) (given now) ≡ true
is_given true = refl
is_given false = refl

yes_after : (now : Bool) (j : Mark) → over (mark_given now) j ≡ Yes → marked_answer j now ≡ true
yes_after true Kept h = refl
yes_after false Kept h = absurd cc
yes_after now Yes h = refl
yes_after now No h = absurd cc

after_yes : (now : Bool) (j : Mark) → marked_answer j now ≡ true → over (mark_given now) j ≡ Yes
after_yes true Kept h = refl
after_yes false Kept h = absurd (false≢true h)
after_yes now Yes h = refl
after_yes now No h = absurd (false≢true h)

module _ (question : Question) (v : ℕ) (now : Bool) (flow : Flow) where
  is_there : (span : Span) → yes_in question v now flow ≡ Some span → IsYesAt question v now flow (At v span)
  is_there span h =
      let l = found_after v (given now) (summary_of question v flow) (At v span) Yes (refl, h) in
      let r = sound question v flow (At v span) l.1 l.3 in
      let whole : over (mark_given now) l.1 ≡ Yes = ap (λ i. over i l.1) (sym (given_is now l.0 l.2)) ∙ l.4 in
      let answer : marked_answer l.1 now ≡ true = yes_after now l.1 whole in
      (r.0, r.1, answer_effect question v now r.0 ∙ ap (λ m. marked_answer m now) r.2 ∙ answer)

  none_before : (span : Span) → IsYesAt question v now flow (At v span) → NotAfter (yes_in question v now flow) span
  none_before span h =
      let m : Mark = effect question v h.0 in
      let yes : over (mark_given now) m ≡ Yes = after_yes now m (sym (answer_effect question v now h.0) ∙ h.2) in
      let allowed : Allows v (after (given now) (summary_of question v flow)) (At v span) (over (mark_given now) m) =
      allows_after v (given now) (summary_of question v flow) (At v span) (mark_given now) m (is_given now) (complete question v flow h.0 (At v span) h.1) in
      let at_yes : Allows v (after (given now) (summary_of question v flow)) (At v span) Yes = subst (λ x. Allows v (after (given now) (summary_of question v flow)) (At v span) x) yes allowed in
      at_yes refl

  first_at : (x : Option Span) → yes_in question v now flow ≡ x → IsFirst (λ span. IsYesAt question v now flow (At v span)) x
  first_at None is = λ span h. subst (λ x. NotAfter x span) is (none_before span h)
  first_at (Some first) is = (is_there first is, λ span h. let k : NotAfter (Some first) span = subst (λ x. NotAfter x span) is (none_before span h) in k.0)

  pub first_yes : IsFirst (λ span. IsYesAt question v now flow (At v span)) (yes_in question v now flow)
  first_yes = first_at (yes_in question v now flow) refl

no_part : (b : Bool) (span : Span) → (use_of b span).part ≡ None
no_part true span = refl
no_part false span = refl

pub first_part : (question : Question) (v : ℕ) (flow : Flow) → IsFirst (HasPart flow) (summary_of question v flow).part
unfolding then_of either_of loop_of
first_part question v Nothing = λ span h. h
first_part question v (Does event) = λ span h. h
first_part question v (Uses w span) = subst (λ x. IsFirst (HasPart (Uses w span)) x) (sym (no_part (w == v) span)) (λ s h. h)
first_part question v (Part span) = (refl, λ s h. let same : span.lo ≡ s.lo = ap (λ x. x.lo) h in omega (arith, same))
first_part question v (Then a b) = first_earlier (HasPart a) (HasPart b) (summary_of question v a).part (summary_of question v b).part (first_part question v a) (first_part question v b)
first_part question v (Either a b) = first_earlier (HasPart a) (HasPart b) (summary_of question v a).part (summary_of question v b).part (first_part question v a) (first_part question v b)
first_part question v (Loop head leaves body) = first_earlier (HasPart head) (HasPart body) (summary_of question v head).part (summary_of question v body).part (first_part question v head) (first_part question v body)
first_part question v Break = λ span h. h
first_part question v Continue = λ span h. h
first_part question v Stop = λ span h. h
