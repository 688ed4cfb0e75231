-- Whatever sets meet the equations have the answers of all ways.
use Rattle.std.proofs.Common.{◌≡◌, ◌∙◌, ◌⊎◌, ℕ, Bool, true, false, List, [], ◌∷◌, ◌++◌, refl, ap, sym, subst, inl, inr}
use Rattle.std.proofs.lemmas.Bool.{or_left, or_right, or_cases, false≢true}
use Rattle.tb_perm.specs.declared.span.Span.{Span}
use Rattle.tb_flow.specs.declared.mark.Question.{Question}
use Rattle.tb_flow.specs.declared.mark.Mark.{Mark}
use Rattle.tb_flow.specs.declared.mark.Mark.TheVariants.{Kept, Yes, No}
use Rattle.tb_flow.specs.Flows.{Event, Flow, Loop, End, Next, Broke, Continued, At, IsAway, IsBack, Way, Idle, Happens, Comes, Passes, Parts, First, Both, One, Other, Breaks, Continues, InHead, Ends, Leaves, InBody, Turns}
use Rattle.tb_flow.specs.Questions.{mark_of, marked_answer, answer_behind}
use Rattle.tb_flow.specs.Equations.{Answers, no_answer, holds, union, possible_if, behind_mark, UseSet, Sets, Meets, HasUse, IsPossible, Leads}

-- Sets of answers.

pub union_left : (x : Bool) (a b : Answers) → holds x a ≡ true → holds x (union a b) ≡ true
union_left true a b h = or_left a.is_yes b.is_yes h
union_left false a b h = or_left a.is_no b.is_no h

pub union_right : (x : Bool) (a b : Answers) → holds x b ≡ true → holds x (union a b) ≡ true
union_right true a b h = or_right a.is_yes b.is_yes h
union_right false a b h = or_right a.is_no b.is_no h

pub union_cases : (x : Bool) (a b : Answers) → holds x (union a b) ≡ true → (holds x a ≡ true) ⊎ (holds x b ≡ true)
union_cases true a b h = or_cases a.is_yes b.is_yes h
union_cases false a b h = or_cases a.is_no b.is_no h

pub none_holds : (x : Bool) → holds x no_answer ≡ true → ⊥
none_holds true h = false≢true h
none_holds false h = false≢true h

same_bool : (x y : Bool) → (x ≡ true → y ≡ true) → (y ≡ true → x ≡ true) → x ≡ y
same_bool true y to from = sym (to refl)
same_bool false true to from = from refl
same_bool false false to from = refl

pub same_answers : (a b : Answers) → ((x : Bool) → holds x a ≡ true → holds x b ≡ true) → ((x : Bool) → holds x b ≡ true → holds x a ≡ true) → a ≡ b
same_answers a b to from =
    let pair : Bool → Bool → Answers = λ y n. record { is_yes = y; is_no = n } in
    ap (λ y. pair y a.is_no) (same_bool a.is_yes b.is_yes (to true) (from true)) ∙ ap (λ n. pair b.is_yes n) (same_bool a.is_no b.is_no (to false) (from false))

pub mark_holds : (m : Mark) (x : Bool) (a : Answers) → holds x a ≡ true → holds (marked_answer m x) (behind_mark m a) ≡ true
mark_holds Kept x a h = h
mark_holds Yes true a h = or_left a.is_yes a.is_no h
mark_holds Yes false a h = or_right a.is_yes a.is_no h
mark_holds No true a h = or_left a.is_yes a.is_no h
mark_holds No false a h = or_right a.is_yes a.is_no h

-- Uses.

pub use_left : (us vs : List UseSet) (w : ℕ) (span : Span) (x : Bool) → HasUse us w span x → HasUse (us ++ vs) w span x
use_left [] vs w span x h = absurd h
use_left (u ∷ us) vs w span x (inl h) = inl h
use_left (u ∷ us) vs w span x (inr h) = inr (use_left us vs w span x h)

pub use_right : (us vs : List UseSet) (w : ℕ) (span : Span) (x : Bool) → HasUse vs w span x → HasUse (us ++ vs) w span x
use_right [] vs w span x h = h
use_right (u ∷ us) vs w span x h = inr (use_right us vs w span x h)

pub use_cases : (us vs : List UseSet) (w : ℕ) (span : Span) (x : Bool) → HasUse (us ++ vs) w span x → HasUse us w span x ⊎ HasUse vs w span x
use_cases [] vs w span x h = inr h
use_cases (u ∷ us) vs w span x (inl h) = inl (inl h)
use_cases (u ∷ us) vs w span x (inr h) = elim (use_cases us vs w span x h) [ inl k ↦ inl (inr k) | inr k ↦ inr k ]

-- Sets of two pieces.

abbrev pub both : Sets → Sets → Sets
both first second = record { behind = second.behind; broke = union first.broke second.broke; continued = union first.continued second.continued; uses = first.uses ++ second.uses }

abbrev pub beside : Sets → Sets → Sets
beside first second = record { behind = union first.behind second.behind; broke = union first.broke second.broke; continued = union first.continued second.continued; uses = first.uses ++ second.uses }

abbrev pub around : Bool → Sets → Sets → Sets
around leaves first second = record { behind = union (possible_if leaves first.behind) second.broke; broke = first.broke; continued = first.continued; uses = first.uses ++ second.uses }

away_both : (end : End) (x : Bool) (first second : Sets) → IsAway end → IsPossible first end x → IsPossible (both first second) end x
away_both Next x first second is h = absurd is
away_both Broke x first second is h = union_left x first.broke second.broke h
away_both Continued x first second is h = union_left x first.continued second.continued h
away_both (At w span) x first second is h = use_left first.uses second.uses w span x h

second_both : (end : End) (x : Bool) (first second : Sets) → IsPossible second end x → IsPossible (both first second) end x
second_both Next x first second h = h
second_both Broke x first second h = union_right x first.broke second.broke h
second_both Continued x first second h = union_right x first.continued second.continued h
second_both (At w span) x first second h = use_right first.uses second.uses w span x h

one_beside : (end : End) (x : Bool) (first second : Sets) → IsPossible first end x → IsPossible (beside first second) end x
one_beside Next x first second h = union_left x first.behind second.behind h
one_beside Broke x first second h = union_left x first.broke second.broke h
one_beside Continued x first second h = union_left x first.continued second.continued h
one_beside (At w span) x first second h = use_left first.uses second.uses w span x h

other_beside : (end : End) (x : Bool) (first second : Sets) → IsPossible second end x → IsPossible (beside first second) end x
other_beside Next x first second h = union_right x first.behind second.behind h
other_beside Broke x first second h = union_right x first.broke second.broke h
other_beside Continued x first second h = union_right x first.continued second.continued h
other_beside (At w span) x first second h = use_right first.uses second.uses w span x h

away_around : (end : End) (x leaves : Bool) (first second : Sets) → IsAway end → IsPossible first end x → IsPossible (around leaves first second) end x
away_around Next x leaves first second is h = absurd is
away_around Broke x leaves first second is h = h
away_around Continued x leaves first second is h = h
away_around (At w span) x leaves first second is h = use_left first.uses second.uses w span x h

pub back_holds : (back : End) (x : Bool) (a : Answers) (second : Sets) → IsBack back → IsPossible second back x → holds x (union a (union second.behind second.continued)) ≡ true
back_holds Next x a second is h = union_right x a (union second.behind second.continued) (union_left x second.behind second.continued h)
back_holds Continued x a second is h = union_right x a (union second.behind second.continued) (union_right x second.behind second.continued h)
back_holds Broke x a second is h = absurd is
back_holds (At w span) x a second is h = absurd is

-- once more with what is possible at the head is no more
again_same : (a back at : Answers) → at ≡ union a back → at ≡ union at back
again_same a back at is =
    same_answers at (union at back) (λ x h. union_left x at back h)
    (λ x h. elim (union_cases x at back h) [
      | inl k ↦ k
      | inr k ↦ subst (λ s. holds x s ≡ true) (sym is) (union_right x a back k)
    ])

pub behind_append : (question : Question) (v : ℕ) (now : Bool) (es fs : List Event) → answer_behind question v now (es ++ fs) ≡ answer_behind question v (answer_behind question v now es) fs
behind_append question v now [] fs = refl
behind_append question v now (e ∷ es) fs = behind_append question v (marked_answer (mark_of question v e) now) es fs

pub all_ways : (question : Question) (v : ℕ) (flow : Flow) (es : List Event) (end : End) → Way flow es end → (a : Answers) (sets : Sets) (now : Bool) → Meets question v flow a sets → holds now a ≡ true
    → IsPossible sets end (answer_behind question v now es)
all_ways question v _ _ _ Idle a sets now meets h = subst (λ s. holds now s.behind ≡ true) (sym meets) h
all_ways question v _ _ _ (Happens event) a sets now meets h =
    subst (λ s. holds (marked_answer (mark_of question v event) now) s.behind ≡ true) (sym meets) (mark_holds (mark_of question v event) now a h)
all_ways question v _ _ _ (Comes w span) a sets now meets h = subst (λ s. HasUse s.uses w span now) (sym meets) (inl (refl, refl, h))
all_ways question v _ _ _ (Passes w span) a sets now meets h = subst (λ s. holds now s.behind ≡ true) (sym meets) h
all_ways question v _ _ _ (Parts span) a sets now meets h = subst (λ s. holds now s.behind ≡ true) (sym meets) h
all_ways question v _ _ _ (First x y es end way is) a sets now meets h =
    let answer : Bool = answer_behind question v now es in
    subst (λ s. IsPossible s end answer) (sym meets.4) (away_both end answer meets.0 meets.1 is (all_ways question v x es end way a meets.0 now meets.2 h))
all_ways question v _ _ _ (Both x y es fs end way next) a sets now meets h =
    let middle : Bool = answer_behind question v now es in
    let answer : Bool = answer_behind question v middle fs in
    subst (λ z. IsPossible sets end z) (sym (behind_append question v now es fs))
    (subst (λ s. IsPossible s end answer) (sym meets.4)
    (second_both end answer meets.0 meets.1 (all_ways question v y fs end next meets.0.behind meets.1 middle meets.3 (all_ways question v x es Next way a meets.0 now meets.2 h))))
all_ways question v _ _ _ (One x y es end way) a sets now meets h =
    let answer : Bool = answer_behind question v now es in
    subst (λ s. IsPossible s end answer) (sym meets.4) (one_beside end answer meets.0 meets.1 (all_ways question v x es end way a meets.0 now meets.2 h))
all_ways question v _ _ _ (Other x y es end way) a sets now meets h =
    let answer : Bool = answer_behind question v now es in
    subst (λ s. IsPossible s end answer) (sym meets.4) (other_beside end answer meets.0 meets.1 (all_ways question v y es end way a meets.1 now meets.3 h))
all_ways question v _ _ _ Breaks a sets now meets h = subst (λ s. holds now s.broke ≡ true) (sym meets) h
all_ways question v _ _ _ Continues a sets now meets h = subst (λ s. holds now s.continued ≡ true) (sym meets) h
all_ways question v _ _ _ (InHead head leaves body es end way is) a sets now meets h =
    let answer : Bool = answer_behind question v now es in
    let at : holds now meets.0 ≡ true = subst (λ s. holds now s ≡ true) (sym meets.5) (union_left now a (union meets.2.behind meets.2.continued) h) in
    subst (λ s. IsPossible s end answer) (sym meets.6) (away_around end answer leaves meets.1 meets.2 is (all_ways question v head es end way meets.0 meets.1 now meets.3 at))
all_ways question v _ _ _ (Ends head body es way) a sets now meets h =
    let answer : Bool = answer_behind question v now es in
    let at : holds now meets.0 ≡ true = subst (λ s. holds now s ≡ true) (sym meets.5) (union_left now a (union meets.2.behind meets.2.continued) h) in
    subst (λ s. holds answer s.behind ≡ true) (sym meets.6) (union_left answer meets.1.behind meets.2.broke (all_ways question v head es Next way meets.0 meets.1 now meets.3 at))
all_ways question v _ _ _ (Leaves head leaves body es fs way next) a sets now meets h =
    let middle : Bool = answer_behind question v now es in
    let answer : Bool = answer_behind question v middle fs in
    let at : holds now meets.0 ≡ true = subst (λ s. holds now s ≡ true) (sym meets.5) (union_left now a (union meets.2.behind meets.2.continued) h) in
    subst (λ z. holds z sets.behind ≡ true) (sym (behind_append question v now es fs))
    (subst (λ s. holds answer s.behind ≡ true) (sym meets.6)
    (union_right answer (possible_if leaves meets.1.behind) meets.2.broke
    (all_ways question v body fs Broke next meets.1.behind meets.2 middle meets.4 (all_ways question v head es Next way meets.0 meets.1 now meets.3 at))))
all_ways question v _ _ _ (InBody head leaves body es fs w span way next) a sets now meets h =
    let middle : Bool = answer_behind question v now es in
    let answer : Bool = answer_behind question v middle fs in
    let at : holds now meets.0 ≡ true = subst (λ s. holds now s ≡ true) (sym meets.5) (union_left now a (union meets.2.behind meets.2.continued) h) in
    subst (λ z. HasUse sets.uses w span z) (sym (behind_append question v now es fs))
    (subst (λ s. HasUse s.uses w span answer) (sym meets.6)
    (use_right meets.1.uses meets.2.uses w span answer
    (all_ways question v body fs (At w span) next meets.1.behind meets.2 middle meets.4 (all_ways question v head es Next way meets.0 meets.1 now meets.3 at))))
all_ways question v _ _ _ (Turns head leaves body es fs gs back end way next is more) a sets now meets h =
    let middle : Bool = answer_behind question v now es in
    let turned : Bool = answer_behind question v middle fs in
    let at : holds now meets.0 ≡ true = subst (λ s. holds now s ≡ true) (sym meets.5) (union_left now a (union meets.2.behind meets.2.continued) h) in
    let first : holds middle meets.1.behind ≡ true = all_ways question v head es Next way meets.0 meets.1 now meets.3 at in
    let second : IsPossible meets.2 back turned = all_ways question v body fs back next meets.1.behind meets.2 middle meets.4 first in
    let here : holds turned meets.0 ≡ true = subst (λ s. holds turned s ≡ true) (sym meets.5) (back_holds back turned a meets.2 is second) in
    let once : Meets question v (Loop head leaves body) meets.0 sets =
    (meets.0, meets.1, meets.2, meets.3, meets.4, again_same a (union meets.2.behind meets.2.continued) meets.0 meets.5, meets.6) in
    subst (λ z. IsPossible sets end z) (sym (behind_append question v now (es ++ fs) gs ∙ ap (λ z. answer_behind question v z gs) (behind_append question v now es fs)))
    (all_ways question v (Loop head leaves body) gs end more meets.0 sets turned once here)

pub leads_possible : (question : Question) (v : ℕ) (flow : Flow) (a : Answers) (sets : Sets) → Meets question v flow a sets → (end : End) (answer : Bool) → Leads question v flow a end answer → IsPossible sets end answer
leads_possible question v flow a sets meets end answer h =
    subst (λ z. IsPossible sets end z) h.4 (all_ways question v flow h.1 end h.3 a sets h.0 meets h.2)
