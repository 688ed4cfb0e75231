-- Some sets that meet the equations have no other answers than those of ways.
use Rattle.std.proofs.Common.{◌≡◌, ◌∙◌, ◌&&◌, ◌||◌, ℕ, Bool, true, false, List, [], ◌∷◌, ◌++◌, refl, ap, sym, subst, inl, inr}
use Rattle.std.proofs.lemmas.Bool.{and_from, and_parts, or_left, or_right, or_cases, false≢true}
use Rattle.tb_perm.specs.declared.span.Span.{Span}
use Rattle.tb_flow.specs.declared.mark.Question.{Question}
use Rattle.tb_flow.specs.declared.mark.Mark.{Mark}
use Rattle.tb_flow.specs.declared.mark.Mark.TheVariants.{Kept, Yes, No}
use Rattle.tb_flow.specs.declared.mark.Marks.{Marks}
use Rattle.tb_flow.specs.declared.summary.Summary.{Summary}
use Rattle.tb_flow.specs.Flows.{Event, Flow, Nothing, Does, Uses, Part, Then, Either, Loop, Break, Continue, Stop, End, Next, Broke, Continued, At, IsAway, IsBack, Way, Idle, Happens, Comes, Passes, Parts, First, Both, One, Other, Breaks, Continues, InHead, Ends, Leaves, InBody}
use Rattle.tb_flow.specs.Questions.{mark_of, marked_answer, answer_behind}
use Rattle.tb_flow.specs.Summaries.{only, joined, followed, turned, summary_of}
use Rattle.tb_flow.specs.Equations.{Answers, no_answer, holds, union, possible_if, behind_mark, Sets, passing, Meets, IsPossible, Leads}
use Rattle.tb_flow.proofs.Sets.{over, has, has_right, only_is, joined_has, has_followed, followed_has}
use Rattle.tb_flow.proofs.Effects.{effect, answer_effect, answer_over}
use Rattle.tb_flow.proofs.Sound.{sound, backs, rounds}
use Rattle.tb_flow.proofs.Complete.{complete, back_has}
use Rattle.tb_flow.proofs.AllWays.{union_left, union_cases, none_holds, same_answers, use_cases, both, beside, around, back_holds, behind_append, all_ways}

-- they have no others
abbrev pub Only : Question → ℕ → Flow → Answers → Sets → Type 0
Only question v flow a sets = (end : End) (x : Bool) → IsPossible sets end x → Leads question v flow a end x

abbrev pub Solved : Question → ℕ → Flow → Answers → Type 0
Solved question v flow a = (sets : Sets) × Meets question v flow a sets × Only question v flow a sets

only_passing : (question : Question) (v : ℕ) (flow : Flow) (a b : Answers) → ((x : Bool) → holds x b ≡ true → Leads question v flow a Next x) → Only question v flow a (passing b)
only_passing question v flow a b next Next x h = next x h
only_passing question v flow a b next Broke x h = absurd (none_holds x h)
only_passing question v flow a b next Continued x h = absurd (none_holds x h)
only_passing question v flow a b next (At w span) x h = absurd h

mark_from : (m : Mark) (x : Bool) (a : Answers) → holds x (behind_mark m a) ≡ true → (now : Bool) × (holds now a ≡ true) × (marked_answer m now ≡ x)
mark_from Kept x a h = (x, h, refl)
mark_from Yes true a h = elim (or_cases a.is_yes a.is_no h) [ inl k ↦ (true, k, refl) | inr k ↦ (false, k, refl) ]
mark_from Yes false a h = absurd (false≢true h)
mark_from No true a h = absurd (false≢true h)
mark_from No false a h = elim (or_cases a.is_yes a.is_no h) [ inl k ↦ (true, k, refl) | inr k ↦ (false, k, refl) ]

only_does : (question : Question) (v : ℕ) (event : Event) (a : Answers) → Only question v (Does event) a (passing (behind_mark (mark_of question v event) a))
only_does question v event a =
    only_passing question v (Does event) a (behind_mark (mark_of question v event) a)
    (λ x h. let k = mark_from (mark_of question v event) x a h in (k.0, event ∷ [], k.1, Happens event, k.2))

only_uses : (question : Question) (v w : ℕ) (span : Span) (a : Answers) → Only question v (Uses w span) a (record (passing a) { uses = record { variable = w; span = span; answers = a } ∷ [] })
only_uses question v w span a Next x h = (x, [], h, Passes w span, refl)
only_uses question v w span a Broke x h = absurd (none_holds x h)
only_uses question v w span a Continued x h = absurd (none_holds x h)
only_uses question v w span a (At u s) x (inl h) =
    let comes : Way (Uses w span) [] (At u span) = subst (λ y. Way (Uses w span) [] (At y span)) h.0 (Comes w span) in
    (x, [], h.2, subst (λ y. Way (Uses w span) [] (At u y)) h.1 comes, refl)
only_uses question v w span a (At u s) x (inr h) = absurd h

only_break : (question : Question) (v : ℕ) (a : Answers) → Only question v Break a (record (passing no_answer) { broke = a })
only_break question v a Next x h = absurd (none_holds x h)
only_break question v a Broke x h = (x, [], h, Breaks, refl)
only_break question v a Continued x h = absurd (none_holds x h)
only_break question v a (At w span) x h = absurd h

only_continue : (question : Question) (v : ℕ) (a : Answers) → Only question v Continue a (record (passing no_answer) { continued = a })
only_continue question v a Next x h = absurd (none_holds x h)
only_continue question v a Broke x h = absurd (none_holds x h)
only_continue question v a Continued x h = (x, [], h, Continues, refl)
only_continue question v a (At w span) x h = absurd h

module _ (question : Question) (v : ℕ) (x y : Flow) (a : Answers) (first second : Sets) (one : Only question v x a first) where
  lead_first : (end : End) (z : Bool) → IsAway end → IsPossible first end z → Leads question v (Then x y) a end z
  lead_first end z is h = let l = one end z h in (l.0, l.1, l.2, First x y l.1 end l.3 is, l.4)

  lead_both : (end : End) (z : Bool) → Leads question v y first.behind end z → Leads question v (Then x y) a end z
  lead_both end z h =
      let l = one Next h.0 h.2 in
      (l.0, l.1 ++ h.1, l.2, Both x y l.1 h.1 end l.3 h.3, behind_append question v l.0 l.1 h.1 ∙ ap (λ b. answer_behind question v b h.1) l.4 ∙ h.4)

  only_both : Only question v y first.behind second → Only question v (Then x y) a (both first second)
  only_both two Next z h = lead_both Next z (two Next z h)
  only_both two Broke z h = elim (union_cases z first.broke second.broke h) [ inl k ↦ lead_first Broke z tt k | inr k ↦ lead_both Broke z (two Broke z k) ]
  only_both two Continued z h = elim (union_cases z first.continued second.continued h) [ inl k ↦ lead_first Continued z tt k | inr k ↦ lead_both Continued z (two Continued z k) ]
  only_both two (At w span) z h = elim (use_cases first.uses second.uses w span z h) [ inl k ↦ lead_first (At w span) z tt k | inr k ↦ lead_both (At w span) z (two (At w span) z k) ]

  lead_one : (end : End) (z : Bool) → IsPossible first end z → Leads question v (Either x y) a end z
  lead_one end z h = let l = one end z h in (l.0, l.1, l.2, One x y l.1 end l.3, l.4)

  lead_other : Only question v y a second → (end : End) (z : Bool) → IsPossible second end z → Leads question v (Either x y) a end z
  lead_other two end z h = let l = two end z h in (l.0, l.1, l.2, Other x y l.1 end l.3, l.4)

  only_beside : Only question v y a second → Only question v (Either x y) a (beside first second)
  only_beside two Next z h = elim (union_cases z first.behind second.behind h) [ inl k ↦ lead_one Next z k | inr k ↦ lead_other two Next z k ]
  only_beside two Broke z h = elim (union_cases z first.broke second.broke h) [ inl k ↦ lead_one Broke z k | inr k ↦ lead_other two Broke z k ]
  only_beside two Continued z h = elim (union_cases z first.continued second.continued h) [ inl k ↦ lead_one Continued z k | inr k ↦ lead_other two Continued z k ]
  only_beside two (At w span) z h = elim (use_cases first.uses second.uses w span z h) [ inl k ↦ lead_one (At w span) z k | inr k ↦ lead_other two (At w span) z k ]

-- what is possible behind ways with these marks
abbrev possible : Marks → Answers → Answers
possible m a = record { is_yes = (m.kept && a.is_yes) || (m.yes && (a.is_yes || a.is_no)); is_no = (m.kept && a.is_no) || (m.no && (a.is_yes || a.is_no)) }

some_holds : (x : Bool) (a : Answers) → holds x a ≡ true → (a.is_yes || a.is_no) ≡ true
some_holds true a h = or_left a.is_yes a.is_no h
some_holds false a h = or_right a.is_yes a.is_no h

possible_has : (m : Marks) (a : Answers) (k : Mark) (now : Bool) → has k m ≡ true → holds now a ≡ true → holds (marked_answer k now) (possible m a) ≡ true
possible_has m a Kept true h l = or_left (m.kept && a.is_yes) (m.yes && (a.is_yes || a.is_no)) (and_from m.kept a.is_yes h l)
possible_has m a Kept false h l = or_left (m.kept && a.is_no) (m.no && (a.is_yes || a.is_no)) (and_from m.kept a.is_no h l)
possible_has m a Yes now h l = or_right (m.kept && a.is_yes) (m.yes && (a.is_yes || a.is_no)) (and_from m.yes (a.is_yes || a.is_no) h (some_holds now a l))
possible_has m a No now h l = or_right (m.kept && a.is_no) (m.no && (a.is_yes || a.is_no)) (and_from m.no (a.is_yes || a.is_no) h (some_holds now a l))

abbrev Possible : Marks → Answers → Bool → Type 0
Possible m a x = (now : Bool) × (k : Mark) × (holds now a ≡ true) × (has k m ≡ true) × (marked_answer k now ≡ x)

possible_from : (m : Marks) (a : Answers) (x : Bool) → holds x (possible m a) ≡ true → Possible m a x
possible_from m a true h =
    elim (or_cases (m.kept && a.is_yes) (m.yes && (a.is_yes || a.is_no)) h) [
      | inl k ↦ let p = and_parts m.kept a.is_yes k in (true, Kept, p.1, p.0, refl)
      | inr k ↦ let p = and_parts m.yes (a.is_yes || a.is_no) k in elim (or_cases a.is_yes a.is_no p.1) [ inl l ↦ (true, Yes, l, p.0, refl) | inr l ↦ (false, Yes, l, p.0, refl) ]
    ]
possible_from m a false h =
    elim (or_cases (m.kept && a.is_no) (m.no && (a.is_yes || a.is_no)) h) [
      | inl k ↦ let p = and_parts m.kept a.is_no k in (false, Kept, p.1, p.0, refl)
      | inr k ↦ let p = and_parts m.no (a.is_yes || a.is_no) k in elim (or_cases a.is_yes a.is_no p.1) [ inl l ↦ (true, No, l, p.0, refl) | inr l ↦ (false, No, l, p.0, refl) ]
    ]

module _ (question : Question) (v : ℕ) (head : Flow) (leaves : Bool) (body : Flow) (a : Answers) where
  abbrev H : Summary
  H = summary_of question v head

  abbrev B : Summary
  B = summary_of question v body

  abbrev T : Marks
  T = turned H B

  -- what is possible at the head
  abbrev top : Answers
  top = possible T a

  -- marks of some turns, and then of one more
  one_more : (m t : Mark) → has m T ≡ true → has t (followed H.next (joined B.next B.continued)) ≡ true → has (over m t) T ≡ true
  one_more m Kept h k = h
  one_more m Yes h k = has_right (only Kept) (followed H.next (joined B.next B.continued)) Yes k
  one_more m No h k = has_right (only Kept) (followed H.next (joined B.next B.continued)) No k

  module _ (first second : Sets) (meets_head : Meets question v head top first) (only_head : Only question v head top first)
      (meets_body : Meets question v body first.behind second) (only_body : Only question v body first.behind second) where
    head_to : (x : Bool) → holds x top ≡ true → holds x (union a (union second.behind second.continued)) ≡ true
    head_to x h =
        let p = possible_from T a x h in
        elim (joined_has (only Kept) (followed H.next (joined B.next B.continued)) p.1 p.3) [
          | inl k ↦
              let kept : marked_answer p.1 p.0 ≡ p.0 = ap (λ m. marked_answer m p.0) (only_is p.1 Kept k) in
              subst (λ z. holds z (union a (union second.behind second.continued)) ≡ true) (sym kept ∙ p.4) (union_left p.0 a (union second.behind second.continued) p.2)
          | inr k ↦
              let l = followed_has H.next (joined B.next B.continued) p.1 k in
              let r = sound question v head Next l.0 l.2 in
              let s = backs question v head leaves body (sound question v head) (sound question v body) l.1 l.3 in
              let t = s.2 in
              let start : holds p.0 top ≡ true = possible_has T a Kept p.0 refl p.2 in
              let middle = all_ways question v head r.0 Next r.1 top first p.0 meets_head start in
              let end = all_ways question v body t.0 s.0 t.1 first.behind second (answer_behind question v p.0 r.0) meets_body middle in
              let same : answer_behind question v (answer_behind question v p.0 r.0) t.0 ≡ x =
              answer_effect question v (answer_behind question v p.0 r.0) t.0
              ∙ ap (λ m. marked_answer m (answer_behind question v p.0 r.0)) t.2
              ∙ ap (λ z. marked_answer l.1 z) (answer_effect question v p.0 r.0 ∙ ap (λ m. marked_answer m p.0) r.2)
              ∙ answer_over l.0 l.1 p.0
              ∙ ap (λ m. marked_answer m p.0) l.4
              ∙ p.4 in
              subst (λ z. holds z (union a (union second.behind second.continued)) ≡ true) same (back_holds s.0 (answer_behind question v (answer_behind question v p.0 r.0) t.0) a second s.1 end)
        ]

    turn_back : (back : End) (x : Bool) → IsBack back → IsPossible second back x → holds x top ≡ true
    turn_back back x is h =
        let l = only_body back x h in
        let r = only_head Next l.0 l.2 in
        let p = possible_from T a r.0 r.2 in
        let i : Mark = effect question v r.1 in
        let j : Mark = effect question v l.1 in
        let turn : has (over i j) (followed H.next (joined B.next B.continued)) ≡ true =
        has_followed H.next (joined B.next B.continued) i j (complete question v head r.1 Next r.3) (back_has v H leaves B back j is (complete question v body l.1 back l.3)) in
        let same : marked_answer (over p.1 (over i j)) p.0 ≡ x =
        sym (answer_over p.1 (over i j) p.0)
        ∙ ap (λ z. marked_answer (over i j) z) p.4
        ∙ sym (answer_over i j r.0)
        ∙ ap (λ z. marked_answer j z) (sym (answer_effect question v r.0 r.1) ∙ r.4)
        ∙ sym (answer_effect question v l.0 l.1)
        ∙ l.4 in
        subst (λ z. holds z top ≡ true) same (possible_has T a (over p.1 (over i j)) p.0 (one_more p.1 (over i j) p.3 turn) p.2)

    head_from : (x : Bool) → holds x (union a (union second.behind second.continued)) ≡ true → holds x top ≡ true
    head_from x h =
        elim (union_cases x a (union second.behind second.continued) h) [
          | inl k ↦ possible_has T a Kept x refl k
          | inr k ↦ elim (union_cases x second.behind second.continued k) [ inl l ↦ turn_back Next x tt l | inr l ↦ turn_back Continued x tt l ]
        ]

    head_equation : top ≡ union a (union second.behind second.continued)
    head_equation = same_answers top (union a (union second.behind second.continued)) head_to head_from

    -- turns, and then the rest of a way
    lead_turns : (now : Bool) (es : List Event) (end : End) (x : Bool) → holds now top ≡ true → Way (Loop head leaves body) es end → answer_behind question v now es ≡ x → Leads question v (Loop head leaves body) a end x
    lead_turns now es end x h way is =
        let p = possible_from T a now h in
        let r = rounds question v head leaves body (sound question v head) (sound question v body) p.1 p.3 in
        let turned_to : answer_behind question v p.0 r.0 ≡ now = answer_effect question v p.0 r.0 ∙ ap (λ m. marked_answer m p.0) r.2 ∙ p.4 in
        (p.0, r.0 ++ es, p.2, r.1 es end way, behind_append question v p.0 r.0 es ∙ ap (λ z. answer_behind question v z es) turned_to ∙ is)

    lead_head : (end : End) (x : Bool) → IsAway end → IsPossible first end x → Leads question v (Loop head leaves body) a end x
    lead_head end x is h = let l = only_head end x h in lead_turns l.0 l.1 end x l.2 (InHead head leaves body l.1 end l.3 is) l.4

    lead_ended : (b : Bool) → leaves ≡ b → (x : Bool) → holds x (possible_if b first.behind) ≡ true → Leads question v (Loop head leaves body) a Next x
    lead_ended true is x h =
        let l = only_head Next x h in
        lead_turns l.0 l.1 Next x l.2 (subst (λ b. Way (Loop head b body) l.1 Next) (sym is) (Ends head body l.1 l.3)) l.4
    lead_ended false is x h = absurd (none_holds x h)

    lead_broke : (x : Bool) → IsPossible second Broke x → Leads question v (Loop head leaves body) a Next x
    lead_broke x h =
        let l = only_body Broke x h in
        let r = only_head Next l.0 l.2 in
        lead_turns r.0 (r.1 ++ l.1) Next x r.2 (Leaves head leaves body r.1 l.1 r.3 l.3) (behind_append question v r.0 r.1 l.1 ∙ ap (λ z. answer_behind question v z l.1) r.4 ∙ l.4)

    lead_use : (w : ℕ) (span : Span) (x : Bool) → IsPossible second (At w span) x → Leads question v (Loop head leaves body) a (At w span) x
    lead_use w span x h =
        let l = only_body (At w span) x h in
        let r = only_head Next l.0 l.2 in
        lead_turns r.0 (r.1 ++ l.1) (At w span) x r.2 (InBody head leaves body r.1 l.1 w span r.3 l.3) (behind_append question v r.0 r.1 l.1 ∙ ap (λ z. answer_behind question v z l.1) r.4 ∙ l.4)

    only_around : Only question v (Loop head leaves body) a (around leaves first second)
    only_around Next x h = elim (union_cases x (possible_if leaves first.behind) second.broke h) [ inl k ↦ lead_ended leaves refl x k | inr k ↦ lead_broke x k ]
    only_around Broke x h = lead_head Broke x tt h
    only_around Continued x h = lead_head Continued x tt h
    only_around (At w span) x h = elim (use_cases first.uses second.uses w span x h) [ inl k ↦ lead_head (At w span) x tt k | inr k ↦ lead_use w span x k ]

    solved_loop : Solved question v (Loop head leaves body) a
    solved_loop = (around leaves first second, (top, first, second, meets_head, meets_body, head_equation, refl), only_around)

pub solve : (question : Question) (v : ℕ) (flow : Flow) (a : Answers) → Solved question v flow a
solve question v Nothing a = (passing a, refl, only_passing question v Nothing a a (λ x h. (x, [], h, Idle, refl)))
solve question v (Does event) a = (passing (behind_mark (mark_of question v event) a), refl, only_does question v event a)
solve question v (Uses w span) a = (record (passing a) { uses = record { variable = w; span = span; answers = a } ∷ [] }, refl, only_uses question v w span a)
solve question v (Part span) a = (passing a, refl, only_passing question v (Part span) a a (λ x h. (x, [], h, Parts span, refl)))
solve question v (Then x y) a =
    let one = solve question v x a in
    let two = solve question v y one.0.behind in
    (both one.0 two.0, (one.0, two.0, one.1, two.1, refl), only_both question v x y a one.0 two.0 one.2 two.2)
solve question v (Either x y) a =
    let one = solve question v x a in
    let two = solve question v y a in
    (beside one.0 two.0, (one.0, two.0, one.1, two.1, refl), only_beside question v x y a one.0 two.0 one.2 two.2)
solve question v (Loop head leaves body) a =
    let one = solve question v head (top question v head leaves body a) in
    let two = solve question v body one.0.behind in
    solved_loop question v head leaves body a one.0 two.0 one.1 one.2 two.1 two.2
solve question v Break a = (record (passing no_answer) { broke = a }, refl, only_break question v a)
solve question v Continue a = (record (passing no_answer) { continued = a }, refl, only_continue question v a)
solve question v Stop a = (passing no_answer, refl, only_passing question v Stop a no_answer (λ x h. absurd (none_holds x h)))
