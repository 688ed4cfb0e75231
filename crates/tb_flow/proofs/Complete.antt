-- Each way is allowed by the summary of its piece.
use Rattle.std.proofs.Common.{◌≡◌, ◌∙◌, ◌⊎◌, ℕ, Bool, true, false, List, ◌++◌, ◌==◌, refl, ap, sym, subst, inl, inr}
use Rattle.std.proofs.lemmas.Bool.{eq-eqb, and_parts}
use Rattle.tb_perm.specs.declared.span.Span.{Span}
use Rattle.tb_flow.specs.declared.mark.Question.{Question}
use Rattle.tb_flow.specs.declared.mark.Mark.{Mark}
use Rattle.tb_flow.specs.declared.mark.Mark.TheVariants.{Kept, Yes, No}
use Rattle.tb_flow.specs.declared.mark.Marks.{Marks}
use Rattle.tb_flow.specs.declared.summary.Summary.{Summary}
use Rattle.tb_flow.specs.Flows.{Event, Flow, Then, Loop, End, Next, Broke, Continued, At, IsAway, IsBack, Way, Idle, Happens, Comes, Passes, Parts, First, Both, One, Other, Breaks, Continues, InHead, Ends, Leaves, InBody, Turns}
use Rattle.tb_flow.specs.Questions.{mark_of}
use Rattle.tb_flow.specs.Summaries.{no_marks, only, joined, followed, either_of, after, then_of, turned, at_head, in_body, ended, loop_of, use_of, summary_of}
use Rattle.tb_flow.proofs.Sets.{over, has, over_kept, has_none, has_only, has_left, has_right, joined_has, has_followed, followed_kept}
use Rattle.tb_flow.proofs.Places.{leq_refl, NotAfter, earlier_cases, where_parts}
use Rattle.tb_flow.proofs.Found.{Allows, allows_left, allows_right, allows_after, allows_away, away}
use Rattle.tb_flow.proofs.Effects.{effect, effect_append}

module _ (v : ℕ) (H : Summary) (leaves : Bool) (B : Summary) where
  abbrev M : Marks
  M = turned H B

  abbrev P : Summary
  P = record (at_head H B) { next = ended leaves (at_head H B).next }

  abbrev Q : Summary
  Q = record (in_body H B) { next = (in_body H B).broke; broke = no_marks; continued = no_marks }

  -- at the head, after no turn
  here : (m : Mark) → has m H.next ≡ true → has m (at_head H B).next ≡ true
  here m h = subst (λ x. has x (at_head H B).next ≡ true) (over_kept m) (has_followed M H.next Kept m refl h)

  head_allows : (end : End) (m : Mark) → Allows v H end m → Allows v (at_head H B) end m
  head_allows end m h = subst (λ x. Allows v (at_head H B) end x) (over_kept m) (allows_after v M H end Kept m refl h)

  first_allows : (end : End) (m : Mark) → IsAway end → Allows v (at_head H B) end m → Allows v P end m
  first_allows Next m is h = absurd is
  first_allows Broke m is h = h
  first_allows Continued m is h = h
  first_allows (At w span) Kept is h = h
  first_allows (At w span) Yes is h = h
  first_allows (At w span) No is h = h

  loop_in_head : (end : End) (m : Mark) → IsAway end → Allows v H end m → Allows v (loop_of H leaves B) end m
  unfolding loop_of
  loop_in_head end m is h = allows_left v P Q end m (first_allows end m is (head_allows end m h))

  loop_leaves : (i j : Mark) → has i H.next ≡ true → has j B.broke ≡ true → has (over i j) (loop_of H leaves B).next ≡ true
  unfolding loop_of either_of
  loop_leaves i j h k = has_right P.next Q.next (over i j) (has_followed (at_head H B).next B.broke i j (here i h) k)

  second_allows : (w : ℕ) (span : Span) (m : Mark) → Allows v (in_body H B) (At w span) m → Allows v Q (At w span) m
  second_allows w span Kept h = h
  second_allows w span Yes h = h
  second_allows w span No h = h

  loop_in_body : (w : ℕ) (span : Span) (i j : Mark) → has i H.next ≡ true → Allows v B (At w span) j → Allows v (loop_of H leaves B) (At w span) (over i j)
  unfolding loop_of
  loop_in_body w span i j h k =
      allows_right v P Q (At w span) (over i j) (second_allows w span (over i j) (allows_after v (at_head H B).next B (At w span) i j (here i h) k))

  -- what keeps the answer up to the head may come after a turn with any mark of one
  again_next : (t : Mark) → has t M ≡ true → has Kept (at_head H B).next ≡ true → has t (at_head H B).next ≡ true
  again_next t turn h = has_followed M H.next t Kept turn (followed_kept M H.next h)

  again_ended : (t : Mark) → has t M ≡ true → (b : Bool) → has Kept (ended b (at_head H B).next) ≡ true → has t (ended b (at_head H B).next) ≡ true
  again_ended t turn true h = again_next t turn h
  again_ended t turn false h = absurd (has_none Kept h)

  again_use : (w : ℕ) (span : Span) (t : Mark) → has t M ≡ true → w ≡ v → NotAfter P.kept_use span ⊎ NotAfter Q.kept_use span → Allows v (loop_of H leaves B) (At w span) t
  unfolding loop_of
  again_use w span t turn same (inl k) =
      allows_left v P Q (At w span) t (first_allows (At w span) t tt (allows_after v M H (At w span) t Kept turn (λ is. k)))
  again_use w span t turn same (inr k) =
      let l = where_parts (at_head H B).next.kept B.kept_use span k in
      allows_right v P Q (At w span) t (second_allows w span t (allows_after v (at_head H B).next B (At w span) t Kept (again_next t turn l.0) (λ is. l.1)))

  again_at : (w : ℕ) (span : Span) (t : Mark) → has t M ≡ true → (w ≡ v → NotAfter (loop_of H leaves B).kept_use span) → Allows v (loop_of H leaves B) (At w span) t
  unfolding loop_of either_of
  again_at w span Kept turn h = h
  again_at w span Yes turn h = λ same. again_use w span Yes turn same (earlier_cases P.kept_use Q.kept_use span (h same)) same
  again_at w span No turn h = tt

  again_kept : (end : End) (t : Mark) → has t M ≡ true → Allows v (loop_of H leaves B) end Kept → Allows v (loop_of H leaves B) end t
  unfolding loop_of either_of
  again_kept Next t turn h =
      elim (joined_has P.next Q.next Kept h) [
        | inl k ↦ has_left P.next Q.next t (again_ended t turn leaves k)
        | inr k ↦
            let l = and_parts (at_head H B).next.kept B.broke.kept k in
            has_right P.next Q.next t (has_followed (at_head H B).next B.broke t Kept (again_next t turn l.0) l.1)
      ]
  again_kept Broke t turn h =
      elim (joined_has P.broke Q.broke Kept h) [
        | inl k ↦ has_left P.broke Q.broke t (has_followed M H.broke t Kept turn (followed_kept M H.broke k))
        | inr k ↦ absurd (has_none Kept k)
      ]
  again_kept Continued t turn h =
      elim (joined_has P.continued Q.continued Kept h) [
        | inl k ↦ has_left P.continued Q.continued t (has_followed M H.continued t Kept turn (followed_kept M H.continued k))
        | inr k ↦ absurd (has_none Kept k)
      ]
  again_kept (At w span) t turn h = again_at w span t turn h

  again : (end : End) (t m : Mark) → has t M ≡ true → Allows v (loop_of H leaves B) end m → Allows v (loop_of H leaves B) end (over t m)
  again end t Kept turn h = again_kept end t turn h
  again end t Yes turn h = h
  again end t No turn h = h

  pub back_has : (back : End) (j : Mark) → IsBack back → Allows v B back j → has j (joined B.next B.continued) ≡ true
  back_has Next j is h = has_left B.next B.continued j h
  back_has Continued j is h = has_right B.next B.continued j h
  back_has Broke j is h = absurd is
  back_has (At w span) j is h = absurd is

  loop_turns : (back end : End) (i j m : Mark) → IsBack back → has i H.next ≡ true → Allows v B back j → Allows v (loop_of H leaves B) end m → Allows v (loop_of H leaves B) end (over (over i j) m)
  loop_turns back end i j m is h k l =
      again end (over i j) m (has_right (only Kept) (followed H.next (joined B.next B.continued)) (over i j) (has_followed H.next (joined B.next B.continued) i j h (back_has back j is k))) l

loop_ends : (H B : Summary) (m : Mark) → has m H.next ≡ true → has m (loop_of H true B).next ≡ true
unfolding loop_of either_of
loop_ends H B m h = has_left (at_head H B).next (in_body H B).broke m (here 0 H true B m h)

passes : (b : Bool) (span : Span) → has Kept (use_of b span).next ≡ true
passes true span = refl
passes false span = refl

comes : (v w : ℕ) (span : Span) → w ≡ v → NotAfter (use_of (w == v) span).kept_use span
comes v w span same = subst (λ b. NotAfter (use_of b span).kept_use span) (sym (eq-eqb w v same)) (leq_refl span)

pub complete : (question : Question) (v : ℕ) (flow : Flow) (es : List Event) (end : End) → Way flow es end → Allows v (summary_of question v flow) end (effect question v es)
unfolding then_of
complete question v _ _ _ Idle = refl
complete question v _ _ _ (Happens event) = has_only (mark_of question v event)
complete question v _ _ _ (Comes w span) = comes v w span
complete question v _ _ _ (Passes w span) = passes (w == v) span
complete question v _ _ _ (Parts span) = refl
complete question v _ _ _ (First a b es end way is) =
    let A : Summary = summary_of question v a in
    let C : Summary = summary_of question v b in
    allows_left v (away A) (after A.next C) end (effect question v es) (allows_away v A end (effect question v es) is (complete question v a es end way))
complete question v _ _ _ (Both a b es fs end way next) =
    let A : Summary = summary_of question v a in
    let C : Summary = summary_of question v b in
    subst (λ m. Allows v (summary_of question v (Then a b)) end m) (sym (effect_append question v es fs))
    (allows_right v (away A) (after A.next C) end (over (effect question v es) (effect question v fs))
    (allows_after v A.next C end (effect question v es) (effect question v fs) (complete question v a es Next way) (complete question v b fs end next)))
complete question v _ _ _ (One a b es end way) =
    allows_left v (summary_of question v a) (summary_of question v b) end (effect question v es) (complete question v a es end way)
complete question v _ _ _ (Other a b es end way) =
    allows_right v (summary_of question v a) (summary_of question v b) end (effect question v es) (complete question v b es end way)
complete question v _ _ _ Breaks = refl
complete question v _ _ _ Continues = refl
complete question v _ _ _ (InHead head leaves body es end way is) =
    loop_in_head v (summary_of question v head) leaves (summary_of question v body) end (effect question v es) is (complete question v head es end way)
complete question v _ _ _ (Ends head body es way) =
    loop_ends (summary_of question v head) (summary_of question v body) (effect question v es) (complete question v head es Next way)
complete question v _ _ _ (Leaves head leaves body es fs way next) =
    subst (λ m. Allows v (summary_of question v (Loop head leaves body)) Next m) (sym (effect_append question v es fs))
    (loop_leaves v (summary_of question v head) leaves (summary_of question v body) (effect question v es) (effect question v fs) (complete question v head es Next way) (complete question v body fs Broke next))
complete question v _ _ _ (InBody head leaves body es fs w span way next) =
    subst (λ m. Allows v (summary_of question v (Loop head leaves body)) (At w span) m) (sym (effect_append question v es fs))
    (loop_in_body v (summary_of question v head) leaves (summary_of question v body) w span (effect question v es) (effect question v fs) (complete question v head es Next way) (complete question v body fs (At w span) next))
complete question v _ _ _ (Turns head leaves body es fs gs back end way next is more) =
    let twice : effect question v ((es ++ fs) ++ gs) ≡ over (over (effect question v es) (effect question v fs)) (effect question v gs) =
    effect_append question v (es ++ fs) gs ∙ ap (λ m. over m (effect question v gs)) (effect_append question v es fs) in
    subst (λ m. Allows v (summary_of question v (Loop head leaves body)) end m) (sym twice)
    (loop_turns v (summary_of question v head) leaves (summary_of question v body) back end (effect question v es) (effect question v fs) (effect question v gs) is
    (complete question v head es Next way) (complete question v body fs back next) (complete question v (Loop head leaves body) gs end more))
