-- What a summary says stands: there are ways that are so.
use Rattle.std.proofs.Common.{◌≡◌, ◌∙◌, ℕ, Bool, true, false, List, [], ◌∷◌, ◌++◌, Some, None, ◌==◌, append_assoc, refl, ap, sym, subst, inl, inr}
use Rattle.std.proofs.lemmas.Bool.{eqb-true}
use Rattle.tb_perm.specs.declared.span.Span.{Span}
use Rattle.tb_flow.specs.declared.mark.Question.{Question}
use Rattle.tb_flow.specs.declared.mark.Mark.{Mark}
use Rattle.tb_flow.specs.declared.mark.Mark.TheVariants.{Kept, Yes, No}
use Rattle.tb_flow.specs.declared.summary.Summary.{Summary}
use Rattle.tb_flow.specs.Flows.{Event, Flow, Nothing, Does, Uses, Part, Then, Either, Loop, Break, Continue, Stop, End, Next, Broke, Continued, At, IsAway, IsBack, Way, Idle, Happens, Comes, Passes, Parts, First, Both, One, Other, Breaks, Continues, InHead, Ends, Leaves, InBody, Turns}
use Rattle.tb_flow.specs.Questions.{mark_of}
use Rattle.tb_flow.specs.Summaries.{no_marks, only, joined, followed, used, part_moved, breaking, continuing, stopping, either_of, after, then_of, turned, at_head, in_body, ended, loop_of, use_of, summary_of}
use Rattle.tb_flow.proofs.Sets.{over, has, has_none, only_is, joined_has, followed_has}
use Rattle.tb_flow.proofs.Found.{Found, found_marked, found_either, found_after, found_away, away}
use Rattle.tb_flow.proofs.Effects.{effect, effect_append, Reaches}

-- two ways, one after the other
both_effect : (question : Question) (v : ℕ) (es fs : List Event) (i j m : Mark) → effect question v es ≡ i → effect question v fs ≡ j → over i j ≡ m → effect question v (es ++ fs) ≡ m
both_effect question v es fs i j m first second whole =
    effect_append question v es fs ∙ ap (λ x. over x (effect question v fs)) first ∙ ap (λ x. over i x) second ∙ whole

found_used : (question : Question) (v w : ℕ) (span : Span) (end : End) (m : Mark) → w ≡ v → Found v (used span) end m → Reaches question v (Uses w span) end m
found_used question v w span Next m same h = ([], Passes w span, sym (only_is m Kept h))
found_used question v w span Broke m same h = absurd (has_none m h)
found_used question v w span Continued m same h = absurd (has_none m h)
found_used question v w span (At u s) Kept same h =
    let here : span ≡ s = cc in
    let comes : Way (Uses w span) [] (At u span) = subst (λ x. Way (Uses w span) [] (At x span)) (same ∙ sym h.0) (Comes w span) in
    ([], subst (λ x. Way (Uses w span) [] (At u x)) here comes, refl)
found_used question v w span (At u s) Yes same h = let none : None ≡ Some s = h.1 in absurd cc
found_used question v w span (At u s) No same h = absurd h

found_uses : (question : Question) (v w : ℕ) (span : Span) (end : End) (m : Mark) → Found v (use_of (w == v) span) end m → Reaches question v (Uses w span) end m
found_uses question v w span end m = at (w == v) refl
  where
    at : (b : Bool) → (w == v) ≡ b → Found v (use_of b span) end m → Reaches question v (Uses w span) end m
    at true is h = found_used question v w span end m (eqb-true w v is) h
    at false is h = found_marked v Kept (λ e n. Reaches question v (Uses w span) e n) ([], Passes w span, refl) end m h

found_part : (question : Question) (v : ℕ) (span : Span) (end : End) (m : Mark) → Found v (part_moved span) end m → Reaches question v (Part span) end m
found_part question v span Next m h = ([], Parts span, sym (only_is m Kept h))
found_part question v span Broke m h = absurd (has_none m h)
found_part question v span Continued m h = absurd (has_none m h)
found_part question v span (At u s) Kept h = let none : None ≡ Some s = h.1 in absurd cc
found_part question v span (At u s) Yes h = let none : None ≡ Some s = h.1 in absurd cc
found_part question v span (At u s) No h = absurd h

found_break : (question : Question) (v : ℕ) (end : End) (m : Mark) → Found v breaking end m → Reaches question v Break end m
found_break question v Next m h = absurd (has_none m h)
found_break question v Broke m h = ([], Breaks, sym (only_is m Kept h))
found_break question v Continued m h = absurd (has_none m h)
found_break question v (At u s) Kept h = let none : None ≡ Some s = h.1 in absurd cc
found_break question v (At u s) Yes h = let none : None ≡ Some s = h.1 in absurd cc
found_break question v (At u s) No h = absurd h

found_continue : (question : Question) (v : ℕ) (end : End) (m : Mark) → Found v continuing end m → Reaches question v Continue end m
found_continue question v Next m h = absurd (has_none m h)
found_continue question v Broke m h = absurd (has_none m h)
found_continue question v Continued m h = ([], Continues, sym (only_is m Kept h))
found_continue question v (At u s) Kept h = let none : None ≡ Some s = h.1 in absurd cc
found_continue question v (At u s) Yes h = let none : None ≡ Some s = h.1 in absurd cc
found_continue question v (At u s) No h = absurd h

found_stop : (question : Question) (v : ℕ) (end : End) (m : Mark) → Found v stopping end m → Reaches question v Stop end m
found_stop question v Next m h = absurd (has_none m h)
found_stop question v Broke m h = absurd (has_none m h)
found_stop question v Continued m h = absurd (has_none m h)
found_stop question v (At u s) Kept h = let none : None ≡ Some s = h.1 in absurd cc
found_stop question v (At u s) Yes h = let none : None ≡ Some s = h.1 in absurd cc
found_stop question v (At u s) No h = absurd h

-- three ways, one after the other
three_effect : (question : Question) (v : ℕ) (es fs gs : List Event) (i j m : Mark) → effect question v (es ++ fs) ≡ i → effect question v gs ≡ j → over i j ≡ m → effect question v (es ++ (fs ++ gs)) ≡ m
three_effect question v es fs gs i j m first second whole =
    ap (λ x. effect question v x) (sym (append_assoc es fs gs)) ∙ both_effect question v (es ++ fs) gs i j m first second whole

module _ (question : Question) (v : ℕ) (a b : Flow)
    (first : (end : End) (m : Mark) → Found v (summary_of question v a) end m → Reaches question v a end m)
    (second : (end : End) (m : Mark) → Found v (summary_of question v b) end m → Reaches question v b end m) where
  found_then : (end : End) (m : Mark) → Found v (then_of (summary_of question v a) (summary_of question v b)) end m → Reaches question v (Then a b) end m
  unfolding then_of
  found_then end m h =
      elim (found_either v (away (summary_of question v a)) (after (summary_of question v a).next (summary_of question v b)) end m h) [
        | inl k ↦
            let l = found_away v (summary_of question v a) end m k in
            let r = first end m l.1 in
            (r.0, First a b r.0 end r.1 l.0, r.2)
        | inr k ↦
            let l = found_after v (summary_of question v a).next (summary_of question v b) end m k in
            let r = first Next l.0 l.2 in
            let s = second end l.1 l.3 in
            (r.0 ++ s.0, Both a b r.0 s.0 end r.1 s.1, both_effect question v r.0 s.0 l.0 l.1 m r.2 s.2 l.4)
      ]

  found_one : (end : End) (m : Mark) → Found v (either_of (summary_of question v a) (summary_of question v b)) end m → Reaches question v (Either a b) end m
  found_one end m h =
      elim (found_either v (summary_of question v a) (summary_of question v b) end m h) [
        | inl k ↦ let r = first end m k in (r.0, One a b r.0 end r.1, r.2)
        | inr k ↦ let r = second end m k in (r.0, Other a b r.0 end r.1, r.2)
      ]

module _ (question : Question) (v : ℕ) (head : Flow) (leaves : Bool) (body : Flow)
    (heads : (end : End) (m : Mark) → Found v (summary_of question v head) end m → Reaches question v head end m)
    (bodies : (end : End) (m : Mark) → Found v (summary_of question v body) end m → Reaches question v body end m) where
  abbrev H : Summary
  H = summary_of question v head

  abbrev B : Summary
  B = summary_of question v body

  -- some turns, which may be none
  abbrev Rounds : Mark → Type 0
  Rounds m = (es : List Event) × ((gs : List Event) (end : End) → Way (Loop head leaves body) gs end → Way (Loop head leaves body) (es ++ gs) end) × (effect question v es ≡ m)

  pub backs : (j : Mark) → has j (joined B.next B.continued) ≡ true → (back : End) × IsBack back × Reaches question v body back j
  backs j h =
      elim (joined_has B.next B.continued j h) [
        | inl k ↦ (Next, tt, bodies Next j k)
        | inr k ↦ (Continued, tt, bodies Continued j k)
      ]

  pub rounds : (m : Mark) → has m (turned H B) ≡ true → Rounds m
  rounds m h =
      elim (joined_has (only Kept) (followed H.next (joined B.next B.continued)) m h) [
        | inl k ↦ ([], λ gs end way. way, sym (only_is m Kept k))
        | inr k ↦
            let l = followed_has H.next (joined B.next B.continued) m k in
            let r = heads Next l.0 l.2 in
            let s = backs l.1 l.3 in
            let t = s.2 in
            (r.0 ++ t.0, λ gs end way. Turns head leaves body r.0 t.0 gs s.0 end r.1 t.1 s.1 way, both_effect question v r.0 t.0 l.0 l.1 m r.2 t.2 l.4)
      ]

  -- turns, and then a way through the head
  abbrev ToHead : End → Mark → Type 0
  ToHead end m = (es : List Event) × (fs : List Event) × ((gs : List Event) (e : End) → Way (Loop head leaves body) gs e → Way (Loop head leaves body) (es ++ gs) e) × Way head fs end × (effect question v (es ++ fs) ≡ m)

  to_head : (end : End) (m : Mark) → Found v (at_head H B) end m → ToHead end m
  to_head end m h =
      let l = found_after v (turned H B) H end m h in
      let r = rounds l.0 l.2 in
      let s = heads end l.1 l.3 in
      (r.0, s.0, r.1, s.1, both_effect question v r.0 s.0 l.0 l.1 m r.2 s.2 l.4)

  -- turns, and then ways through the head and the body
  abbrev ToBody : End → Mark → Type 0
  ToBody end m =
      (es : List Event) × (fs : List Event) × (gs : List Event) × ((hs : List Event) (e : End) → Way (Loop head leaves body) hs e → Way (Loop head leaves body) (es ++ hs) e) × Way head fs Next × Way body gs end
      × (effect question v (es ++ (fs ++ gs)) ≡ m)

  to_body : (end : End) (m : Mark) → Found v (in_body H B) end m → ToBody end m
  to_body end m h =
      let l = found_after v (at_head H B).next B end m h in
      let r = to_head Next l.0 l.2 in
      let s = bodies end l.1 l.3 in
      (r.0, r.1, s.0, r.2, r.3, s.1, three_effect question v r.0 r.1 s.0 l.0 l.1 m r.4 s.2 l.4)

  from_head : (end : End) (m : Mark) → IsAway end → Found v (at_head H B) end m → Reaches question v (Loop head leaves body) end m
  from_head end m is h =
      let r = to_head end m h in
      (r.0 ++ r.1, r.2 r.1 end (InHead head leaves body r.1 end r.3 is), r.4)

  found_ended : (m : Mark) (b : Bool) → leaves ≡ b → has m (ended b (at_head H B).next) ≡ true → Reaches question v (Loop head leaves body) Next m
  found_ended m true is h =
      let r = to_head Next m h in
      (r.0 ++ r.1, r.2 r.1 Next (subst (λ b. Way (Loop head b body) r.1 Next) (sym is) (Ends head body r.1 r.3)), r.4)
  found_ended m false is h = absurd (has_none m h)

  found_first : (end : End) (m : Mark) → Found v (record (at_head H B) { next = ended leaves (at_head H B).next }) end m → Reaches question v (Loop head leaves body) end m
  found_first Next m h = found_ended m leaves refl h
  found_first Broke m h = from_head Broke m tt h
  found_first Continued m h = from_head Continued m tt h
  found_first (At w span) Kept h = from_head (At w span) Kept tt h
  found_first (At w span) Yes h = from_head (At w span) Yes tt h
  found_first (At w span) No h = absurd h

  from_body : (w : ℕ) (span : Span) (m : Mark) → Found v (in_body H B) (At w span) m → Reaches question v (Loop head leaves body) (At w span) m
  from_body w span m h =
      let r = to_body (At w span) m h in
      (r.0 ++ (r.1 ++ r.2), r.3 (r.1 ++ r.2) (At w span) (InBody head leaves body r.1 r.2 w span r.4 r.5), r.6)

  found_second : (end : End) (m : Mark) → Found v (record (in_body H B) { next = (in_body H B).broke; broke = no_marks; continued = no_marks }) end m → Reaches question v (Loop head leaves body) end m
  found_second Next m h =
      let r = to_body Broke m h in
      (r.0 ++ (r.1 ++ r.2), r.3 (r.1 ++ r.2) Next (Leaves head leaves body r.1 r.2 r.4 r.5), r.6)
  found_second Broke m h = absurd (has_none m h)
  found_second Continued m h = absurd (has_none m h)
  found_second (At w span) Kept h = from_body w span Kept h
  found_second (At w span) Yes h = from_body w span Yes h
  found_second (At w span) No h = absurd h

  found_loop : (end : End) (m : Mark) → Found v (loop_of H leaves B) end m → Reaches question v (Loop head leaves body) end m
  unfolding loop_of
  found_loop end m h =
      elim (found_either v (record (at_head H B) { next = ended leaves (at_head H B).next }) (record (in_body H B) { next = (in_body H B).broke; broke = no_marks; continued = no_marks }) end m h) [
        | inl k ↦ found_first end m k
        | inr k ↦ found_second end m k
      ]

pub sound : (question : Question) (v : ℕ) (flow : Flow) (end : End) (m : Mark) → Found v (summary_of question v flow) end m → Reaches question v flow end m
sound question v Nothing end m h = found_marked v Kept (λ e n. Reaches question v Nothing e n) ([], Idle, refl) end m h
sound question v (Does event) end m h = found_marked v (mark_of question v event) (λ e n. Reaches question v (Does event) e n) (event ∷ [], Happens event, refl) end m h
sound question v (Uses w span) end m h = found_uses question v w span end m h
sound question v (Part span) end m h = found_part question v span end m h
sound question v (Then a b) end m h = found_then question v a b (sound question v a) (sound question v b) end m h
sound question v (Either a b) end m h = found_one question v a b (sound question v a) (sound question v b) end m h
sound question v (Loop head leaves body) end m h = found_loop question v head leaves body (sound question v head) (sound question v body) end m h
sound question v Break end m h = found_break question v end m h
sound question v Continue end m h = found_continue question v end m h
sound question v Stop end m h = found_stop question v end m h
