-- Pieces one after the other: how they are grouped makes no difference to the summary.
use Rattle.std.proofs.Common.{◌≡◌, ◌∙◌, ◌⊎◌, ◌&&◌, ℕ, Bool, true, false, Option, ◌==◌, refl, ap, sym, subst, inl, inr}
use Rattle.std.proofs.lemmas.Bool.{and_from, and_parts, or_left, or_right, or_cases}
use Rattle.tb_perm.specs.declared.span.Span.{Span}
use Rattle.tb_flow.specs.declared.mark.Question.{Question}
use Rattle.tb_flow.specs.declared.mark.Mark.{Mark}
use Rattle.tb_flow.specs.declared.mark.Mark.TheVariants.{Kept, Yes, No}
use Rattle.tb_flow.specs.declared.mark.Marks.{Marks}
use Rattle.tb_flow.specs.declared.summary.Summary.{Summary}
use Rattle.tb_flow.specs.Flows.{Flow, Nothing, Does, Uses, Part, Then, Either, Loop, Break, Continue, Stop}
use Rattle.tb_flow.specs.Questions.{mark_of}
use Rattle.tb_flow.specs.Summaries.{some_way, joined, followed, earlier, where_true, marked, either_of, then_of, loop_of, use_of, summary_of, with_mark, with_use, run}
use Rattle.tb_flow.proofs.Sets.{over, over_assoc, has, has_left, has_right, joined_has, has_followed, followed_has, some_has, has_some}
use Rattle.tb_flow.proofs.Places.{NotAfter, earlier_left, earlier_right, earlier_cases, where_parts, where_from, same_place}
use Rattle.tb_flow.proofs.Idle.{whole_same, bits_same, behind, before}

same_bool : (x y : Bool) → (x ≡ true → y ≡ true) → (y ≡ true → x ≡ true) → x ≡ y
same_bool false false to from = refl
same_bool false true to from = from refl
same_bool true y to from = sym (to refl)

same_marks : (a b : Marks) → ((m : Mark) → has m a ≡ true → has m b ≡ true) → ((m : Mark) → has m b ≡ true → has m a ≡ true) → a ≡ b
same_marks a b to from =
    bits_same a.kept a.yes a.no b.kept b.yes b.no (same_bool a.kept b.kept (to Kept) (from Kept)) (same_bool a.yes b.yes (to Yes) (from Yes)) (same_bool a.no b.no (to No) (from No))

followed_assoc : (a b c : Marks) → followed (followed a b) c ≡ followed a (followed b c)
followed_assoc a b c =
    same_marks (followed (followed a b) c) (followed a (followed b c))
    (λ m h.
    let p = followed_has (followed a b) c m h in
    let q = followed_has a b p.0 p.2 in
    let is : over q.0 (over q.1 p.1) ≡ m = sym (over_assoc q.0 q.1 p.1) ∙ ap (λ x. over x p.1) q.4 ∙ p.4 in
    subst (λ x. has x (followed a (followed b c)) ≡ true) is (has_followed a (followed b c) q.0 (over q.1 p.1) q.2 (has_followed b c q.1 p.1 q.3 p.3)))
    (λ m h.
    let p = followed_has a (followed b c) m h in
    let q = followed_has b c p.1 p.3 in
    let is : over (over p.0 q.0) q.1 ≡ m = over_assoc p.0 q.0 q.1 ∙ ap (λ x. over p.0 x) q.4 ∙ p.4 in
    subst (λ x. has x (followed (followed a b) c) ≡ true) is (has_followed (followed a b) c (over p.0 q.0) q.1 (has_followed a b p.0 q.0 p.2 q.2) q.3))

-- the marks at another end: of the first piece, of the second behind it, of the third behind both
exits : (n m : Marks) (x y z : Marks) → joined (joined x (followed n y)) (followed (followed n m) z) ≡ joined x (followed n (joined y (followed m z)))
exits n m x y z =
    same_marks (joined (joined x (followed n y)) (followed (followed n m) z)) (joined x (followed n (joined y (followed m z))))
    (λ k h. elim (joined_has (joined x (followed n y)) (followed (followed n m) z) k h) [
      | inl l ↦ elim (joined_has x (followed n y) k l) [
        | inl i ↦ has_left x (followed n (joined y (followed m z))) k i
        | inr i ↦
            let p = followed_has n y k i in
            has_right x (followed n (joined y (followed m z))) k (subst (λ q. has q (followed n (joined y (followed m z))) ≡ true) p.4 (has_followed n (joined y (followed m z)) p.0 p.1 p.2 (has_left y (followed m z) p.1 p.3)))
      ]
      | inr l ↦
          let i : has k (followed n (followed m z)) ≡ true = subst (λ s. has k s ≡ true) (followed_assoc n m z) l in
          let p = followed_has n (followed m z) k i in
          has_right x (followed n (joined y (followed m z))) k (subst (λ q. has q (followed n (joined y (followed m z))) ≡ true) p.4 (has_followed n (joined y (followed m z)) p.0 p.1 p.2 (has_right y (followed m z) p.1 p.3)))
    ])
    (λ k h. elim (joined_has x (followed n (joined y (followed m z))) k h) [
      | inl l ↦ has_left (joined x (followed n y)) (followed (followed n m) z) k (has_left x (followed n y) k l)
      | inr l ↦
          let p = followed_has n (joined y (followed m z)) k l in
          elim (joined_has y (followed m z) p.1 p.3) [
            | inl i ↦ has_left (joined x (followed n y)) (followed (followed n m) z) k (has_right x (followed n y) k (subst (λ q. has q (followed n y) ≡ true) p.4 (has_followed n y p.0 p.1 p.2 i)))
            | inr i ↦
                has_right (joined x (followed n y)) (followed (followed n m) z) k
                (subst (λ s. has k s ≡ true) (sym (followed_assoc n m z)) (subst (λ q. has q (followed n (followed m z)) ≡ true) p.4 (has_followed n (followed m z) p.0 p.1 p.2 i)))
          ]
    ])

kept_places : (n m : Bool) (x y z : Option Span) → earlier (earlier x (where_true n y)) (where_true (n && m) z) ≡ earlier x (where_true n (earlier y (where_true m z)))
kept_places n m x y z =
    same_place (earlier (earlier x (where_true n y)) (where_true (n && m) z)) (earlier x (where_true n (earlier y (where_true m z))))
    (λ s h. elim (earlier_cases (earlier x (where_true n y)) (where_true (n && m) z) s h) [
      | inl k ↦ elim (earlier_cases x (where_true n y) s k) [
        | inl l ↦ earlier_left x (where_true n (earlier y (where_true m z))) s l
        | inr l ↦
            let p = where_parts n y s l in
            earlier_right x (where_true n (earlier y (where_true m z))) s (where_from n (earlier y (where_true m z)) s p.0 (earlier_left y (where_true m z) s p.1))
      ]
      | inr k ↦
          let p = where_parts (n && m) z s k in
          let q = and_parts n m p.0 in
          earlier_right x (where_true n (earlier y (where_true m z))) s (where_from n (earlier y (where_true m z)) s q.0 (earlier_right y (where_true m z) s (where_from m z s q.1 p.1)))
    ])
    (λ s h. elim (earlier_cases x (where_true n (earlier y (where_true m z))) s h) [
      | inl k ↦ earlier_left (earlier x (where_true n y)) (where_true (n && m) z) s (earlier_left x (where_true n y) s k)
      | inr k ↦
          let p = where_parts n (earlier y (where_true m z)) s k in
          elim (earlier_cases y (where_true m z) s p.1) [
            | inl l ↦ earlier_left (earlier x (where_true n y)) (where_true (n && m) z) s (earlier_right x (where_true n y) s (where_from n y s p.0 l))
            | inr l ↦
                let q = where_parts m z s l in
                earlier_right (earlier x (where_true n y)) (where_true (n && m) z) s (where_from (n && m) z s (and_from n m p.0 q.0) q.1)
          ]
    ])

-- the first use with yes behind ways with these marks
abbrev yes_behind : Marks → Option Span → Option Span → Option Span
yes_behind n yes_use kept_use = earlier (where_true (some_way n) yes_use) (where_true n.yes kept_use)

-- which uses it is no later than
abbrev Use : Marks → Option Span → Option Span → Span → Type 0
Use n y k s = ((some_way n ≡ true) × NotAfter y s) ⊎ ((n.yes ≡ true) × NotAfter k s)

use_of_behind : (n : Marks) (y k : Option Span) (s : Span) → NotAfter (yes_behind n y k) s → Use n y k s
use_of_behind n y k s h =
    elim (earlier_cases (where_true (some_way n) y) (where_true n.yes k) s h) [
      | inl l ↦ inl (where_parts (some_way n) y s l)
      | inr l ↦ inr (where_parts n.yes k s l)
    ]

behind_of_use : (n : Marks) (y k : Option Span) (s : Span) → Use n y k s → NotAfter (yes_behind n y k) s
behind_of_use n y k s (inl h) = earlier_left (where_true (some_way n) y) (where_true n.yes k) s (where_from (some_way n) y s h.0 h.1)
behind_of_use n y k s (inr h) = earlier_right (where_true (some_way n) y) (where_true n.yes k) s (where_from n.yes k s h.0 h.1)

some_followed : (n m : Marks) → some_way n ≡ true → some_way m ≡ true → some_way (followed n m) ≡ true
some_followed n m h k =
    let i = has_some n h in
    let j = has_some m k in
    some_has (followed n m) (over i.0 j.0) (has_followed n m i.0 j.0 i.1 j.1)

followed_some : (n m : Marks) → some_way (followed n m) ≡ true → (some_way n ≡ true) × (some_way m ≡ true)
followed_some n m h =
    let i = has_some (followed n m) h in
    let p = followed_has n m i.0 i.1 in
    (some_has n p.0 p.2, some_has m p.1 p.3)

module _ (n m : Marks) (x y k z l : Option Span) where
  abbrev BothYes : Option Span
  BothYes = earlier y (yes_behind m z l)

  abbrev BothKept : Option Span
  BothKept = earlier k (where_true m.kept l)

  abbrev Left : Option Span
  Left = earlier (earlier x (yes_behind n y k)) (yes_behind (followed n m) z l)

  abbrev Right : Option Span
  Right = earlier x (yes_behind n BothYes BothKept)

  first_to : (s : Span) → Use n y k s → Use n BothYes BothKept s
  first_to s (inl h) = inl (h.0, earlier_left y (yes_behind m z l) s h.1)
  first_to s (inr h) = inr (h.0, earlier_left k (where_true m.kept l) s h.1)

  second_to : (s : Span) → Use (followed n m) z l s → Use n BothYes BothKept s
  second_to s (inl h) =
      let q = followed_some n m h.0 in
      inl (q.0, earlier_right y (yes_behind m z l) s (behind_of_use m z l s (inl (q.1, h.1))))
  second_to s (inr h) =
      elim (or_cases (some_way n && m.yes) (n.yes && m.kept) h.0) [
        | inl a ↦
            let q = and_parts (some_way n) m.yes a in
            inl (q.0, earlier_right y (yes_behind m z l) s (behind_of_use m z l s (inr (q.1, h.1))))
        | inr a ↦
            let q = and_parts n.yes m.kept a in
            inr (q.0, earlier_right k (where_true m.kept l) s (where_from m.kept l s q.1 h.1))
      ]

  of_first : (s : Span) → Use n y k s → NotAfter Left s
  of_first s h = earlier_left (earlier x (yes_behind n y k)) (yes_behind (followed n m) z l) s (earlier_right x (yes_behind n y k) s (behind_of_use n y k s h))

  of_second : (s : Span) → Use (followed n m) z l s → NotAfter Left s
  of_second s h = earlier_right (earlier x (yes_behind n y k)) (yes_behind (followed n m) z l) s (behind_of_use (followed n m) z l s h)

  back_second : (s : Span) → some_way n ≡ true → Use m z l s → Use (followed n m) z l s
  back_second s some (inl h) = inl (some_followed n m some h.0, h.1)
  back_second s some (inr h) = inr (or_left (some_way n && m.yes) (n.yes && m.kept) (and_from (some_way n) m.yes some h.0), h.1)

  back_to : (s : Span) → Use n BothYes BothKept s → NotAfter Left s
  back_to s (inl h) =
      elim (earlier_cases y (yes_behind m z l) s h.1) [
        | inl a ↦ of_first s (inl (h.0, a))
        | inr a ↦ of_second s (back_second s h.0 (use_of_behind m z l s a))
      ]
  back_to s (inr h) =
      elim (earlier_cases k (where_true m.kept l) s h.1) [
        | inl a ↦ of_first s (inr (h.0, a))
        | inr a ↦
            let q = where_parts m.kept l s a in
            of_second s (inr (or_right (some_way n && m.yes) (n.yes && m.kept) (and_from n.yes m.kept h.0 q.0), q.1))
      ]

  left_to : (s : Span) → NotAfter Left s → NotAfter Right s
  left_to s h =
      elim (earlier_cases (earlier x (yes_behind n y k)) (yes_behind (followed n m) z l) s h) [
        | inl a ↦ elim (earlier_cases x (yes_behind n y k) s a) [
          | inl b ↦ earlier_left x (yes_behind n BothYes BothKept) s b
          | inr b ↦ earlier_right x (yes_behind n BothYes BothKept) s (behind_of_use n BothYes BothKept s (first_to s (use_of_behind n y k s b)))
        ]
        | inr a ↦ earlier_right x (yes_behind n BothYes BothKept) s (behind_of_use n BothYes BothKept s (second_to s (use_of_behind (followed n m) z l s a)))
      ]

  right_to : (s : Span) → NotAfter Right s → NotAfter Left s
  right_to s h =
      elim (earlier_cases x (yes_behind n BothYes BothKept) s h) [
        | inl a ↦ earlier_left (earlier x (yes_behind n y k)) (yes_behind (followed n m) z l) s (earlier_left x (yes_behind n y k) s a)
        | inr a ↦ back_to s (use_of_behind n BothYes BothKept s a)
      ]

  yes_places : Left ≡ Right
  yes_places = same_place Left Right left_to right_to

part_places : (x y z : Option Span) → earlier (earlier x y) z ≡ earlier x (earlier y z)
part_places x y z =
    same_place (earlier (earlier x y) z) (earlier x (earlier y z))
    (λ s h. elim (earlier_cases (earlier x y) z s h) [
      | inl a ↦ elim (earlier_cases x y s a) [
        | inl b ↦ earlier_left x (earlier y z) s b
        | inr b ↦ earlier_right x (earlier y z) s (earlier_left y z s b)
      ]
      | inr a ↦ earlier_right x (earlier y z) s (earlier_right y z s a)
    ])
    (λ s h. elim (earlier_cases x (earlier y z) s h) [
      | inl a ↦ earlier_left (earlier x y) z s (earlier_left x y s a)
      | inr a ↦ elim (earlier_cases y z s a) [
        | inl b ↦ earlier_left (earlier x y) z s (earlier_right x y s b)
        | inr b ↦ earlier_right (earlier x y) z s b
      ]
    ])

then_assoc : (a b c : Summary) → then_of (then_of a b) c ≡ then_of a (then_of b c)
unfolding then_of either_of
then_assoc a b c =
    whole_same _ _ _ _ _ _ _ _ _ _ _ _
    (followed_assoc a.next b.next c.next)
    (exits a.next b.next a.broke b.broke c.broke)
    (exits a.next b.next a.continued b.continued c.continued)
    (kept_places a.next.kept b.next.kept a.kept_use b.kept_use c.kept_use)
    (yes_places a.next b.next a.yes_use b.yes_use b.kept_use c.yes_use c.kept_use)
    (part_places a.part b.part c.part)

pub mark_is : (m : Mark) (w : Summary) → with_mark m w ≡ then_of w (marked m)
mark_is Kept w = sym (behind w)
mark_is Yes w = refl
mark_is No w = refl

use_is : (b : Bool) (span : Span) (w : Summary) → with_use b span w ≡ then_of w (use_of b span)
use_is true span w = refl
use_is false span w = sym (behind w)

-- what was gone through, and then a piece
pub run_is : (question : Question) (v : ℕ) (flow : Flow) (w : Summary) → run question v w flow ≡ then_of w (summary_of question v flow)
run_is question v Nothing w = sym (behind w)
run_is question v (Does event) w = mark_is (mark_of question v event) w
run_is question v (Uses u span) w = use_is (u == v) span w
run_is question v (Part span) w = refl
run_is question v (Then a b) w =
    run_is question v b (run question v w a)
    ∙ ap (λ x. then_of x (summary_of question v b)) (run_is question v a w)
    ∙ then_assoc w (summary_of question v a) (summary_of question v b)
run_is question v (Either a b) w =
    ap (λ x. then_of w (either_of x (run question v (marked Kept) b))) (run_is question v a (marked Kept) ∙ before (summary_of question v a))
    ∙ ap (λ x. then_of w (either_of (summary_of question v a) x)) (run_is question v b (marked Kept) ∙ before (summary_of question v b))
run_is question v (Loop head leaves body) w =
    ap (λ x. then_of w (loop_of x leaves (run question v (marked Kept) body))) (run_is question v head (marked Kept) ∙ before (summary_of question v head))
    ∙ ap (λ x. then_of w (loop_of (summary_of question v head) leaves x)) (run_is question v body (marked Kept) ∙ before (summary_of question v body))
run_is question v Break w = refl
run_is question v Continue w = refl
run_is question v Stop w = refl

pub run_idle : (question : Question) (v : ℕ) (flow : Flow) → run question v (marked Kept) flow ≡ summary_of question v flow
run_idle question v flow = run_is question v flow (marked Kept) ∙ before (summary_of question v flow)
