-- Where nothing happens before or behind a piece, its summary is that of the whole.
use Rattle.std.proofs.Common.{◌≡◌, ◌∙◌, ◌&&◌, ◌||◌, Bool, true, false, Option, Some, None, refl, ap, sym}
use Rattle.tb_perm.specs.declared.span.Span.{Span}
use Rattle.tb_flow.specs.declared.mark.Mark.TheVariants.{Kept}
use Rattle.tb_flow.specs.declared.mark.Marks.{Marks}
use Rattle.tb_flow.specs.declared.summary.Summary.{Summary}
use Rattle.tb_flow.specs.Summaries.{no_marks, only, some_way, joined, followed, earlier, where_true, marked, either_of, then_of}

abbrev pub bits : Bool → Bool → Bool → Marks
bits k y n = record { kept = k; yes = y; no = n }

marks_behind : (k y n : Bool) → joined no_marks (followed (bits k y n) (only Kept)) ≡ bits k y n
marks_behind true true true = refl
marks_behind true true false = refl
marks_behind true false true = refl
marks_behind true false false = refl
marks_behind false true true = refl
marks_behind false true false = refl
marks_behind false false true = refl
marks_behind false false false = refl

pub bits_same : (a b c d e f : Bool) → a ≡ d → b ≡ e → c ≡ f → bits a b c ≡ bits d e f
bits_same a b c d e f x y z = ap (λ k. bits k b c) x ∙ ap (λ k. bits d k c) y ∙ ap (λ k. bits d e k) z

still : (a s : Bool) → (a || (s && false)) ≡ a
still true s = refl
still false true = refl
still false false = refl

quiet : (a s y : Bool) → (a || ((s && false) || (y && false))) ≡ a
quiet true s y = refl
quiet false true true = refl
quiet false true false = refl
quiet false false true = refl
quiet false false false = refl

marks_none : (m a : Marks) → joined a (followed m no_marks) ≡ a
marks_none m a = bits_same _ _ _ _ _ _ (still a.kept m.kept) (quiet a.yes (some_way m) m.yes) (quiet a.no (some_way m) m.no)

marks_before : (k y n : Bool) → joined no_marks (followed (only Kept) (bits k y n)) ≡ bits k y n
marks_before true true true = refl
marks_before true true false = refl
marks_before true false true = refl
marks_before true false false = refl
marks_before false true true = refl
marks_before false true false = refl
marks_before false false true = refl
marks_before false false false = refl

earlier_none : (x : Option Span) → earlier x None ≡ x
earlier_none None = refl
earlier_none (Some a) = refl

where_none : (c : Bool) → where_true c None ≡ None
where_none true = refl
where_none false = refl

abbrev pub whole : Marks → Marks → Marks → Option Span → Option Span → Option Span → Summary
whole next broke continued kept_use yes_use part = record { next = next; broke = broke; continued = continued; kept_use = kept_use; yes_use = yes_use; part = part }

pub whole_same : (a b c d e f : Marks) (k l m p q r : Option Span) → a ≡ d → b ≡ e → c ≡ f → k ≡ p → l ≡ q → m ≡ r → whole a b c k l m ≡ whole d e f p q r
whole_same a b c d e f k l m p q r s t u v w x =
    ap (λ i. whole i b c k l m) s ∙ ap (λ i. whole d i c k l m) t ∙ ap (λ i. whole d e i k l m) u
    ∙ ap (λ i. whole d e f i l m) v ∙ ap (λ i. whole d e f p i m) w ∙ ap (λ i. whole d e f p q i) x

yes_none : (c d : Bool) → earlier (where_true c None) (where_true d None) ≡ None
yes_none true true = refl
yes_none true false = refl
yes_none false true = refl
yes_none false false = refl

pub behind : (a : Summary) → then_of a (marked Kept) ≡ a
unfolding then_of either_of
behind a =
    whole_same _ _ _ _ _ _ _ _ _ _ _ _
    (marks_behind a.next.kept a.next.yes a.next.no) (marks_none a.next a.broke) (marks_none a.next a.continued)
    (ap (λ x. earlier a.kept_use x) (where_none a.next.kept) ∙ earlier_none a.kept_use)
    (ap (λ x. earlier a.yes_use x) (yes_none (some_way a.next) a.next.yes) ∙ earlier_none a.yes_use)
    (earlier_none a.part)

pub before : (b : Summary) → then_of (marked Kept) b ≡ b
unfolding then_of either_of
before b =
    whole_same _ _ _ _ _ _ b.kept_use _ b.part b.kept_use _ b.part
    (marks_before b.next.kept b.next.yes b.next.no) (marks_before b.broke.kept b.broke.yes b.broke.no) (marks_before b.continued.kept b.continued.yes b.continued.no)
    refl (earlier_none b.yes_use) refl

pub then_idle : (a b : Summary) → b ≡ marked Kept → a ≡ then_of a b
then_idle a b is = sym (ap (λ x. then_of a x) is ∙ behind a)

pub idle_then : (a b : Summary) → a ≡ marked Kept → b ≡ then_of a b
idle_then a b is = sym (ap (λ x. then_of x b) is ∙ before b)
