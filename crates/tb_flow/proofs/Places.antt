-- The earlier of two places.
use Rattle.std.proofs.Common.{◌≡◌, ◌∙◌, ◌⊎◌, ◌&&◌, ◌<◌, ◌≤◌, ℕ, Bool, true, false, Option, Some, None, ◌==◌, refl, ap, inl, inr, arith}
use Rattle.std.specs.Prelude.{nat_lt}
use Rattle.std.proofs.lemmas.Bool.{ltb-true, ltb-false, eqb-true, eq-eqb, and_parts, or_cases, or_parts, false≢true}
use Rattle.tb_perm.specs.declared.span.Span.{Span}
use Rattle.tb_flow.specs.Summaries.{is_before, earlier, earlier_span, where_true}
use Rattle.tb_flow.specs.Laws.{IsFirst}

-- one begins no later than another, and if they begin together it ends no later
abbrev pub Leq : Span → Span → Type 0
Leq a b = (a.lo ≤ b.lo) × (b.lo ≤ a.lo → a.hi ≤ b.hi)

pub leq_refl : (a : Span) → Leq a a
leq_refl a = (omega arith, λ h. omega arith)

leq_trans : (a b c : Span) → Leq a b → Leq b c → Leq a c
leq_trans a b c h k =
    (omega (arith, h.0, k.0), λ l. let ab : a.hi ≤ b.hi = h.1 (omega (arith, l, k.0)) in let bc : b.hi ≤ c.hi = k.1 (omega (arith, l, h.0)) in omega (arith, ab, bc))

second_false : (x y : Bool) → x ≡ true → (x && y) ≡ false → y ≡ false
second_false true y h k = k
second_false false y h k = absurd (false≢true h)

before_leq : (a b : Span) → is_before b a ≡ true → Leq b a
before_leq a b h =
    elim (or_cases (nat_lt b.lo a.lo) ((b.lo == a.lo) && nat_lt b.hi a.hi) h) [
      | inl k ↦ let less : b.lo < a.lo = ltb-true b.lo a.lo k in (omega (arith, less), λ l. absurd (omega (arith, less, l)))
      | inr k ↦
          let p = and_parts (b.lo == a.lo) (nat_lt b.hi a.hi) k in
          let same : b.lo ≡ a.lo = eqb-true b.lo a.lo p.0 in
          let less : b.hi < a.hi = ltb-true b.hi a.hi p.1 in
          (omega (arith, same), λ l. omega (arith, less))
    ]

not_before_leq : (a b : Span) → is_before b a ≡ false → Leq a b
not_before_leq a b h =
    let p = or_parts (nat_lt b.lo a.lo) ((b.lo == a.lo) && nat_lt b.hi a.hi) h in
    let less : a.lo ≤ b.lo = ltb-false b.lo a.lo p.0 in
    (less, λ l. let same : b.lo ≡ a.lo = omega (arith, l, less) in ltb-false b.hi a.hi (second_false (b.lo == a.lo) (nat_lt b.hi a.hi) (eq-eqb b.lo a.lo same) p.1))

-- there is one, and it does not come later
abbrev pub NotAfter : Option Span → Span → Type 0
NotAfter None span = ⊥
NotAfter (Some first) span = Leq first span

pub earlier_is : (x y : Option Span) (s : Span) → earlier x y ≡ Some s → (x ≡ Some s) ⊎ (y ≡ Some s)
earlier_is None y s h = inr h
earlier_is (Some a) None s h = inl h
earlier_is (Some a) (Some b) s h = at (is_before b a) h
  where
    at : (c : Bool) → earlier_span c a b ≡ Some s → (Some a ≡ Some s) ⊎ (Some b ≡ Some s)
    at true is = inr is
    at false is = inl is

pub earlier_left : (x y : Option Span) (s : Span) → NotAfter x s → NotAfter (earlier x y) s
earlier_left None y s h = absurd h
earlier_left (Some a) None s h = h
earlier_left (Some a) (Some b) s h = at (is_before b a) refl
  where
    at : (c : Bool) → is_before b a ≡ c → NotAfter (earlier_span c a b) s
    at true is = leq_trans b a s (before_leq a b is) h
    at false is = h

pub earlier_right : (x y : Option Span) (s : Span) → NotAfter y s → NotAfter (earlier x y) s
earlier_right None y s h = h
earlier_right (Some a) None s h = absurd h
earlier_right (Some a) (Some b) s h = at (is_before b a) refl
  where
    at : (c : Bool) → is_before b a ≡ c → NotAfter (earlier_span c a b) s
    at true is = h
    at false is = leq_trans a b s (not_before_leq a b is) h

-- of two, the earlier is one of them
pub earlier_cases : (x y : Option Span) (s : Span) → NotAfter (earlier x y) s → NotAfter x s ⊎ NotAfter y s
earlier_cases None y s h = inr h
earlier_cases (Some a) None s h = inl h
earlier_cases (Some a) (Some b) s h = at (is_before b a) h
  where
    at : (c : Bool) → NotAfter (earlier_span c a b) s → Leq a s ⊎ Leq b s
    at true is = inr is
    at false is = inl is

pub where_parts : (c : Bool) (x : Option Span) (s : Span) → NotAfter (where_true c x) s → (c ≡ true) × NotAfter x s
where_parts true x s h = (refl, h)
where_parts false x s h = absurd h

pub where_is : (c : Bool) (x : Option Span) (s : Span) → where_true c x ≡ Some s → (c ≡ true) × (x ≡ Some s)
where_is true x s h = (refl, h)
where_is false x s h = absurd cc

pub where_from : (c : Bool) (x : Option Span) (s : Span) → c ≡ true → NotAfter x s → NotAfter (where_true c x) s
where_from true x s h k = k
where_from false x s h k = absurd (false≢true h)

-- the first of two is the first with either
pub first_earlier : (P Q : Span → Type 0) (x y : Option Span) → IsFirst P x → IsFirst Q y → IsFirst (λ s. P s ⊎ Q s) (earlier x y)
first_earlier P Q None None p q = λ s h. elim h [ inl k ↦ p s k | inr k ↦ q s k ]
first_earlier P Q None (Some b) p q = (inr q.0, λ s h. elim h [ inl k ↦ absurd (p s k) | inr k ↦ q.1 s k ])
first_earlier P Q (Some a) None p q = (inl p.0, λ s h. elim h [ inl k ↦ p.1 s k | inr k ↦ absurd (q s k) ])
first_earlier P Q (Some a) (Some b) p q = at (is_before b a) refl
  where
    at : (c : Bool) → is_before b a ≡ c → IsFirst (λ s. P s ⊎ Q s) (earlier_span c a b)
    at true is =
        let less : b.lo ≤ a.lo = (before_leq a b is).0 in
        (inr q.0, λ s h. elim h [ inl k ↦ let l : a.lo ≤ s.lo = p.1 s k in omega (arith, less, l) | inr k ↦ q.1 s k ])
    at false is =
        let less : a.lo ≤ b.lo = (not_before_leq a b is).0 in
        (inl p.0, λ s h. elim h [ inl k ↦ p.1 s k | inr k ↦ let l : b.lo ≤ s.lo = q.1 s k in omega (arith, less, l) ])

-- places that come before the same ones are one
pub same_place : (x y : Option Span) → ((s : Span) → NotAfter x s → NotAfter y s) → ((s : Span) → NotAfter y s → NotAfter x s) → x ≡ y
same_place None None to from = refl
same_place None (Some b) to from = absurd (from b (leq_refl b))
same_place (Some a) None to from = absurd (to a (leq_refl a))
same_place (Some a) (Some b) to from =
    let h : Leq b a = to a (leq_refl a) in
    let k : Leq a b = from b (leq_refl b) in
    let lo : a.lo ≡ b.lo = omega (arith, h.0, k.0) in
    let first : b.hi ≤ a.hi = h.1 k.0 in
    let second : a.hi ≤ b.hi = k.1 h.0 in
    let hi : a.hi ≡ b.hi = omega (arith, first, second) in
    let make : ℕ → ℕ → Option Span = λ l m. Some (record { lo = l; hi = m }) in
    ap (λ l. make l a.hi) lo ∙ ap (λ m. make b.lo m) hi
