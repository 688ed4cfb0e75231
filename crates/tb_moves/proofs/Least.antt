-- The first of faults.
use Rattle.std.proofs.Common.{◌≡◌, ◌⊎◌, ◌<◌, ◌≤◌, Bool, true, false, Option, Some, None, refl, sym, subst, inl, inr, arith}
use Rattle.std.specs.Prelude.{nat_lt}
use Rattle.std.specs.Option.{option_map}
use Rattle.std.proofs.lemmas.Bool.{ltb-true, ltb-false}
use Rattle.tb_perm.specs.declared.span.Span.{Span}
use Rattle.tb_flow.specs.Laws.{IsFirst}
use Rattle.tb_moves.specs.declared.error.MoveError.{MoveError}
use Rattle.tb_moves.specs.Moves.{key_of, earliest, earliest_of}

abbrev pub IsLeast : (MoveError → Type 0) → Option MoveError → Type 0
IsLeast P None = (error : MoveError) → P error → ⊥
IsLeast P (Some first) = P first × ((error : MoveError) → P error → key_of first ≤ key_of error)

pub least_earliest : (P Q : MoveError → Type 0) (x y : Option MoveError) → IsLeast P x → IsLeast Q y → IsLeast (λ e. P e ⊎ Q e) (earliest x y)
least_earliest P Q None None p q = λ e h. elim h [ inl k ↦ p e k | inr k ↦ q e k ]
least_earliest P Q None (Some b) p q = (inr q.0, λ e h. elim h [ inl k ↦ absurd (p e k) | inr k ↦ q.1 e k ])
least_earliest P Q (Some a) None p q = (inl p.0, λ e h. elim h [ inl k ↦ p.1 e k | inr k ↦ absurd (q e k) ])
least_earliest P Q (Some a) (Some b) p q = at (nat_lt (key_of b) (key_of a)) refl
  where
    at : (c : Bool) → nat_lt (key_of b) (key_of a) ≡ c → IsLeast (λ e. P e ⊎ Q e) (earliest_of c a b)
    at true is =
        let less : key_of b < key_of a = ltb-true (key_of b) (key_of a) is in
        (inr q.0, λ e h. elim h [ inl k ↦ let l : key_of a ≤ key_of e = p.1 e k in omega (arith, less, l) | inr k ↦ q.1 e k ])
    at false is =
        let less : key_of a ≤ key_of b = ltb-false (key_of b) (key_of a) is in
        (inl p.0, λ e h. elim h [ inl k ↦ p.1 e k | inr k ↦ let l : key_of b ≤ key_of e = q.1 e k in omega (arith, less, l) ])

pub least_same : (P Q : MoveError → Type 0) → ((e : MoveError) → P e → Q e) → ((e : MoveError) → Q e → P e) → (x : Option MoveError) → IsLeast P x → IsLeast Q x
least_same P Q to from None p = λ e h. p e (from e h)
least_same P Q to from (Some first) p = (to first p.0, λ e h. p.1 e (from e h))

-- faults of one kind, at places
abbrev pub IsMade : (Span → MoveError) → (Span → Type 0) → MoveError → Type 0
IsMade make Has error = (span : Span) × (error ≡ make span) × Has span

pub least_made : (make : Span → MoveError) → ((a b : Span) → a.lo ≤ b.lo → key_of (make a) ≤ key_of (make b))
    → (Has : Span → Type 0) (x : Option Span) → IsFirst Has x → IsLeast (IsMade make Has) (option_map make x)
least_made make rises Has None p = λ e h. p h.0 h.2
least_made make rises Has (Some first) p =
    ((first, refl, p.0), λ e h. subst (λ x. key_of (make first) ≤ key_of x) (sym h.1) (rises first h.0 (p.1 h.0 h.2)))
