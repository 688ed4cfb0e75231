-- The order of provenances.
use Rattle.std.proofs.Common.{◌≡◌, inl, inr, ℕ, ◌<◌, Bool, true, false, cond, ◌&&◌, ◌==◌, nat_lt, List, [], ◌∷◌, refl, ap, ◌∙◌}
use Rattle.std.specs.List.{AllByRecursion}
use Rattle.std.specs.List.Sorted.{IsStrictlySortedBy}
use Rattle.std.specs.Ordering.{nat_cmp, ordering_then, eq_by_cmp, is_eq}
use Rattle.std.specs.declared.cmp.Ordering.{Ordering}
use Rattle.std.specs.declared.cmp.Ordering.TheVariants.{Less, Equal, Greater}
use Rattle.std.specs.Cmp.{IsTotalOrder, IsEquivalence, on_total, then_total, nat_cmp_total, nat_eq_equiv, on_equiv, and_equiv, unsigned_ties}
use Rattle.std.proofs.lemmas.Bool.{eqb-true, ltb-true}
use Rattle.tb_perm.specs.declared.tag.Prov.{Prov}
use Rattle.tb_bytes.specs.Bytes.{IsBefore, AreRising}

-- by allocations and then by tags
abbrev pub prov_cmp : Prov → Prov → Ordering
prov_cmp p q = ordering_then (nat_cmp p.alloc.0 q.alloc.0) (nat_cmp p.tag.0 q.tag.0)

abbrev pub same_prov : Prov → Prov → Bool
same_prov p q = (p.alloc.0 == q.alloc.0) && (p.tag.0 == q.tag.0)

pub prov_cmp_total : IsTotalOrder prov_cmp
prov_cmp_total = then_total (on_total (λ (p : Prov). p.alloc.0) nat_cmp_total) (on_total (λ (p : Prov). p.tag.0) nat_cmp_total)

pub same_prov_equiv : IsEquivalence same_prov
same_prov_equiv = and_equiv (on_equiv (λ (p : Prov). p.alloc.0) nat_eq_equiv) (on_equiv (λ (p : Prov). p.tag.0) nat_eq_equiv)

both : (a b : Bool) → (a && b) ≡ true → (a ≡ true) × (b ≡ true)
both true b e = (refl, e)
both false b e = absurd (cc)

pub same_prov_exact : (p q : Prov) → same_prov p q ≡ true → p ≡ q
same_prov_exact p q e =
    let parts = both (p.alloc.0 == q.alloc.0) (p.tag.0 == q.tag.0) e in
    let alloc : p.alloc.0 ≡ q.alloc.0 = eqb-true p.alloc.0 q.alloc.0 parts.0 in
    let tag : p.tag.0 ≡ q.tag.0 = eqb-true p.tag.0 q.tag.0 parts.1 in
    λ i. record { alloc = record { 0 = alloc i }; tag = record { 0 = tag i } }

then_is_eq : (r s : Ordering) → (is_eq r && is_eq s) ≡ is_eq (ordering_then r s)
then_is_eq Less s = refl
then_is_eq Equal s = refl
then_is_eq Greater s = refl

pub prov_ties : (p q : Prov) → same_prov p q ≡ eq_by_cmp prov_cmp p q
prov_ties p q =
    ap (λ b. b && (p.tag.0 == q.tag.0)) (unsigned_ties p.alloc.0 q.alloc.0)
    ∙ ap (λ b. is_eq (nat_cmp p.alloc.0 q.alloc.0) && b) (unsigned_ties p.tag.0 q.tag.0)
    ∙ then_is_eq (nat_cmp p.alloc.0 q.alloc.0) (nat_cmp p.tag.0 q.tag.0)

-- what an answer of `nat_cmp` says
data Compares (a b : ℕ) : Ordering → Type 0 where
  lower : a < b → Compares a b Less
  same : a ≡ b → Compares a b Equal
  higher : Compares a b Greater

compares : (a b : ℕ) → Compares a b (nat_cmp a b)
compares a b = first (nat_lt a b) refl (a == b) refl
  where
    first : (l : Bool) → nat_lt a b ≡ l → (e : Bool) → (a == b) ≡ e → Compares a b (cond l Less (cond e Equal Greater))
    first true is e eq = lower (ltb-true a b is)
    first false is true eq = same (eqb-true a b eq)
    first false is false eq = higher

is_before : (p q : Prov) (r s : Ordering) → Compares p.alloc.0 q.alloc.0 r → Compares p.tag.0 q.tag.0 s → ordering_then r s ≡ Less → IsBefore p q
is_before p q Less s (lower less) second e = inl less
is_before p q Equal Less (same is) (lower less) e = inr (is, less)
is_before p q Equal Equal (same is) second e = absurd (cc)
is_before p q Equal Greater (same is) second e = absurd (cc)
is_before p q Greater s first second e = absurd (cc)

pub before : (p q : Prov) → prov_cmp p q ≡ Less → IsBefore p q
before p q e = is_before p q (nat_cmp p.alloc.0 q.alloc.0) (nat_cmp p.tag.0 q.tag.0) (compares p.alloc.0 q.alloc.0) (compares p.tag.0 q.tag.0) e

all_before : (p : Prov) (qs : List Prov) → AllByRecursion (λ q. prov_cmp p q ≡ Less) qs → AllByRecursion (IsBefore p) qs
all_before p [] all = tt
all_before p (q ∷ qs) all = (before p q all.0, all_before p qs all.1)

pub rising : (ps : List Prov) → IsStrictlySortedBy prov_cmp ps → AreRising ps
unfolding IsStrictlySortedBy
rising [] sorted = tt
rising (p ∷ ps) sorted = (all_before p ps sorted.0, rising ps sorted.1)
