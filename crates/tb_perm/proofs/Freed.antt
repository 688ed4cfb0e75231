-- The tags of a call are free once it has ended.
use Rattle.std.proofs.Common.{◌≡◌, ◌∙◌, ◌⊎◌, ◌≢◌, ℕ, Bool, true, false, cond, List, [], ◌∷◌, refl, ap, sym, subst, inl, inr}
use Rattle.std.specs.List.{AllByRecursion}
use Rattle.std.proofs.lemmas.Bool.{cases_eq}
use Rattle.tb_perm.specs.declared.tag.Prov.{Prov}
use Rattle.tb_perm.specs.declared.perm.Guard.TheVariants.{Free}
use Rattle.tb_perm.specs.Rows.{Row, guard_in, unguarded}
use Rattle.tb_perm.specs.CallEnd.{AllocRows, is_live, Ended, Ends, Refuses, and_then, release_all, unguard_one, unguard_all, call_end, IsFreeAt}
use Rattle.tb_perm.proofs.Found.{guard_in-unguarded, guard_in-other}

-- a tag that is free stays free
free_still : (rows : List Row) (u t : ℕ) → guard_in rows t ≡ Free → guard_in (unguarded rows u) t ≡ Free
free_still rows u t free = at (cases_eq t u)
  where
    at : (t ≡ u) ⊎ (t ≢ u) → guard_in (unguarded rows u) t ≡ Free
    at (inl same) = ap (λ k. guard_in (unguarded rows k) t) (sym same) ∙ guard_in-unguarded rows t
    at (inr differs) = guard_in-other rows u t differs ∙ free

-- the tag whose guard goes
free_now : (p : Prov) (allocs : List AllocRows) → IsFreeAt (unguard_one p allocs) p
free_now p [] = tt
free_now p (a ∷ allocs) = (at (is_live p.alloc.0 a) refl, free_now p allocs)
  where
    at : (b : Bool) → is_live p.alloc.0 a ≡ b → is_live p.alloc.0 (cond b (record a { rows = unguarded a.rows p.tag.0 }) a) ≡ true → guard_in (cond b (record a { rows = unguarded a.rows p.tag.0 }) a).rows p.tag.0 ≡ Free
    at true is live = guard_in-unguarded a.rows p.tag.0
    at false is live = let clash : false ≡ true = sym is ∙ live in cc

free_later : (p q : Prov) (allocs : List AllocRows) → IsFreeAt allocs p → IsFreeAt (unguard_one q allocs) p
free_later p q [] free = tt
free_later p q (a ∷ allocs) free = (at (is_live q.alloc.0 a), free_later p q allocs free.1)
  where
    at : (b : Bool) → is_live p.alloc.0 (cond b (record a { rows = unguarded a.rows q.tag.0 }) a) ≡ true → guard_in (cond b (record a { rows = unguarded a.rows q.tag.0 }) a).rows p.tag.0 ≡ Free
    at true live = free_still a.rows q.tag.0 p.tag.0 (free.0 live)
    at false live = free.0 live

free_for_good : (p : Prov) (qs : List Prov) (allocs : List AllocRows) → IsFreeAt allocs p → IsFreeAt (unguard_all qs allocs) p
free_for_good p [] allocs free = free
free_for_good p (q ∷ qs) allocs free = free_for_good p qs (unguard_one q allocs) (free_later p q allocs free)

all_free : (ps : List Prov) (allocs : List AllocRows) → AllByRecursion (IsFreeAt (unguard_all ps allocs)) ps
all_free [] allocs = tt
all_free (p ∷ ps) allocs = (free_for_good p ps (unguard_one p allocs) (free_now p allocs), all_free ps (unguard_one p allocs))

pub call_end-frees : (ps : List Prov) (allocs after : List AllocRows) → call_end ps allocs ≡ Ends after → AllByRecursion (IsFreeAt after) ps
call_end-frees ps allocs after ends = at (release_all ps allocs) ends
  where
    at : (ended : Ended) → and_then ended (λ left. Ends (unguard_all ps left)) ≡ Ends after → AllByRecursion (IsFreeAt after) ps
    at (Ends left) same = let one : unguard_all ps left ≡ after = cc in subst (λ allocs. AllByRecursion (IsFreeAt allocs) ps) one (all_free ps left)
    at (Refuses id report left) same = absurd (cc)
