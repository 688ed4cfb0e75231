-- The end of a call, step by step, and what it keeps.
use Rattle.std.proofs.Common.{◌≡◌, ◌∙◌, ℕ, Bool, true, false, cond, List, [], ◌∷◌, ◌++◌, refl, ap, Option, Some, None, find}
use Rattle.tb_perm.specs.declared.tag.Prov.{Prov}
use Rattle.tb_perm.specs.declared.report.Report.{Report}
use Rattle.tb_perm.specs.Rows.{Row, unguarded}
use Rattle.tb_perm.specs.Tree.{KeepsTree}
use Rattle.tb_perm.specs.Release.{release_event, released, release_report}
use Rattle.tb_perm.specs.CallEnd.{AllocRows, is_live, with_rows, Ended, Ends, Refuses, and_then, unless_refused, release_in, release_one, release_all, unguard_one, unguard_all, call_end, left_by, KeepsTrees}
use Rattle.tb_perm.proofs.Kept.{after-keeps, unguarded-keeps, KeepsTree-refl, KeepsTree-chain}

pub and_then-assoc : (ended : Ended) (f g : List AllocRows → Ended) → and_then (and_then ended f) g ≡ and_then ended (λ allocs. and_then (f allocs) g)
and_then-assoc (Ends allocs) f g = refl
and_then-assoc (Refuses id report allocs) f g = refl

-- more releases after some
pub release_all-append : (ps qs : List Prov) (allocs : List AllocRows) → release_all (ps ++ qs) allocs ≡ and_then (release_all ps allocs) (release_all qs)
release_all-append [] qs allocs = refl
release_all-append (p ∷ ps) qs allocs = at (release_one p allocs) (λ left. release_all-append ps qs left)
  where
    at : (ended : Ended) → ((left : List AllocRows) → release_all (ps ++ qs) left ≡ and_then (release_all ps left) (release_all qs)) → and_then ended (release_all (ps ++ qs)) ≡ and_then (and_then ended (release_all ps)) (release_all qs)
    at (Ends left) later = later left
    at (Refuses id report left) later = refl

-- one more release after some
pub release_all-more : (ps : List Prov) (p : Prov) (allocs : List AllocRows) → release_all (ps ++ p ∷ []) allocs ≡ and_then (release_all ps allocs) (release_one p)
release_all-more ps p allocs = release_all-append ps (p ∷ []) allocs ∙ at (release_all ps allocs)
  where
    one : (ended : Ended) → and_then ended (λ left. Ends left) ≡ ended
    one (Ends left) = refl
    one (Refuses id report left) = refl

    at : (ended : Ended) → and_then ended (release_all (p ∷ [])) ≡ and_then ended (release_one p)
    at (Ends left) = one (release_one p left)
    at (Refuses id report left) = refl

pub unguard_all-append : (ps qs : List Prov) (allocs : List AllocRows) → unguard_all (ps ++ qs) allocs ≡ unguard_all qs (unguard_all ps allocs)
unguard_all-append [] qs allocs = refl
unguard_all-append (p ∷ ps) qs allocs = unguard_all-append ps qs (unguard_one p allocs)

-- in a dead allocation nothing is released
pub release_dead : (p : Prov) (allocs : List AllocRows) → find (is_live p.alloc.0) allocs ≡ None → release_one p allocs ≡ Ends allocs
release_dead p allocs none = ap (release_in p allocs) none

-- a release in a live allocation, where no tag refuses
pub release_done : (p : Prov) (allocs : List AllocRows) (alloc : AllocRows) → find (is_live p.alloc.0) allocs ≡ Some alloc → release_report alloc.rows alloc.size p.tag.0 ≡ None → release_one p allocs ≡ Ends (with_rows p.alloc.0 (λ rows. released rows p.tag.0) allocs)
release_done p allocs alloc found none = ap (release_in p allocs) found ∙ ap (unless_refused p allocs) none

-- a release that a tag refuses
pub release_refused : (p : Prov) (allocs : List AllocRows) (alloc : AllocRows) (report : Report) → find (is_live p.alloc.0) allocs ≡ Some alloc → release_report alloc.rows alloc.size p.tag.0 ≡ Some report → release_one p allocs ≡ Refuses p.alloc report allocs
release_refused p allocs alloc report found told = ap (release_in p allocs) found ∙ ap (unless_refused p allocs) told

-- What is kept.

pub KeepsTrees-refl : (allocs : List AllocRows) → KeepsTrees allocs allocs
KeepsTrees-refl [] = tt
KeepsTrees-refl (a ∷ allocs) = (refl, refl, refl, KeepsTree-refl a.rows, KeepsTrees-refl allocs)

pub KeepsTrees-chain : (xs ys zs : List AllocRows) → KeepsTrees xs ys → KeepsTrees ys zs → KeepsTrees xs zs
KeepsTrees-chain [] [] [] h k = tt
KeepsTrees-chain (x ∷ xs) (y ∷ ys) (z ∷ zs) h k = (k.0 ∙ h.0, k.1 ∙ h.1, k.2 ∙ h.2, KeepsTree-chain x.rows y.rows z.rows h.3 k.3, KeepsTrees-chain xs ys zs h.4 k.4)
KeepsTrees-chain [] (y ∷ ys) zs h k = absurd h
KeepsTrees-chain (x ∷ xs) [] zs h k = absurd h
KeepsTrees-chain [] [] (z ∷ zs) h k = absurd k
KeepsTrees-chain (x ∷ xs) (y ∷ ys) [] h k = absurd k

with_rows-keeps : (id : ℕ) (change : List Row → List Row) → ((rows : List Row) → KeepsTree rows (change rows)) → (allocs : List AllocRows) → KeepsTrees allocs (with_rows id change allocs)
with_rows-keeps id change keeps [] = tt
with_rows-keeps id change keeps (a ∷ allocs) = at (is_live id a) (with_rows-keeps id change keeps allocs)
  where
    at : (b : Bool) → KeepsTrees allocs (with_rows id change allocs) → KeepsTrees (a ∷ allocs) (cond b (record a { rows = change a.rows }) a ∷ with_rows id change allocs)
    at true later = (refl, refl, refl, keeps a.rows, later)
    at false later = (refl, refl, refl, KeepsTree-refl a.rows, later)

release_one-keeps : (p : Prov) (allocs : List AllocRows) → KeepsTrees allocs (left_by (release_one p allocs))
release_one-keeps p allocs = at (find (is_live p.alloc.0) allocs)
  where
    told : (o : Option Report) → KeepsTrees allocs (left_by (unless_refused p allocs o))
    told None = with_rows-keeps p.alloc.0 (λ rows. released rows p.tag.0) (λ rows. after-keeps (release_event rows p.tag.0) rows) allocs
    told (Some report) = KeepsTrees-refl allocs

    at : (o : Option AllocRows) → KeepsTrees allocs (left_by (release_in p allocs o))
    at None = KeepsTrees-refl allocs
    at (Some a) = told (release_report a.rows a.size p.tag.0)

pub release_all-keeps : (ps : List Prov) (allocs : List AllocRows) → KeepsTrees allocs (left_by (release_all ps allocs))
release_all-keeps [] allocs = KeepsTrees-refl allocs
release_all-keeps (p ∷ ps) allocs = at (release_one p allocs) (release_one-keeps p allocs) (λ left. release_all-keeps ps left)
  where
    at : (ended : Ended) → KeepsTrees allocs (left_by ended) → ((left : List AllocRows) → KeepsTrees left (left_by (release_all ps left))) → KeepsTrees allocs (left_by (and_then ended (release_all ps)))
    at (Ends left) first later = KeepsTrees-chain allocs left (left_by (release_all ps left)) first (later left)
    at (Refuses id report left) first later = first

pub unguard_all-keeps : (ps : List Prov) (allocs : List AllocRows) → KeepsTrees allocs (unguard_all ps allocs)
unguard_all-keeps [] allocs = KeepsTrees-refl allocs
unguard_all-keeps (p ∷ ps) allocs =
    KeepsTrees-chain allocs (unguard_one p allocs) (unguard_all ps (unguard_one p allocs)) (with_rows-keeps p.alloc.0 (λ rows. unguarded rows p.tag.0) (λ rows. unguarded-keeps rows p.tag.0) allocs) (unguard_all-keeps ps (unguard_one p allocs))

-- the end of a call keeps the numbers, the sizes, what is live, and the trees
pub call_end-keeps : (ps : List Prov) (allocs : List AllocRows) → KeepsTrees allocs (left_by (call_end ps allocs))
call_end-keeps ps allocs = at (release_all ps allocs) (release_all-keeps ps allocs)
  where
    at : (ended : Ended) → KeepsTrees allocs (left_by ended) → KeepsTrees allocs (left_by (and_then ended (λ after. Ends (unguard_all ps after))))
    at (Ends left) first = KeepsTrees-chain allocs left (unguard_all ps left) first (unguard_all-keeps ps left)
    at (Refuses id report left) first = first
