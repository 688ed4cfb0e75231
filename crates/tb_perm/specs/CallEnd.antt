-- The end of a call. Each tag that the call protects is released, in the order in which the tags were
-- made. Then their guards go. Tags of dead allocations are passed over.
use Rattle.std.specs.Prelude.{◌≡◌, ⊤, ℕ, Bool, true, cond, ◌&&◌, ◌==◌, List, [], ◌∷◌, map, find, Option, Some, None}
use Rattle.std.specs.List.{AllByRecursion}
use Rattle.tb_perm.specs.declared.perm.Guard.TheVariants.{Free}
use Rattle.tb_perm.specs.declared.tag.AllocId.{AllocId}
use Rattle.tb_perm.specs.declared.tag.Prov.{Prov}
use Rattle.tb_perm.specs.declared.report.Report.{Report}
use Rattle.tb_perm.specs.Rows.{Row, guard_in, unguarded}
use Rattle.tb_perm.specs.Tree.{KeepsTree}
use Rattle.tb_perm.specs.Release.{released, release_report}

-- one allocation: its number, its size in bytes, whether it is live, and the rows of its tags
pub record AllocRows : Type 0 where
  pub id : ℕ
  pub size : ℕ
  pub live : Bool
  pub rows : List Row

-- the allocation is live and has this number
abbrev pub is_live : ℕ → AllocRows → Bool
is_live id alloc = alloc.live && alloc.id == id

-- the rows of the live allocation of this number, changed so
abbrev pub with_rows : ℕ → (List Row → List Row) → List AllocRows → List AllocRows
with_rows id change allocs = map (λ (alloc : AllocRows). cond (is_live id alloc) (record alloc { rows = change alloc.rows }) alloc) allocs

-- What releases come to: the allocations afterwards; or the allocation in which a tag refused, its
-- report, and the allocations as the releases before left them.
pub data Ended : Type 0 where
  Ends : List AllocRows → Ended
  Refuses : AllocId → Report → List AllocRows → Ended

-- and then, where no tag refused
abbrev pub and_then : Ended → (List AllocRows → Ended) → Ended
and_then (Ends allocs) next = next allocs
and_then (Refuses id report allocs) next = Refuses id report allocs

abbrev pub unless_refused : Prov → List AllocRows → Option Report → Ended
unless_refused prov allocs None = Ends (with_rows prov.alloc.0 (λ rows. released rows prov.tag.0) allocs)
unless_refused prov allocs (Some report) = Refuses prov.alloc report allocs

abbrev pub release_in : Prov → List AllocRows → Option AllocRows → Ended
release_in prov allocs None = Ends allocs
release_in prov allocs (Some alloc) = unless_refused prov allocs (release_report alloc.rows alloc.size prov.tag.0)

-- the release of one tag
abbrev pub release_one : Prov → List AllocRows → Ended
release_one prov allocs = release_in prov allocs (find (is_live prov.alloc.0) allocs)

-- the releases of all tags, each on the rows that the one before left
abbrev pub release_all : List Prov → List AllocRows → Ended
release_all [] allocs = Ends allocs
release_all (prov ∷ provs) allocs = and_then (release_one prov allocs) (release_all provs)

-- the allocations once the guard of one tag is gone
abbrev pub unguard_one : Prov → List AllocRows → List AllocRows
unguard_one prov allocs = with_rows prov.alloc.0 (λ rows. unguarded rows prov.tag.0) allocs

-- the allocations once the guards of all tags are gone
abbrev pub unguard_all : List Prov → List AllocRows → List AllocRows
unguard_all [] allocs = allocs
unguard_all (prov ∷ provs) allocs = unguard_all provs (unguard_one prov allocs)

-- the end of a call that protects these tags
abbrev pub call_end : List Prov → List AllocRows → Ended
call_end provs allocs = and_then (release_all provs allocs) (λ after. Ends (unguard_all provs after))

-- the allocations that are left, whether a tag refused or not
abbrev pub left_by : Ended → List AllocRows
left_by (Ends allocs) = allocs
left_by (Refuses id report allocs) = allocs

-- where its allocation is live the tag has no guard
abbrev pub IsFreeAt : List AllocRows → Prov → Type 0
IsFreeAt allocs prov = AllByRecursion (λ (alloc : AllocRows). is_live prov.alloc.0 alloc ≡ true → guard_in alloc.rows prov.tag.0 ≡ Free) allocs

-- the same allocations in the same order, with the same sizes, as live as before, with the same trees
abbrev pub KeepsTrees : List AllocRows → List AllocRows → Type 0
KeepsTrees [] [] = ⊤
KeepsTrees (old ∷ olds) (new ∷ news) =
    (new.id ≡ old.id) × (new.size ≡ old.size) × (new.live ≡ old.live) × KeepsTree old.rows new.rows × KeepsTrees olds news
KeepsTrees [] (new ∷ news) = ⊥
KeepsTrees (old ∷ olds) [] = ⊥
