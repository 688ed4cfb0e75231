-- Allocations whose own rows stand for eager rows, and the end of a call on both.
use Rattle.std.specs.Prelude.{◌≡◌, ◌≢◌, ⊤, ℕ, ◌<◌, true, ◌==◌, List, [], ◌∷◌, map, filter}
use Rattle.std.specs.List.{AllByRecursion}
use Rattle.tb_perm.specs.declared.tag.Prov.{Prov}
use Rattle.tb_perm.specs.Rows.{Row, HasTag}
use Rattle.tb_perm.specs.CallEnd.{AllocRows, is_live, Ended, Ends, Refuses}
use Rattle.tb_stands.specs.Stands.{Stands}

-- the reached tags of the allocation of this number
abbrev pub reached_in : List Prov → ℕ → List ℕ
reached_in reached id = map (λ (prov : Prov). prov.tag.0) (filter (λ (prov : Prov). prov.alloc.0 == id) reached)

-- the same allocation; where it is live its own rows stand for the eager ones
abbrev pub StandsAt : List Prov → AllocRows → AllocRows → Type 0
StandsAt reached own eager = (own.id ≡ eager.id) × (own.size ≡ eager.size) × (own.live ≡ eager.live) × (own.live ≡ true → Stands own.size own.rows eager.rows (reached_in reached own.id))

-- the same allocations in the same order, each as above
abbrev pub StandAll : List Prov → List AllocRows → List AllocRows → Type 0
StandAll reached [] [] = ⊤
StandAll reached (own ∷ owns) (eager ∷ eagers) = StandsAt reached own eager × StandAll reached owns eagers
StandAll reached [] (eager ∷ eagers) = ⊥
StandAll reached (own ∷ owns) [] = ⊥

-- no two allocations have the same number
abbrev pub AreNumbered : List AllocRows → Type 0
AreNumbered [] = ⊤
AreNumbered (alloc ∷ allocs) = AllByRecursion (λ (other : AllocRows). other.id ≢ alloc.id) allocs × AreNumbered allocs

-- all eager tags of all allocations are below the next tag
abbrev pub AreBelow : ℕ → List AllocRows → Type 0
AreBelow next allocs = AllByRecursion (λ (alloc : AllocRows). AllByRecursion (λ (row : Row). row.tag < next) alloc.rows) allocs

-- what the own allocations of a machine say of an eager state's: they stand for them, have numbers of their own,
-- and the next tag is above all that were ever made
pub record StandFor (reached : List Prov) (next : ℕ) (owns eagers : List AllocRows) : Type 0 where
  pub stand : StandAll reached owns eagers
  pub numbered : AreNumbered owns
  pub below : AreBelow next eagers

-- where its allocation is live the tag is there
abbrev pub IsKnown : List AllocRows → Prov → Type 0
IsKnown allocs prov = AllByRecursion (λ (alloc : AllocRows). is_live prov.alloc.0 alloc ≡ true → HasTag alloc.rows prov.tag.0) allocs

-- the end of a call came to the same on own rows and on eager rows: both are done, or the same tag refused with
-- the same report; and what is left stands again
abbrev pub EndsAlike : List Prov → Ended → Ended → Type 0
EndsAlike reached (Ends owns) (Ends eagers) = StandAll reached owns eagers
EndsAlike reached (Refuses own report owns) (Refuses eager told eagers) = (own ≡ eager) × (report ≡ told) × StandAll reached owns eagers
EndsAlike reached (Ends owns) (Refuses eager told eagers) = ⊥
EndsAlike reached (Refuses own report owns) (Ends eagers) = ⊥
