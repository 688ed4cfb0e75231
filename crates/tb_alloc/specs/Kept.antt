-- What is true of the fields of every table.
use Rattle.std.specs.Prelude.{◌≡◌, ℕ, suc, cond, Option, Some, None, ◌+◌, ◌<◌, ◌≤◌, ◌^◌, List, [], ◌∷◌, map, ⊤}
use Rattle.std.specs.Int.{next_multiple_of}
use Rattle.tb_perm.specs.declared.tag.AllocId.{AllocId}
use Rattle.tb_perm.specs.declared.span.Span.{Span}
use Rattle.tb_alloc.specs.declared.allocation.Allocation.{Allocation}
use Rattle.tb_alloc.specs.Allocations.{end_of, next_candidate, live_bytes_of, live_limit, live_numbers, allocation_at, is_live_heap}

-- each allocation has the base that its alignment gives above the ones before it
abbrev pub ArePlaced : ℕ → List Allocation → Type 0
ArePlaced from [] = ⊤
ArePlaced from (a ∷ allocs) =
    (0 < a.align) × (a.base ≡ next_multiple_of from a.align) × ArePlaced (end_of a + 16) allocs

-- the number of an allocation
abbrev pub number_of : AllocId → ℕ
number_of id = id.0

pub record IsTable (allocs : List Allocation) (candidate live : ℕ) (ids : List AllocId) : Type 0 where
  pub placed : ArePlaced 65536 allocs
  pub is_candidate : candidate ≡ next_candidate allocs
  pub fits : candidate < 2 ^ 64
  pub is_live : live ≡ live_bytes_of allocs
  pub limit : live ≤ live_limit
  pub numbers : map number_of ids ≡ live_numbers allocs

-- the numbers rise, from one that is at least `low` on
abbrev pub AreRisingFrom : ℕ → List AllocId → Type 0
AreRisingFrom low [] = ⊤
AreRisingFrom low (id ∷ ids) = (low ≤ id.0) × AreRisingFrom (suc id.0) ids

-- where an allocation was made, if it is a live one of the heap
abbrev pub heap_made : Option Allocation → Option Span
heap_made None = None
heap_made (Some a) = cond (is_live_heap a) (Some a.made) None

-- the first of two that is there
abbrev pub or_made : Option Span → Option Span → Option Span
or_made None rest = rest
or_made (Some made) rest = Some made

-- where the first live allocation of the heap was made, of those with these numbers
abbrev pub first_made : List Allocation → List AllocId → Option Span
first_made allocs [] = None
first_made allocs (id ∷ ids) = or_made (heap_made (allocation_at allocs id.0)) (first_made allocs ids)
