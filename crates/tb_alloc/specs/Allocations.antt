-- The allocations of a run as a list in the order of their making, live and dead. Numbers count from 1,
-- so the one with the number n stands at place n - 1.
use Rattle.std.specs.Prelude.{ℕ, zero, suc, ◌+◌, Bool, true, false, cond, ◌&&◌, List, [], ◌∷◌, Option, Some, None, slice_get, slice_set}
use Rattle.std.specs.List.{find, sum_by}
use Rattle.std.specs.Option.{option_map}
use Rattle.std.specs.Int.{next_multiple_of}
use Rattle.tb_perm.specs.declared.span.Span.{Span}
use Rattle.tb_alloc.specs.declared.allocation.Allocation.{Allocation}
use Rattle.tb_alloc.specs.declared.allocation.AllocKind.{AllocKind}
use Rattle.tb_alloc.specs.declared.allocation.AllocKind.TheVariants.{Stack, Heap}

-- the first address after its bytes
abbrev pub end_of : Allocation → ℕ
end_of a = a.base + a.size

-- the allocation with this number; no allocation has the number 0
abbrev pub allocation_at : List Allocation → ℕ → Option Allocation
allocation_at allocs zero = None
allocation_at allocs (suc place) = slice_get allocs place

-- where the next base is looked for, after these allocations: 16 above the end of the last one
abbrev pub candidate_after : ℕ → List Allocation → ℕ
candidate_after from [] = from
candidate_after from (a ∷ allocs) = candidate_after (end_of a + 16) allocs

-- where the next base is looked for, at first at 65,536
abbrev pub next_candidate : List Allocation → ℕ
next_candidate allocs = candidate_after 65536 allocs

-- the base that the next allocation with this alignment gets
abbrev pub next_base : List Allocation → ℕ → ℕ
next_base allocs align = next_multiple_of (next_candidate allocs) align

-- what is allocated next
abbrev pub new_allocation : List Allocation → ℕ → ℕ → AllocKind → Span → Allocation
new_allocation allocs size align kind made =
    record {
      base = next_base allocs align;
      size = size;
      align = align;
      kind = kind;
      made = made;
      live = true;
    }

-- the bytes that it holds while it is live
abbrev pub live_size : Allocation → ℕ
live_size a = cond a.live a.size 0

-- the bytes of all live allocations
abbrev pub live_bytes_of : List Allocation → ℕ
live_bytes_of allocs = sum_by live_size allocs

-- how many bytes may be live at once
abbrev pub live_limit : ℕ
live_limit = 16777216

-- the allocation, dead
abbrev pub dead : Allocation → Allocation
dead a = record a { live = false }

-- the allocations with the one at this place dead, if there is one
abbrev pub dead_at : List Allocation → ℕ → Option Allocation → List Allocation
dead_at allocs place None = allocs
dead_at allocs place (Some a) = slice_set allocs place (dead a)

-- the allocations with the one of this number dead, if there is one
abbrev pub killed : List Allocation → ℕ → List Allocation
killed allocs zero = allocs
killed allocs (suc place) = dead_at allocs place (slice_get allocs place)

-- it is of the heap
abbrev pub is_heap : AllocKind → Bool
is_heap Stack = false
is_heap Heap = true

-- it is live, and the program has to free it
abbrev pub is_live_heap : Allocation → Bool
is_live_heap a = is_heap a.kind && a.live

-- where the live heap allocation with the least number was made
abbrev pub least_live_heap : List Allocation → Option Span
least_live_heap allocs = option_map (λ (a : Allocation). a.made) (find is_live_heap allocs)

-- the numbers of the live ones, counted from a first number
abbrev pub live_from : ℕ → List Allocation → List ℕ
live_from number [] = []
live_from number (a ∷ allocs) = cond a.live (number ∷ live_from (suc number) allocs) (live_from (suc number) allocs)

-- the numbers of the live allocations, in order
abbrev pub live_numbers : List Allocation → List ℕ
live_numbers allocs = live_from 1 allocs
