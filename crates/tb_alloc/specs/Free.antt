-- When a block may be freed, before the borrow rules are asked.
use Rattle.std.specs.Prelude.{◌≡◌, ℕ, Bool, true, cond, ◌&&◌, ◌==◌, List, Option, Some, None, Result, Ok, Err}
use Rattle.tb_alloc.specs.declared.allocation.Allocation.{Allocation}
use Rattle.tb_alloc.specs.declared.ptr.Ptr.{Ptr}
use Rattle.tb_alloc.specs.declared.faults.FreeFault.{FreeFault}
use Rattle.tb_alloc.specs.declared.faults.FreeFault.TheVariants.{Dangling, BadFree}
use Rattle.tb_alloc.specs.Allocations.{is_heap}
use Rattle.tb_alloc.specs.Check.{live_of}

-- it is of the heap, and has this base, size and alignment
abbrev pub is_block : Allocation → ℕ → ℕ → ℕ → Bool
is_block a addr size align = is_heap a.kind && (a.base == addr) && (a.size == size) && (a.align == align)

-- there is a live allocation, and then it is the block
abbrev pub free_live : ℕ → ℕ → ℕ → Option Allocation → Result Unit FreeFault
free_live addr size align None = Err Dangling
free_live addr size align (Some a) = cond (is_block a addr size align) (Ok tt) (Err BadFree)

-- whether the block of a pointer may be freed with a size and an alignment, or the first fault
abbrev pub free_of : List Allocation → Ptr → ℕ → ℕ → Result Unit FreeFault
free_of allocs ptr size align = free_live ptr.addr size align (live_of allocs ptr.prov)
