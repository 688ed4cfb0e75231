-- When bytes may be accessed, before the borrow rules are asked.
use Rattle.std.specs.Prelude.{◌≡◌, ℕ, ◌+◌, ◌-◌, ◌%◌, ◌<◌, ◌≤◌, Bool, cond, ◌&&◌, nat_le, ◌==◌, List, Option, Some, None, Result, Ok, Err}
use Rattle.tb_perm.specs.declared.tag.Prov.{Prov}
use Rattle.tb_alloc.specs.declared.allocation.Allocation.{Allocation}
use Rattle.tb_alloc.specs.declared.ptr.Ptr.{Ptr}
use Rattle.tb_alloc.specs.declared.faults.AccessFault.{AccessFault}
use Rattle.tb_alloc.specs.declared.faults.AccessFault.TheVariants.{Dangling, OutOfBounds, Misaligned}
use Rattle.tb_alloc.specs.Allocations.{end_of, allocation_at}

-- the allocation, if it is live
abbrev pub if_live : Option Allocation → Option Allocation
if_live None = None
if_live (Some a) = cond a.live (Some a) None

-- the live allocation that a provenance names
abbrev pub live_of : List Allocation → Option Prov → Option Allocation
live_of allocs None = None
live_of allocs (Some prov) = if_live (allocation_at allocs prov.alloc.0)

-- so many bytes from the address on lie in the allocation
abbrev pub is_inside : Allocation → ℕ → ℕ → Bool
is_inside a addr size = nat_le a.base addr && nat_le (addr + size) (end_of a)

-- the place of the first of these bytes, counted from the base, where all lie in the allocation
abbrev pub offset_in : Allocation → ℕ → ℕ → Option ℕ
offset_in a addr size = cond (is_inside a addr size) (Some (addr - a.base)) None

-- the offset, where the address is a multiple of the alignment
abbrev pub check_aligned : ℕ → ℕ → ℕ → Result ℕ AccessFault
check_aligned addr align offset = cond (addr % align == 0) (Ok offset) (Err Misaligned)

-- the bytes lie in the allocation, and then the address is a multiple of the alignment
abbrev pub check_inside : ℕ → ℕ → Option ℕ → Result ℕ AccessFault
check_inside addr align None = Err OutOfBounds
check_inside addr align (Some offset) = check_aligned addr align offset

-- there is a live allocation, and then the bytes are checked in it
abbrev pub check_live : ℕ → ℕ → ℕ → Option Allocation → Result ℕ AccessFault
check_live addr size align None = Err Dangling
check_live addr size align (Some a) = check_inside addr align (offset_in a addr size)

-- the offset of an access, or the first fault; an access to no bytes needs its alignment alone
abbrev pub check_of : List Allocation → Ptr → ℕ → ℕ → Result ℕ AccessFault
check_of allocs ptr size align =
    cond (size == 0) (check_aligned ptr.addr align 0) (check_live ptr.addr size align (live_of allocs ptr.prov))

-- what is true of an access that is sound so far: its address is aligned, and if it has bytes, they all
-- lie in the live allocation that it names
pub record IsAccess (allocs : List Allocation) (ptr : Ptr) (size align offset : ℕ) : Type 0 where
  pub aligned : ptr.addr % align ≡ 0
  pub empty : size ≡ 0 → offset ≡ 0
  pub bytes : 0 < size → (a : Allocation) × (live_of allocs ptr.prov ≡ Some a) × (ptr.addr ≡ a.base + offset) × (offset + size ≤ a.size)
