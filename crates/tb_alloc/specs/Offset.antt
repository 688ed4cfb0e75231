-- When a pointer may be moved by a distance in bytes.
use Rattle.std.specs.Prelude.{◌≡◌, ℕ, zero, suc, ◌+◌, ◌-◌, Bool, true, false, cond, ◌&&◌, nat_le, List, Option, Some, None, Result, Ok, Err, ℤ, pos, negsuc}
use Rattle.tb_alloc.specs.declared.allocation.Allocation.{Allocation}
use Rattle.tb_alloc.specs.declared.ptr.Ptr.{Ptr}
use Rattle.tb_alloc.specs.declared.faults.OffsetFault.{OffsetFault}
use Rattle.tb_alloc.specs.declared.faults.OffsetFault.TheVariants.{Dangling, OutOfBounds}
use Rattle.tb_alloc.specs.Allocations.{end_of}
use Rattle.tb_alloc.specs.Check.{live_of}

-- so many bytes above an address, where the address and the result lie in the allocation or at its end
abbrev pub forward_in : Allocation → ℕ → ℕ → Option ℕ
forward_in a addr by = cond (nat_le a.base addr && nat_le (addr + by) (end_of a)) (Some (addr + by)) None

-- so many bytes below it
abbrev pub back_in : Allocation → ℕ → ℕ → Option ℕ
back_in a addr by = cond (nat_le (a.base + by) addr && nat_le addr (end_of a)) (Some (addr - by)) None

-- the address at a signed distance, where both lie in the allocation or at its end
abbrev pub moved_in : Allocation → ℕ → ℤ → Option ℕ
moved_in a addr (pos by) = forward_in a addr by
moved_in a addr (negsuc less) = back_in a addr (suc less)

-- no distance at all
abbrev pub is_none : ℤ → Bool
is_none (pos zero) = true
is_none (pos (suc by)) = false
is_none (negsuc less) = false

-- the pointer with the new address
abbrev pub offset_inside : Ptr → Option ℕ → Result Ptr OffsetFault
offset_inside ptr None = Err OutOfBounds
offset_inside ptr (Some addr) = Ok (record ptr { addr = addr })

-- there is a live allocation, and then the pointer is moved in it
abbrev pub offset_live : Ptr → ℤ → Option Allocation → Result Ptr OffsetFault
offset_live ptr distance None = Err Dangling
offset_live ptr distance (Some a) = offset_inside ptr (moved_in a ptr.addr distance)

-- the pointer at a distance, or the first fault; any pointer may be moved by no distance
abbrev pub offset_of : List Allocation → Ptr → ℤ → Result Ptr OffsetFault
offset_of allocs ptr distance =
    cond (is_none distance) (Ok ptr) (offset_live ptr distance (live_of allocs ptr.prov))
