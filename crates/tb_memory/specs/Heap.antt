-- What typed accesses, allocations and frees do to the memory of a run. The checks stand in the order of the definitions:
-- the pointer, then the borrow rules, then the value.
use Rattle.std.specs.Prelude.{ℕ, ◌+◌, cond, nat_lt, ◌==◌, List, [], ◌∷◌, length, Option, Some, None, Result, Ok, Err}
use Rattle.std.specs.List.{slice_range, splice}
use Rattle.tb_perm.specs.declared.span.Span.{Span}
use Rattle.tb_perm.specs.declared.tag.AllocId.{AllocId}
use Rattle.tb_perm.specs.declared.tag.Prov.{Prov}
use Rattle.tb_perm.specs.declared.perm.Kind.{Kind}
use Rattle.tb_perm.specs.declared.perm.Kind.TheVariants.{Read, Write}
use Rattle.tb_perm.specs.declared.report.Report.{Report}
use Rattle.tb_perm.specs.declared.report.TreeError.{TreeError}
use Rattle.tb_perm.specs.declared.report.TreeError.TheVariants as tree_error
use Rattle.tb_perm.specs.Access.{accessed, access_report}
use Rattle.tb_perm.specs.Deallocation.{dealloc_report}
use Rattle.tb_bytes.specs.declared.byte_val.ByteVal.{ByteVal}
use Rattle.tb_alloc.specs.declared.allocation.Allocation.{Allocation}
use Rattle.tb_alloc.specs.declared.allocation.AllocKind.{AllocKind}
use Rattle.tb_alloc.specs.declared.ptr.Ptr.{Ptr}
use Rattle.tb_alloc.specs.declared.faults.AccessFault.{AccessFault}
use Rattle.tb_alloc.specs.declared.faults.AccessFault.TheVariants as access_fault
use Rattle.tb_alloc.specs.declared.faults.AllocError.{AllocError}
use Rattle.tb_alloc.specs.declared.faults.AllocError.TheVariants as alloc_error
use Rattle.tb_alloc.specs.declared.faults.FreeFault.{FreeFault}
use Rattle.tb_alloc.specs.declared.faults.FreeFault.TheVariants as free_fault
use Rattle.tb_alloc.specs.Allocations.{live_bytes_of, live_limit}
use Rattle.tb_alloc.specs.Check.{live_of, check_of}
use Rattle.tb_alloc.specs.Free.{free_of}
use Rattle.tb_types.specs.declared.shape.Ty.{Ty}
use Rattle.tb_types.specs.Table.{TypeTable}
use Rattle.tb_types.specs.Extent.{extent_of}
use Rattle.tb_value.specs.declared.fault.ValueFault.{ValueFault}
use Rattle.tb_value.specs.declared.fault.ValueFault.TheVariants as value_fault
use Rattle.tb_value.specs.Copies.{typed_copy, copy_of}
use Rattle.tb_store.specs.Store.{bytes_at}
use Rattle.tb_forest.specs.Forest.{TreeRows}
use Rattle.tb_events.specs.Memory.{RunMemory, rows_at, size_at, with_rows, with_bytes, with_made, made_pointer, without}
use Rattle.tb_memory.specs.declared.stop.Stop.{Stop}
use Rattle.tb_memory.specs.declared.stop.Stop.TheVariants.{Dangling, OutOfBounds, Misaligned, Borrow, Uninit, InvalidValue, BadFree, LiveLimit, Memory}

-- What a call comes to: it is done, leaves this memory, and answers; or it stops, and leaves this memory.
pub data Came (A : Type 0) : Type 0 where
  Done : RunMemory → A → Came A
  Stopped : RunMemory → Stop → Came A

-- and then, where it did not stop
abbrev pub and_then : {A B : Type 0} → Came A → (RunMemory → A → Came B) → Came B
and_then (Done memory answer) next = next memory answer
and_then (Stopped memory stop) next = Stopped memory stop

-- why an access is not made, as a stop
abbrev pub access_stop : AccessFault → Stop
access_stop access_fault.Dangling = Dangling
access_stop access_fault.OutOfBounds = OutOfBounds
access_stop access_fault.Misaligned = Misaligned

-- what a tree answers, as a stop
abbrev pub tree_stop : AllocId → TreeError → Stop
tree_stop alloc (tree_error.Borrow report) = Borrow alloc report
tree_stop alloc tree_error.Memory = Memory

-- a refusal stops the call, and nothing has changed
abbrev pub unless_refused : {A : Type 0} → RunMemory → Prov → Option Report → Came A → Came A
unless_refused memory prov None came = came
unless_refused memory prov (Some report) came = Stopped memory (Borrow prov.alloc report)

-- an access to bytes of the allocation that a provenance names
abbrev pub through : RunMemory → Option Prov → ℕ → ℕ → Kind → Came ℕ
through memory None offset size kind = Stopped memory Dangling
through memory (Some prov) offset size kind =
    unless_refused memory prov (access_report (rows_at memory prov.alloc.0) (size_at memory prov.alloc.0) prov.tag.0 offset (offset + size) kind)
    (Done (with_rows memory prov.alloc.0 (λ (tree : TreeRows). accessed tree.rows prov.tag.0 offset (offset + size) kind)) offset)

abbrev pub if_checked : RunMemory → Ptr → ℕ → Kind → Result ℕ AccessFault → Came ℕ
if_checked memory ptr size kind (Err fault) = Stopped memory (access_stop fault)
if_checked memory ptr size kind (Ok offset) = cond (size == 0) (Done memory offset) (through memory ptr.prov offset size kind)

-- an access to so many bytes at a pointer; of no bytes the alignment alone is checked
abbrev pub access : RunMemory → Ptr → ℕ → ℕ → Kind → Came ℕ
access memory ptr size align kind = if_checked memory ptr size kind (check_of memory.table ptr size align)

-- the bytes of an allocation from an offset on
abbrev pub bytes_of : RunMemory → Option Prov → ℕ → ℕ → List ByteVal
bytes_of memory None offset size = []
bytes_of memory (Some prov) offset size = slice_range (bytes_at memory.contents prov.alloc.0) offset (offset + size)

-- no bytes where there are none to read
abbrev pub bytes_through : RunMemory → Option Prov → ℕ → ℕ → List ByteVal
bytes_through memory prov offset size = cond (size == 0) [] (bytes_of memory prov offset size)

-- why bytes are no value, as a stop
abbrev pub value_stop : ValueFault → Stop
value_stop (value_fault.Uninit place) = Uninit
value_stop (value_fault.Invalid place) = InvalidValue
value_stop value_fault.Memory = Memory

-- the value that was read, or a stop, after which the access has been made
abbrev pub valued : RunMemory → Result (List ByteVal) ValueFault → Came (List ByteVal)
valued memory (Ok copy) = Done memory copy
valued memory (Err fault) = Stopped memory (value_stop fault)

-- a load: a read access, and then the typed copy of the bytes
abbrev pub loaded : RunMemory → TypeTable → Ptr → Ty → Came (List ByteVal)
loaded memory types ptr ty =
    and_then (access memory ptr (extent_of types ty).size (extent_of types ty).align Read)
    (λ now offset. valued now (copy_of types ty (bytes_through now ptr.prov offset (extent_of types ty).size)))

-- the memory after bytes were written
abbrev pub written : RunMemory → Option Prov → ℕ → List ByteVal → RunMemory
written memory prov offset [] = memory
written memory None offset (byte ∷ bytes) = memory
written memory (Some prov) offset (byte ∷ bytes) =
    with_bytes memory prov.alloc.0 (splice (bytes_at memory.contents prov.alloc.0) offset (offset + length (byte ∷ bytes)) (byte ∷ bytes))

-- a store: a write access, and then the typed copy of the given bytes stands there
abbrev pub stored : RunMemory → TypeTable → Ptr → Ty → List ByteVal → Came (Unit {0})
stored memory types ptr ty bytes =
    and_then (access memory ptr (extent_of types ty).size (extent_of types ty).align Write)
    (λ now offset. Done (written now ptr.prov offset (typed_copy types ty bytes)) tt)

-- why an allocation is not made, as a stop
abbrev pub alloc_stop : AllocError → Stop
alloc_stop alloc_error.LiveLimit = LiveLimit
alloc_stop alloc_error.Memory = Memory

-- an allocation, unless the live bytes would pass the limit
abbrev pub made : RunMemory → ℕ → ℕ → AllocKind → Span → Came Ptr
made memory size align kind span =
    cond (nat_lt live_limit (live_bytes_of memory.table + size)) (Stopped memory LiveLimit) (Done (with_made memory size align kind span) (made_pointer memory align))

-- a deallocation of the allocation that a provenance names
abbrev pub ended : RunMemory → Option Prov → Came (Unit {0})
ended memory None = Stopped memory Dangling
ended memory (Some prov) =
    unless_refused memory prov (dealloc_report (rows_at memory prov.alloc.0) (size_at memory prov.alloc.0) prov.tag.0) (Done (without memory prov.alloc.0) tt)

abbrev pub free_stop : FreeFault → Stop
free_stop free_fault.Dangling = Dangling
free_stop free_fault.BadFree = BadFree

abbrev pub if_block : RunMemory → Ptr → Result (Unit {0}) FreeFault → Came (Unit {0})
if_block memory ptr (Err fault) = Stopped memory (free_stop fault)
if_block memory ptr (Ok block) = ended memory ptr.prov

-- a free of the block of the heap that a pointer points to, of this size and alignment
abbrev pub freed : RunMemory → Ptr → ℕ → ℕ → Came (Unit {0})
freed memory ptr size align = if_block memory ptr (free_of memory.table ptr size align)

abbrev pub if_live : RunMemory → Ptr → Option Allocation → Came (Unit {0})
if_live memory ptr None = Stopped memory Dangling
if_live memory ptr (Some a) = ended memory ptr.prov

-- the end of the life of a variable
abbrev pub dead : RunMemory → Ptr → Came (Unit {0})
dead memory ptr = if_live memory ptr (live_of memory.table ptr.prov)
