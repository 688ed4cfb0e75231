-- What a retag of a pointer does to the memory of a run. The order of checks is that of an access: the pointer, then the
-- borrow rules. A tag is drawn where nothing stops it.
use Rattle.std.specs.Prelude.{ℕ, ◌+◌, cond, ◌==◌, Option, Some, None, Result, Ok, Err}
use Rattle.tb_perm.specs.declared.span.Span.{Span}
use Rattle.tb_perm.specs.declared.tag.Prov.{Prov}
use Rattle.tb_perm.specs.declared.new_tag.NewTag.{NewTag}
use Rattle.tb_perm.specs.Reborrow.{reborrow_report}
use Rattle.tb_alloc.specs.declared.ptr.Ptr.{Ptr}
use Rattle.tb_alloc.specs.declared.faults.AccessFault.{AccessFault}
use Rattle.tb_alloc.specs.Check.{check_of}
use Rattle.tb_types.specs.Table.{TypeTable}
use Rattle.tb_types.specs.Extent.{extent_of}
use Rattle.tb_new_tag.specs.declared.retag.Retag.{Retag}
use Rattle.tb_new_tag.specs.NewTags.{bytes_of, tag_of}
use Rattle.tb_events.specs.Memory.{RunMemory, rows_at, size_at}
use Rattle.tb_events.specs.Calls.{prov_made, with_tag}
use Rattle.tb_memory.specs.declared.stop.Stop.TheVariants.{Dangling}
use Rattle.tb_memory.specs.Heap.{Came, Done, Stopped, unless_refused, access_stop}

-- the tag that is drawn, below the pointer's own
abbrev pub drawn : RunMemory → TypeTable → Retag → Prov → ℕ → Span → NewTag
drawn memory types how prov offset made = tag_of types how prov.tag (record { 0 = memory.tags + 1 }) offset made

-- a reborrow through a provenance, after which the pointer to this address has the new tag
abbrev pub reborrowed : RunMemory → ℕ → Prov → NewTag → Came Ptr
reborrowed memory addr prov new =
    unless_refused memory prov (reborrow_report (rows_at memory prov.alloc.0) (size_at memory prov.alloc.0) new)
    (Done (with_tag memory prov.alloc new) (record { addr = addr; prov = Some (prov_made prov.alloc new) }))

abbrev pub if_named : RunMemory → TypeTable → Ptr → Retag → ℕ → Span → Option Prov → Came Ptr
if_named memory types ptr how offset made None = Stopped memory Dangling
if_named memory types ptr how offset made (Some prov) = reborrowed memory ptr.addr prov (drawn memory types how prov offset made)

-- a pointer to no bytes stays as it is
abbrev pub if_placed : RunMemory → TypeTable → Ptr → Retag → Span → Result ℕ AccessFault → Came Ptr
if_placed memory types ptr how made (Err fault) = Stopped memory (access_stop fault)
if_placed memory types ptr how made (Ok offset) = cond (bytes_of types how == 0) (Done memory ptr) (if_named memory types ptr how offset made ptr.prov)

-- a retag: the pointer is checked for all bytes that it points to, and then they are reborrowed
abbrev pub retagged : RunMemory → TypeTable → Ptr → Retag → Span → Came Ptr
retagged memory types ptr how made =
    if_placed memory types ptr how made (check_of memory.table ptr (bytes_of types how) (extent_of types how.pointee).align)
