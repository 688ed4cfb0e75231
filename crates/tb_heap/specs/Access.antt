-- What lines do to memory through a pointer. Each event reaches the whole of the allocation that the pointer names.
use Rattle.std.specs.Prelude.{◌≡◌, ℕ, ◌+◌, Bool, true, false, [], Option, Some, None, Result, Ok, Err, ⊤}
use Rattle.tb_perm.specs.declared.span.Span.{Span}
use Rattle.tb_perm.specs.declared.tag.Prov.{Prov}
use Rattle.tb_perm.specs.declared.perm.Perm.{Perm}
use Rattle.tb_perm.specs.declared.perm.Perm.TheVariants.{Reserved, Frozen}
use Rattle.tb_perm.specs.declared.perm.Guard.TheVariants.{Free}
use Rattle.tb_perm.specs.declared.perm.Kind.{Kind}
use Rattle.tb_perm.specs.declared.perm.Kind.TheVariants.{Read, Write}
use Rattle.tb_perm.specs.declared.new_tag.NewTag.{NewTag}
use Rattle.tb_perm.specs.declared.report.Report.{Report}
use Rattle.tb_perm.specs.Access.{accessed, access_report}
use Rattle.tb_perm.specs.Reborrow.{reborrowed, reborrow_report}
use Rattle.tb_perm.specs.Deallocation.{deallocated, dealloc_report}
use Rattle.tb_heap.specs.Memory.{RunMemory, Allocation, pointee, changed, tagged}
use Rattle.tb_heap.specs.declared.value.Value.{Value}
use Rattle.tb_heap.specs.declared.stop.Stop.{Stop}
use Rattle.tb_heap.specs.declared.stop.Stop.TheVariants.{Dangling, Borrow, Uninit, Memory}

-- What an event comes to on one allocation: it leaves this and answers, or it stops.
pub data Change (A : Type 0) : Type 0 where
  Leaves : Allocation → A → Change A
  Stops : Stop → Change A

-- a refusal stops the event
abbrev pub unless_refused : {A : Type 0} → Prov → Option Report → Change A → Change A
unless_refused prov None change = change
unless_refused prov (Some report) change = Stops (Borrow prov.alloc report)

-- the allocation after an access of this kind to all of its bytes
abbrev pub after_access : Allocation → Prov → Kind → Allocation
after_access allocation prov kind = record allocation { rows = accessed allocation.rows prov.tag.0 0 allocation.size kind }

abbrev pub report_of_access : Allocation → Prov → Kind → Option Report
report_of_access allocation prov kind = access_report allocation.rows allocation.size prov.tag.0 0 allocation.size kind

-- an access of this kind
abbrev pub access : Kind → Prov → Allocation → Change (Unit {0})
access kind prov allocation = unless_refused prov (report_of_access allocation prov kind) (Leaves (after_access allocation prov kind) tt)

-- what was stored last; a load of bytes that have no value stops
abbrev pub content_of : Allocation → Option Value → Change Value
content_of allocation None = Stops Uninit
content_of allocation (Some value) = Leaves allocation value

-- a load: a read access, and then the value
abbrev pub load : Prov → Allocation → Change Value
load prov allocation =
    unless_refused prov (report_of_access allocation prov Read) (content_of (after_access allocation prov Read) allocation.content)

-- a store: a write access, and then the value stands there
abbrev pub store : Value → Prov → Allocation → Change (Unit {0})
store value prov allocation =
    unless_refused prov (report_of_access allocation prov Write) (Leaves (record (after_access allocation prov Write) { content = Some value }) tt)

-- what a new reference may do: a unique one is reserved, a shared one frozen
abbrev pub perm_of : Bool → Perm
perm_of true = Reserved
perm_of false = Frozen

-- the tag that a retag makes, below the pointer's own
abbrev pub new_tag : ℕ → Prov → ℕ → Bool → Span → NewTag
new_tag tag prov size unique made =
    record {
      parent = prov.tag;
      tag = record { 0 = tag };
      lo = 0;
      hi = size;
      perm = perm_of unique;
      outside = perm_of unique;
      cells = [];
      guard = Free;
      made = made;
    }

-- the allocation with the new tag's row
abbrev pub after_retag : Allocation → NewTag → Allocation
after_retag allocation new = record allocation { rows = reborrowed allocation.rows allocation.size new }

-- a retag: a reborrow of the whole, and then the pointer has the new tag
abbrev pub retag : ℕ → Bool → Span → Prov → Allocation → Change Prov
retag tag unique made prov allocation =
    unless_refused prov (reborrow_report allocation.rows allocation.size (new_tag tag prov allocation.size unique made))
    (Leaves (after_retag allocation (new_tag tag prov allocation.size unique made)) (record { alloc = prov.alloc; tag = record { 0 = tag } }))

-- the allocation once it is freed
abbrev pub after_free : Allocation → Prov → Allocation
after_free allocation prov = record allocation { live = false; rows = deallocated allocation.rows allocation.size prov.tag.0 }

-- a deallocation: a write access to all bytes, and then the allocation is not live
abbrev pub free : Prov → Allocation → Change (Unit {0})
free prov allocation = unless_refused prov (dealloc_report allocation.rows allocation.size prov.tag.0) (Leaves (after_free allocation prov) tt)

-- What an event comes to on the whole memory.
pub data Came (A : Type 0) : Type 0 where
  Done : RunMemory → A → Came A
  Stopped : Stop → Came A

abbrev pub placed : {A : Type 0} → RunMemory → Prov → Change A → Came A
placed memory prov (Leaves allocation answer) = Done (changed memory prov allocation) answer
placed memory prov (Stops stop) = Stopped stop

abbrev pub at_pointee : {A : Type 0} → RunMemory → Option (Prov × Allocation) → (Prov → Allocation → Change A) → Came A
at_pointee memory None event = Stopped Dangling
at_pointee memory (Some found) event = placed memory found.0 (event found.0 found.1)

-- an event through a pointer, on what it points to; a pointer to nothing that is live dangles
abbrev pub through : {A : Type 0} → RunMemory → Option Prov → (Prov → Allocation → Change A) → Came A
through memory pointer event = at_pointee memory (pointee memory.allocations pointer) event

abbrev pub loaded : RunMemory → Option Prov → Came Value
loaded memory pointer = through memory pointer load

abbrev pub stored : RunMemory → Option Prov → Value → Came (Unit {0})
stored memory pointer value = through memory pointer (store value)

abbrev pub freed : RunMemory → Option Prov → Came (Unit {0})
freed memory pointer = through memory pointer free

-- the next tag is drawn, and made
abbrev pub retagged : RunMemory → Option Prov → Bool → Span → Came Prov
retagged memory pointer unique made = through (tagged memory) pointer (retag (memory.tags + 1) unique made)

-- A call answers what the event comes to, or that memory ran out.
abbrev pub Answers : {A : Type 0} → Came A → Result A Stop → RunMemory → Type 0
Answers (Done memory value) (Ok answer) new = (answer ≡ value) × (new ≡ memory)
Answers (Done memory value) (Err Memory) new = ⊤
Answers (Done memory value) (Err Dangling) new = ⊥
Answers (Done memory value) (Err Uninit) new = ⊥
Answers (Done memory value) (Err (Borrow alloc report)) new = ⊥
Answers (Stopped stop) (Ok answer) new = ⊥
Answers (Stopped stop) (Err Memory) new = ⊤
Answers (Stopped stop) (Err Dangling) new = Dangling ≡ stop
Answers (Stopped stop) (Err Uninit) new = Uninit ≡ stop
Answers (Stopped stop) (Err (Borrow alloc report)) new = Borrow alloc report ≡ stop
