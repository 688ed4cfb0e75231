-- How a call answers what it comes to.
use Rattle.std.specs.Prelude.{◌≡◌, ◌⊎◌, ℕ, ◌+◌, ◌<◌, ◌≤◌, true, Option, Some, None, Result, Ok, Err}
use Rattle.tb_perm.specs.declared.tag.Prov.{Prov}
use Rattle.tb_events.specs.Memory.{RunMemory, size_at, reaches}
use Rattle.tb_memory.specs.declared.stop.Stop.{Stop}
use Rattle.tb_memory.specs.declared.stop.Stop.TheVariants.{Dangling, OutOfBounds, Memory}
use Rattle.tb_memory.specs.Heap.{Came, Done, Stopped, tree_stop, alloc_stop}
use Rattle.tb_perm.specs.declared.tag.AllocId.{AllocId}
use Rattle.tb_perm.specs.declared.report.TreeError.{TreeError}
use Rattle.tb_alloc.specs.declared.ptr.Ptr.{Ptr}
use Rattle.tb_alloc.specs.declared.faults.AllocError.{AllocError}
use Rattle.tb_alloc.specs.declared.faults.OffsetFault.{OffsetFault}
use Rattle.tb_alloc.specs.declared.faults.OffsetFault.TheVariants as offset_fault

-- the answer and what stands after it are those that the call comes to
abbrev pub Agrees : {A : Type 0} → Came A → Result A Stop → RunMemory → Type 0
Agrees (Done memory value) (Ok answer) now = (answer ≡ value) × (now ≡ memory)
Agrees (Stopped memory stop) (Err told) now = (told ≡ stop) × (now ≡ memory)
Agrees (Done memory value) (Err told) now = ⊥
Agrees (Stopped memory stop) (Ok answer) now = ⊥

-- or memory was wanting
abbrev pub Answers : {A : Type 0} → Came A → Result A Stop → RunMemory → Type 0
Answers came result now = (result ≡ Err Memory) ⊎ Agrees came result now

-- the bytes that an access went to can be read and written
abbrev pub IsWithin : RunMemory → Option Prov → ℕ → ℕ → Type 0
IsWithin memory None offset size = size ≡ 0
IsWithin memory (Some prov) offset size = 0 < size → (reaches memory prov ≡ true) × (offset + size ≤ size_at memory prov.alloc.0)

-- what a tree answers, told on
abbrev pub told : {A : Type 0} → AllocId → A → Result (Unit {0}) TreeError → Result A Stop
told alloc answer (Ok done) = Ok answer
told alloc answer (Err error) = Err (tree_stop alloc error)

-- what an allocation answers, told on
abbrev pub told_made : Result Ptr AllocError → Result Ptr Stop
told_made (Ok ptr) = Ok ptr
told_made (Err error) = Err (alloc_stop error)

-- what a move of a pointer answers, told on
abbrev pub offset_told : Result Ptr OffsetFault → Result Ptr Stop
offset_told (Ok ptr) = Ok ptr
offset_told (Err offset_fault.Dangling) = Err Dangling
offset_told (Err offset_fault.OutOfBounds) = Err OutOfBounds
