-- Which pointers a memory knows: each names an allocation and one of its tags, whether it is live or not.
use Rattle.std.specs.Prelude.{◌≡◌, ◌≤◌, Option, Some, None, ⊤}
use Rattle.std.specs.List.{AllByRecursion}
use Rattle.tb_perm.specs.declared.tag.Prov.{Prov}
use Rattle.tb_perm.specs.Rows.{Row, HasTag}
use Rattle.tb_heap.specs.Memory.{RunMemory, Allocation, numbered}
use Rattle.tb_heap.specs.declared.value.Value.{Value}
use Rattle.tb_heap.specs.declared.value.Value.TheVariants.{Unit as TheUnit, Int, Pointer}

-- the allocation is there, and the tag is one of its own
abbrev pub HasProv : RunMemory → Prov → Type 0
HasProv memory prov = (allocation : Allocation) × (numbered memory.allocations prov.alloc.0 ≡ Some allocation) × HasTag allocation.rows prov.tag.0

abbrev pub KnowsPointer : RunMemory → Option Prov → Type 0
KnowsPointer memory None = ⊤
KnowsPointer memory (Some prov) = HasProv memory prov

-- a pointer in a value is known
abbrev pub Knows : RunMemory → Value → Type 0
Knows memory TheUnit = ⊤
Knows memory (Int int) = ⊤
Knows memory (Pointer pointer) = KnowsPointer memory pointer

abbrev pub KnowsContent : RunMemory → Option Value → Type 0
KnowsContent memory None = ⊤
KnowsContent memory (Some value) = Knows memory value

-- what is stored is known, and no tag is above the last that was made
pub record IsSound (memory : RunMemory) : Type 0 where
  pub contents : AllByRecursion (λ (allocation : Allocation). KnowsContent memory allocation.content) memory.allocations
  pub below : AllByRecursion (λ (allocation : Allocation). AllByRecursion (λ (row : Row). row.tag ≤ memory.tags) allocation.rows) memory.allocations

-- each pointer that the old memory knows, the new one knows
abbrev pub Keeps : RunMemory → RunMemory → Type 0
Keeps old new = (prov : Prov) → HasProv old prov → HasProv new prov
