-- The memory of a run as the definitions keep it: every allocation that was made, with a row for every tag that was
-- made. No row is ever taken out.
use Rattle.std.specs.Prelude.{ℕ, zero, suc, ◌+◌, Bool, true, cond, List, [], ◌∷◌, ◌++◌, length, Option, Some, None, slice_get, slice_set}
use Rattle.std.specs.Option.{option_map}
use Rattle.tb_perm.specs.declared.span.Span.{Span}
use Rattle.tb_perm.specs.declared.tag.Prov.{Prov}
use Rattle.tb_perm.specs.Rows.{Row, root_row}
use Rattle.tb_heap.specs.declared.value.Value.{Value}

-- one allocation: its size in bytes, whether it is live, what was stored last, and the rows of its tags
pub record Allocation : Type 0 where
  pub size : ℕ
  pub live : Bool
  pub content : Option Value
  pub rows : List Row

-- the allocations in the order of their making, and how many tags were made over the whole run
pub record RunMemory : Type 0 where
  pub allocations : List Allocation
  pub tags : ℕ

-- before the first allocation
abbrev pub no_memory : RunMemory
no_memory = record { allocations = []; tags = 0 }

-- the place of a number that counts from 1
abbrev pub numbered : List Allocation → ℕ → Option Allocation
numbered allocations zero = None
numbered allocations (suc place) = slice_get allocations place

-- another allocation in the place of this number
abbrev pub renumbered : List Allocation → ℕ → Allocation → List Allocation
renumbered allocations zero new = allocations
renumbered allocations (suc place) new = slice_set allocations place new

-- the allocation, if it is live
abbrev pub if_live : Option Allocation → Option Allocation
if_live None = None
if_live (Some allocation) = cond allocation.live (Some allocation) None

-- the live allocation that a pointer names, with the pointer's provenance
abbrev pub pointee : List Allocation → Option Prov → Option (Prov × Allocation)
pointee allocations None = None
pointee allocations (Some prov) = option_map (λ allocation. (prov, allocation)) (if_live (numbered allocations prov.alloc.0))

-- the memory with another allocation where the provenance points
abbrev pub changed : RunMemory → Prov → Allocation → RunMemory
changed memory prov new = record memory { allocations = renumbered memory.allocations prov.alloc.0 new }

-- one more tag was made
abbrev pub tagged : RunMemory → RunMemory
tagged memory = record memory { tags = memory.tags + 1 }

-- An allocation of this size that is made: it is live and has no value, and the next tag is its root.
abbrev pub born : RunMemory → ℕ → Span → RunMemory
born memory size made =
    record {
      allocations = memory.allocations ++ record { size = size; live = true; content = None; rows = root_row (memory.tags + 1) size made ∷ [] } ∷ [];
      tags = memory.tags + 1;
    }

-- the pointer to it
abbrev pub birth : RunMemory → Prov
birth memory = record { alloc = record { 0 = length memory.allocations + 1 }; tag = record { 0 = memory.tags + 1 } }
