-- The memory of a run as the machine keeps it: every allocation that was made, with its bytes and with the rows of the tags
-- that it still has, its own rows. Pruning takes rows out.
use Rattle.std.specs.Prelude.{◌≡◌, ℕ, ◌+◌, Bool, true, false, not, ◌&&◌, ◌||◌, List, [], ◌∷◌, ◌++◌, length, Option, Some, None, is_some}
use Rattle.std.specs.List.{list_any}
use Rattle.tb_perm.specs.declared.span.Span.{Span}
use Rattle.tb_perm.specs.declared.tag.Prov.{Prov}
use Rattle.tb_perm.specs.Rows.{Row, is_tag, root_row}
use Rattle.tb_bytes.specs.declared.byte_val.ByteVal.{ByteVal}
use Rattle.tb_alloc.specs.declared.allocation.Allocation.{Allocation}
use Rattle.tb_alloc.specs.declared.allocation.AllocKind.{AllocKind}
use Rattle.tb_alloc.specs.declared.ptr.Ptr.{Ptr}
use Rattle.tb_alloc.specs.Allocations.{allocation_at, next_base, new_allocation, killed}
use Rattle.tb_protect.specs.Frames.{Frames}
use Rattle.tb_store.specs.Store.{with_nth, live_at, uninit}
use Rattle.tb_forest.specs.Forest.{TreeRows, tree_at, changed, felled}

-- the allocations in the order of their making, the bytes of each and the rows of its tags, how many tags were drawn over the
-- whole run, and what the running calls guard; a dead allocation has neither bytes nor rows
pub record RunMemory : Type 0 where
  pub table : List Allocation
  pub contents : List (List ByteVal)
  pub trees : List TreeRows
  pub tags : ℕ
  pub frames : Frames

-- before the first allocation and the first call
abbrev pub no_memory : RunMemory
no_memory = record { table = []; contents = []; trees = []; tags = 0; frames = [] }

-- the rows of an allocation
abbrev pub rows_at : RunMemory → ℕ → List Row
rows_at memory number = (tree_at memory.trees number).rows

-- how many bytes an allocation has; none where it was not made
abbrev pub size_in : Option Allocation → ℕ
size_in None = 0
size_in (Some a) = a.size

abbrev pub size_at : RunMemory → ℕ → ℕ
size_at memory number = size_in (allocation_at memory.table number)

-- the memory with other rows of an allocation
abbrev pub with_rows : RunMemory → ℕ → (TreeRows → List Row) → RunMemory
with_rows memory number change = record memory { trees = changed memory.trees number change }

-- with other bytes of an allocation
abbrev pub with_bytes : RunMemory → ℕ → List ByteVal → RunMemory
with_bytes memory number bytes = record memory { contents = with_nth memory.contents number bytes }

-- with one more allocation, whose root is the next tag
abbrev pub with_made : RunMemory → ℕ → ℕ → AllocKind → Span → RunMemory
with_made memory size align kind made =
    record memory {
      table = memory.table ++ new_allocation memory.table size align kind made ∷ [];
      contents = memory.contents ++ uninit size ∷ [];
      trees = memory.trees ++ record { size = size; rows = root_row (memory.tags + 1) size made ∷ [] } ∷ [];
      tags = memory.tags + 1;
    }

-- the pointer to it
abbrev pub made_pointer : RunMemory → ℕ → Ptr
made_pointer memory align =
    record { addr = next_base memory.table align; prov = Some (record { alloc = record { 0 = length memory.table + 1 }; tag = record { 0 = memory.tags + 1 } }) }

-- without an allocation, which is dead
abbrev pub without : RunMemory → ℕ → RunMemory
without memory number =
    record memory {
      table = killed memory.table number;
      contents = with_nth memory.contents number [];
      trees = felled memory.trees number;
    }

-- the tag is one of the rows
abbrev pub has_tag : List Row → ℕ → Bool
has_tag rows t = list_any (is_tag t) rows

abbrev pub knows_in : Option Allocation → List Row → ℕ → Bool
knows_in None rows t = false
knows_in (Some a) rows t = not a.live || has_tag rows t

-- the provenance names an allocation that was made, and where this is live one of its own tags
abbrev pub knows : RunMemory → Prov → Bool
knows memory prov = knows_in (allocation_at memory.table prov.alloc.0) (rows_at memory prov.alloc.0) prov.tag.0

-- the allocation that it names is live, and has the tag
abbrev pub reaches : RunMemory → Prov → Bool
reaches memory prov = is_some (live_at memory.table prov.alloc.0) && has_tag (rows_at memory prov.alloc.0) prov.tag.0

-- what the old memory knows the new one knows
abbrev pub Keeps : RunMemory → RunMemory → Type 0
Keeps old new = (prov : Prov) → knows old prov ≡ true → knows new prov ≡ true
