-- What is true of every memory.
use Rattle.std.specs.Prelude.{◌≡◌, ◌≢◌, ℕ, ◌≤◌, true, length, Some}
use Rattle.std.specs.List.{AllByRecursion}
use Rattle.tb_perm.specs.declared.tag.Prov.{Prov}
use Rattle.tb_perm.specs.declared.perm.Guard.TheVariants.{Free}
use Rattle.tb_perm.specs.Rows.{Row, IsRows}
use Rattle.tb_alloc.specs.declared.allocation.Allocation.{Allocation}
use Rattle.tb_protect.specs.Frames.{kind_of}
use Rattle.tb_prune.specs.Guards.{GuardsAre}
use Rattle.tb_value.specs.Provs.{all_pass}
use Rattle.tb_store.specs.Store.{AreBlocks, bytes_at, live_at}
use Rattle.tb_forest.specs.Forest.{tree_at}
use Rattle.tb_events.specs.Memory.{RunMemory, rows_at, knows}

pub record IsSound (memory : RunMemory) : Type 0 where
  pub blocks : AreBlocks memory.table memory.contents
  pub count : length memory.trees ≡ length memory.table
  -- the rows of a live allocation are a tree, with a state for each byte
  pub sizes : (number : ℕ) (a : Allocation) → live_at memory.table number ≡ Some a → (tree_at memory.trees number).size ≡ a.size
  pub grown : (number : ℕ) (a : Allocation) → live_at memory.table number ≡ Some a → IsRows a.size (rows_at memory number)
  -- no tag is above the last that was drawn
  pub below : (number : ℕ) → AllByRecursion (λ (row : Row). row.tag ≤ memory.tags) (rows_at memory number)
  -- each provenance in bytes is known, and each guarded one
  pub known : (number : ℕ) → all_pass (knows memory) (bytes_at memory.contents number) ≡ true
  pub guards : (prov : Prov) → kind_of memory.frames prov ≢ Free → knows memory prov ≡ true
  -- the tags of live allocations are guarded as the calls guard them
  pub agree : (number : ℕ) (a : Allocation) → live_at memory.table number ≡ Some a → GuardsAre memory.frames (record { 0 = number }) (rows_at memory number)
