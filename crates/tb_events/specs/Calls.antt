-- Tags that reborrows make, and the calls that guard them.
use Rattle.std.specs.Prelude.{◌+◌, cond, is_some, List, [], ◌∷◌}
use Rattle.tb_perm.specs.declared.tag.AllocId.{AllocId}
use Rattle.tb_perm.specs.declared.tag.Prov.{Prov}
use Rattle.tb_perm.specs.declared.perm.Guard.{Guard}
use Rattle.tb_perm.specs.declared.perm.Guard.TheVariants.{Free, Weak, Strong}
use Rattle.tb_perm.specs.declared.new_tag.NewTag.{NewTag}
use Rattle.tb_perm.specs.Rows.{unguarded}
use Rattle.tb_perm.specs.Reborrow.{reborrowed}
use Rattle.tb_alloc.specs.declared.allocation.Allocation.{Allocation}
use Rattle.tb_protect.specs.Frames.{Frames, with_guarded, top_frame, frames_below, provs_of}
use Rattle.tb_store.specs.Store.{live_at}
use Rattle.tb_forest.specs.Forest.{TreeRows, changed}
use Rattle.tb_events.specs.Memory.{RunMemory}

-- the provenance of a tag that is made in an allocation, and of its parent
abbrev pub prov_made : AllocId → NewTag → Prov
prov_made alloc new = record { alloc = alloc; tag = new.tag }

abbrev pub prov_parent : AllocId → NewTag → Prov
prov_parent alloc new = record { alloc = alloc; tag = new.parent }

-- what the calls guard, once the running call guards a provenance so; one that is free is guarded by none
abbrev pub with_guard : Prov → Guard → Frames → Frames
with_guard prov Free frames = frames
with_guard prov Weak frames = with_guarded prov Weak frames
with_guard prov Strong frames = with_guarded prov Strong frames

-- the memory with one more tag of an allocation, made by a reborrow and guarded by the running call
abbrev pub with_tag : RunMemory → AllocId → NewTag → RunMemory
with_tag memory alloc new =
    record memory {
      trees = changed memory.trees alloc.0 (λ (tree : TreeRows). reborrowed tree.rows tree.size new);
      tags = memory.tags + 1;
      frames = with_guard (prov_made alloc new) new.guard memory.frames;
    }

-- with one more call, which guards nothing yet
abbrev pub with_call : RunMemory → RunMemory
with_call memory = record memory { frames = [] ∷ memory.frames }

-- what the running call guards, in the order in which it came
abbrev pub guarded_now : RunMemory → List Prov
guarded_now memory = provs_of (top_frame memory.frames)

-- the trees once a tag's guard is gone; the tag of a dead allocation is passed over
abbrev pub without_guard : List Allocation → Prov → List TreeRows → List TreeRows
without_guard table prov trees =
    cond (is_some (live_at table prov.alloc.0)) (changed trees prov.alloc.0 (λ (tree : TreeRows). unguarded tree.rows prov.tag.0)) trees

-- the trees once all these guards are gone
abbrev pub without_guards : List Allocation → List Prov → List TreeRows → List TreeRows
without_guards table [] trees = trees
without_guards table (prov ∷ provs) trees = without_guards table provs (without_guard table prov trees)

-- the memory without the running call, and without its guards
abbrev pub without_call : RunMemory → RunMemory
without_call memory =
    record memory {
      trees = without_guards memory.table (guarded_now memory) memory.trees;
      frames = frames_below memory.frames;
    }
