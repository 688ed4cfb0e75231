-- What the end of a call does to the memory of a run.
use Rattle.std.specs.Prelude.{List, [], ◌∷◌, Option, Some, None}
use Rattle.tb_perm.specs.declared.tag.Prov.{Prov}
use Rattle.tb_perm.specs.Release.{released, release_report}
use Rattle.tb_alloc.specs.declared.allocation.Allocation.{Allocation}
use Rattle.tb_store.specs.Store.{live_at}
use Rattle.tb_forest.specs.Forest.{TreeRows}
use Rattle.tb_events.specs.Memory.{RunMemory, rows_at, size_at, with_rows}
use Rattle.tb_events.specs.Calls.{guarded_now, without_call}
use Rattle.tb_memory.specs.Heap.{Came, Done, and_then, unless_refused}

-- the accesses of a guarded tag
abbrev pub tag_released : RunMemory → Prov → Came (Unit {0})
tag_released memory prov =
    unless_refused memory prov (release_report (rows_at memory prov.alloc.0) (size_at memory prov.alloc.0) prov.tag.0)
    (Done (with_rows memory prov.alloc.0 (λ (tree : TreeRows). released tree.rows prov.tag.0)) tt)

abbrev pub if_alive : RunMemory → Prov → Option Allocation → Came (Unit {0})
if_alive memory prov None = Done memory tt
if_alive memory prov (Some a) = tag_released memory prov

-- the release of a tag; that of a dead allocation is passed over
abbrev pub release_one : RunMemory → Prov → Came (Unit {0})
release_one memory prov = if_alive memory prov (live_at memory.table prov.alloc.0)

-- the releases of tags, each on the memory that the one before left
abbrev pub release_all : RunMemory → List Prov → Came (Unit {0})
release_all memory [] = Done memory tt
release_all memory (prov ∷ provs) = and_then (release_one memory prov) (λ now done. release_all now provs)

-- the end of the running call: what it guards is released in the order in which it came, all still guarded, and then
-- the guards go
abbrev pub call_ended : RunMemory → Came (Unit {0})
call_ended memory = and_then (release_all memory (guarded_now memory)) (λ now done. Done (without_call now) tt)
