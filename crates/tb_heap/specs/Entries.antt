-- How a heap keeps allocations, and what is done to one of them.
use Rattle.std.specs.Prelude.{◌≡◌, ℕ, suc, List, map, Option, Some, None, Result, Ok, Err, slice_get, ⊤}
use Rattle.std.specs.List.{AllByRecursion}
use Rattle.tb_perm.specs.Rows.{Row}
use Rattle.tb_perm.specs.declared.report.TreeError.{TreeError}
use Rattle.tb_perm.specs.declared.report.TreeError.TheVariants as tree
use Rattle.tb_perm.specs.declared.tag.AllocId.{AllocId}
use Rattle.tb_perm.specs.declared.tag.Prov.{Prov}
use Rattle.tb_heap.specs.Access.{Change, Leaves, Stops}
use Rattle.tb_heap.specs.Memory.{Allocation, pointee}
use Rattle.tb_heap.specs.declared.entry.Entry.{Entry}
use Rattle.tb_heap.specs.declared.stop.Stop.{Stop}
use Rattle.tb_heap.specs.declared.stop.Stop.TheVariants.{Dangling, Borrow, Uninit, Memory}

-- an entry as contracts see it, where trees have these rows
abbrev pub seen : {T : Type 0} → (T → List Row) → Entry T → Allocation
seen rows entry = record { size = entry.size; live = entry.live; content = entry.content; rows = rows entry.tree }

-- each tree has as many bytes as its allocation
abbrev pub AreFitting : {T : Type 0} → (T → ℕ) → List (Entry T) → Type 0
AreFitting extent entries = AllByRecursion (λ entry. extent entry.tree ≡ entry.size) entries

-- what a tree answers, as a stop
abbrev pub stop_of : AllocId → TreeError → Stop
stop_of alloc (tree.Borrow report) = Borrow alloc report
stop_of alloc tree.Memory = Memory

-- a call on one allocation answers what the event comes to, or that memory ran out
abbrev pub Turns : {A : Type 0} → Change A → Result A Stop → Allocation → Type 0
Turns (Leaves allocation value) (Ok answer) new = (answer ≡ value) × (new ≡ allocation)
Turns (Leaves allocation value) (Err Memory) new = ⊤
Turns (Leaves allocation value) (Err Dangling) new = ⊥
Turns (Leaves allocation value) (Err Uninit) new = ⊥
Turns (Leaves allocation value) (Err (Borrow alloc report)) new = ⊥
Turns (Stops stop) (Ok answer) new = ⊥
Turns (Stops stop) (Err Memory) new = ⊤
Turns (Stops stop) (Err Dangling) new = Dangling ≡ stop
Turns (Stops stop) (Err Uninit) new = Uninit ≡ stop
Turns (Stops stop) (Err (Borrow alloc report)) new = Borrow alloc report ≡ stop

-- the pointer points to what this entry stands for
pub record PointsTo {T : Type 0} (rows : T → List Row) (entries : List (Entry T)) (pointer : Option Prov) (prov : Prov) (place : ℕ) : Type 0 where
  pub entry : Entry T
  pub is_there : slice_get entries place ≡ Some entry
  pub number : prov.alloc.0 ≡ suc place
  pub is_prov : pointer ≡ Some prov
  pub is_pointee : pointee (map (seen rows) entries) pointer ≡ Some (prov, seen rows entry)

-- where the pointee stands was found, or the pointer dangles
abbrev pub Finds : {T : Type 0} → (T → List Row) → List (Entry T) → Option Prov → Result (Prov × ℕ) Stop → Type 0
Finds rows entries pointer (Ok found) = PointsTo rows entries pointer found.0 found.1
Finds rows entries pointer (Err stop) = (stop ≡ Dangling) × (pointee (map (seen rows) entries) pointer ≡ None)
