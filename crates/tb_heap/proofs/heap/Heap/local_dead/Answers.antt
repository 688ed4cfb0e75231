use Rattle.std.proofs.Common.{subst, map, slice_set}
use Rattle.tb_heap.specs.Entries.{PointsTo, seen}
use Rattle.tb_heap.specs.Memory.{RunMemory}
use Rattle.tb_heap.specs.Access.{Answers, freed, free}
use Rattle.tb_heap.proofs.Lives.{turned_there}
use Rattle.tb_heap.proofs.heap.Heap.local_dead.Goals as goal

pub returns : goal.returns
returns g c =
    let at = subst (λ entries. PointsTo g.T.BorrowTree.rows entries c.args.pointer c.in_ok-prov.prov c.in_ok-prov.place) c.as_slice.ensures.value c.in_ok-prov.ensures in
    let new : RunMemory = record { allocations = map (seen g.T.BorrowTree.rows) (slice_set c.self.inside.entries.items c.in_ok-prov.place c.free.new.self); tags = c.self.inside.tags } in
    let done = turned_there g.T.BorrowTree.rows free c.self.inside.entries.items c.self.inside.tags c.args.pointer c.in_ok-prov.prov c.in_ok-prov.place
    c.index_mut.result.now c.free.new.self c.free.result at c.index_mut.ensures.value c.free.ensures.turns in
    subst (λ m. Answers (freed m c.args.pointer) c.free.result new) c.self.view_is done
