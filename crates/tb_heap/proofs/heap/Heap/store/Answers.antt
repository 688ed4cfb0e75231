use Rattle.std.proofs.Common.{subst, map, slice_set}
use Rattle.tb_heap.specs.Entries.{PointsTo, seen}
use Rattle.tb_heap.specs.Memory.{RunMemory}
use Rattle.tb_heap.specs.Access.{Answers, stored, store}
use Rattle.tb_heap.proofs.Lives.{turned_there}
use Rattle.tb_heap.proofs.heap.Heap.store.Goals as goal

pub returns : goal.returns
returns g c =
    let at = subst (λ entries. PointsTo g.T.BorrowTree.rows entries c.args.pointer c.in_ok-prov.prov c.in_ok-prov.place) c.as_slice.ensures.value c.in_ok-prov.ensures in
    let new : RunMemory = record { allocations = map (seen g.T.BorrowTree.rows) (slice_set c.self.inside.entries.items c.in_ok-prov.place c.store.new.self); tags = c.self.inside.tags } in
    let done = turned_there g.T.BorrowTree.rows (store c.args.value) c.self.inside.entries.items c.self.inside.tags c.args.pointer c.in_ok-prov.prov c.in_ok-prov.place
    c.index_mut.result.now c.store.new.self c.store.result at c.index_mut.ensures.value c.store.ensures.turns in
    subst (λ m. Answers (stored m c.args.pointer c.args.value) c.store.result new) c.self.view_is done
