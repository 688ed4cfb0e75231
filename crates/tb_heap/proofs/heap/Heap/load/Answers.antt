use Rattle.std.proofs.Common.{subst, map, slice_set}
use Rattle.tb_heap.specs.Entries.{PointsTo, seen}
use Rattle.tb_heap.specs.Memory.{RunMemory}
use Rattle.tb_heap.specs.Access.{Answers, loaded, load}
use Rattle.tb_heap.proofs.Lives.{turned_there}
use Rattle.tb_heap.proofs.heap.Heap.load.Goals as goal

pub returns : goal.returns
returns g c =
    let at = subst (λ entries. PointsTo g.T.BorrowTree.rows entries c.args.pointer c.in_ok-prov.prov c.in_ok-prov.place) c.as_slice.ensures.value c.in_ok-prov.ensures in
    let new : RunMemory = record { allocations = map (seen g.T.BorrowTree.rows) (slice_set c.self.inside.entries.items c.in_ok-prov.place c.load.new.self); tags = c.self.inside.tags } in
    let done = turned_there g.T.BorrowTree.rows load c.self.inside.entries.items c.self.inside.tags c.args.pointer c.in_ok-prov.prov c.in_ok-prov.place
    c.index_mut.result.now c.load.new.self c.load.result at c.index_mut.ensures.value c.load.ensures.turns in
    subst (λ m. Answers (loaded m c.args.pointer) c.load.result new) c.self.view_is done
