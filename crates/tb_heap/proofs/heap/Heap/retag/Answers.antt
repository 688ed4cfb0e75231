use Rattle.std.proofs.Common.{◌≡◌, ◌+◌, map, slice_set, subst, arith}
use Rattle.tb_heap.specs.Access.{Answers, through, retag, retagged}
use Rattle.tb_heap.specs.Entries.{PointsTo, seen}
use Rattle.tb_heap.specs.Memory.{RunMemory}
use Rattle.tb_heap.proofs.Lives.{turned_there}
use Rattle.tb_heap.proofs.heap.Heap.retag.Goals as goal

pub returns : goal.returns
returns g c =
    let at = subst (λ entries. PointsTo g.T.BorrowTree.rows entries c.args.pointer c.in_ok-prov.prov c.in_ok-prov.place) c.as_slice.ensures.value c.in_ok-prov.ensures in
    let drawn : c.in-Some.tag ≡ c.self.inside.tags + 1 = omega arith in
    let event = retag c.in-Some.tag c.args.unique c.args.made in
    let new : RunMemory = record { allocations = map (seen g.T.BorrowTree.rows) (slice_set c.self.inside.entries.items c.in_ok-prov.place c.retag.new.self); tags = c.in-Some.tag } in
    let done = turned_there g.T.BorrowTree.rows event c.self.inside.entries.items c.in-Some.tag c.args.pointer c.in_ok-prov.prov c.in_ok-prov.place
    c.index_mut.result.now c.retag.new.self c.retag.result at c.index_mut.ensures.value c.retag.ensures.turns in
    let made = subst (λ n. Answers (through (record { allocations = map (seen g.T.BorrowTree.rows) c.self.inside.entries.items; tags = n }) c.args.pointer (retag n c.args.unique c.args.made)) c.retag.result new) drawn done in
    subst (λ m. Answers (retagged m c.args.pointer c.args.unique c.args.made) c.retag.result new) c.self.view_is made
