use Rattle.std.proofs.Common.{◌≡◌, drop}
use Rattle.tb_alloc.specs.Kept.{first_made}
use Rattle.tb_alloc.proofs.live.first_heap.Given as goal

abbrev pub invariant-loop-id : goal.invariant-loop-id
invariant-loop-id l = first_made l.entries (drop l.id-index l.ids) ≡ first_made l.entries l.ids
