use Rattle.std.proofs.Common.{drop}
use Rattle.tb_memory.proofs.Releasing.{AreLeft}
use Rattle.tb_memory.proofs.heap.Heap.release_all.Given as goal

abbrev pub invariant-loop-prov : goal.invariant-loop-prov
invariant-loop-prov g l = AreLeft l.fn.self l.self l.provs (drop l.prov-index l.provs)
