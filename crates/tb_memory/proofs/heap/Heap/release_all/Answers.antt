use Rattle.tb_memory.proofs.Releasing.{next_left}
use Rattle.tb_memory.proofs.heap.Heap.release_all.Goals as goal

pub loop-prov-preserved : goal.loop-prov-preserved
loop-prov-preserved g c =
    next_left c.args.self.now c.loop-prov.self c.release_one.new.self c.args.provs.now c.loop-prov.prov-index _ c.release_one.result c.loop-prov-test.true c.loop-prov.invariant c.in-Ok.is c.release_one.ensures.answer c.release_one.ensures.keeps c.release_one.ensures.calls c.release_one.ensures.drawn
