use Rattle.tb_events.proofs.Ending.{turn}
use Rattle.tb_events.proofs.calls.unguard_all.Goals as goal

pub loop-prov-preserved : goal.loop-prov-preserved
loop-prov-preserved g c = turn c.args.table.now c.args.forest.now c.loop-prov.forest c.unguard.new.forest c.args.provs.now c.loop-prov.prov-index _ c.loop-prov-test.true c.unguard.ensures c.loop-prov.invariant
