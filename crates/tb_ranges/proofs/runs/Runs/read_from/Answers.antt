use Rattle.tb_ranges.proofs.Values.{sized}
use Rattle.tb_ranges.proofs.runs.Runs.read_from.Goals as goal

pub begin_reader-requires-clause-runs : goal.begin_reader-requires-clause-runs
begin_reader-requires-clause-runs g c = rw c.deref.ensures.value (sized c.self.inside.size c.self.inside.runs.items c.self.invariant)
