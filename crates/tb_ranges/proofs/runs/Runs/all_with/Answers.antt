use Rattle.tb_ranges.proofs.Values.{sized}
use Rattle.tb_ranges.proofs.runs.Runs.all_with.Goals as goal

pub all_pairs-requires-clause-first : goal.all_pairs-requires-clause-first
all_pairs-requires-clause-first g c = rw c.deref.ensures.value (sized c.self.inside.size c.self.inside.runs.items c.self.invariant)

pub all_pairs-requires-clause-second : goal.all_pairs-requires-clause-second
all_pairs-requires-clause-second g c = rw c.deref-2.ensures.value (sized c.other.inside.size c.other.inside.runs.items c.other.invariant)
