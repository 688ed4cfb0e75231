use Rattle.tb_alloc.proofs.Places.{all_aligned, all_above, all_below, all_apart}
use Rattle.std.proofs.Common.{◌<◌, ◌^◌, arith}
use Rattle.tb_alloc.specs.Allocations.{next_candidate}
use Rattle.tb_alloc.proofs.allocs.Allocs.law_places.Goals as goal

pub returns-clause-aligned : goal.returns-clause-aligned
returns-clause-aligned c = rw (← c.self.view_is) (all_aligned _ _ c.self.invariant.placed)

pub returns-clause-low : goal.returns-clause-low
returns-clause-low c = rw (← c.self.view_is) (all_above 65536 _ _ (omega arith) c.self.invariant.placed)

pub returns-clause-high : goal.returns-clause-high
returns-clause-high c =
    let small : next_candidate c.self.inside.entries.items < 2 ^ 64 = rw (← c.self.invariant.is_candidate) c.self.invariant.fits in
    rw (← c.self.view_is) (all_below (2 ^ 64) _ _ c.self.invariant.placed small)

pub returns-clause-apart : goal.returns-clause-apart
returns-clause-apart c = rw (← c.self.view_is) (all_apart _ _ c.self.invariant.placed)
