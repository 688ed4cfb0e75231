use Rattle.tb_alloc.proofs.Tables.{IsTable-killed}
use Rattle.tb_alloc.proofs.LiveNumbers.{are_rising}
use Rattle.tb_alloc.proofs.Numbers.{allocation_at-killed, allocation_at-killed_other, length-killed}
use Rattle.tb_alloc.proofs.allocs.Allocs.kill.Goals as goal

pub invariant_of-self : goal.invariant_of-self
invariant_of-self c =
    IsTable-killed c.self.inside.entries.items c.bury.new.entries.items c.args.id.0 _ c.self.inside.live c.bury.result c.self.inside.ids.items c.strike.new.ids.items c.bury.ensures.killed c.strike.ensures c.self.invariant c.bury.ensures.freed

pub returns-clause-others : goal.returns-clause-others
returns-clause-others c = rw (c.bury.ensures.killed, ← c.self.view_is) (λ number. allocation_at-killed_other _ _ number)

pub returns-clause-dead : goal.returns-clause-dead
returns-clause-dead c = rw (c.bury.ensures.killed, ← c.self.view_is) (allocation_at-killed c.self.inside.entries.items c.args.id.0)

pub returns-clause-count : goal.returns-clause-count
returns-clause-count c = rw (c.bury.ensures.killed, ← c.self.view_is) (length-killed c.self.inside.entries.items c.args.id.0)

pub strike-requires : goal.strike-requires
strike-requires c = are_rising c.self.inside.entries.items c.self.inside.ids.items c.self.invariant.numbers
