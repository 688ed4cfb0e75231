use Rattle.std.proofs.Common.{arith}
use Rattle.tb_shape.proofs.Uses.{place_of-le}
use Rattle.tb_shape.proofs.entries.insert_entry.Goals as goal

pub insert_at-requires-clause-within : goal.insert_at-requires-clause-within
insert_at-requires-clause-within c = rw c.place-at.ensures (omega (arith, place_of-le c.args.entry.key c.deref.result.now, c.deref.ensures.len))
