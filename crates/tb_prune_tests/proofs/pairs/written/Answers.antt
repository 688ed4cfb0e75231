use Rattle.std.proofs.Common.{[], sym, subst}
use Rattle.tb_stands.specs.Stands.{Stands}
use Rattle.tb_prune_tests.proofs.Alike.{new_stand}
use Rattle.tb_prune_tests.proofs.pairs.written.Goals as goal

pub access_both-mine-requires-clause-stands : goal.access_both-mine-requires-clause-stands
access_both-mine-requires-clause-stands g c =
    subst (λ n. Stands n c.in-Ok.own.rows c.in-Ok-root.all.rows []) (sym c.in-Ok.ensures.extent)
    (new_stand 2 1 (record { lo = 3; hi = 5 }) c.in-Ok.own.rows c.in-Ok-root.all.rows c.in-Ok.ensures.rows c.in-Ok-root.ensures.rows)
