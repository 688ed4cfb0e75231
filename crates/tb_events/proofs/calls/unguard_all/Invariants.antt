use Rattle.std.proofs.Common.{◌≡◌, drop}
use Rattle.std.specs.List.{AllByRecursion}
use Rattle.tb_events.specs.Calls.{without_guards}
use Rattle.tb_events.specs.Guarding.{IsThere}
use Rattle.tb_events.proofs.calls.unguard_all.Given as goal

abbrev pub invariant-loop-prov : goal.invariant-loop-prov
invariant-loop-prov g l =
    (without_guards l.table (drop l.prov-index l.provs) l.forest ≡ without_guards l.table l.provs l.fn.forest)
    × AllByRecursion (IsThere l.table l.forest) (drop l.prov-index l.provs)
