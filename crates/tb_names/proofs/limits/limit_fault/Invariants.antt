use Rattle.std.proofs.Common.{◌≡◌, drop}
use Rattle.tb_names.specs.Names.{first_of}
use Rattle.tb_names.specs.Limits.{limits_from, limit_faults}
use Rattle.tb_names.proofs.limits.limit_fault.Given as goal

abbrev pub invariant-loop-number : goal.invariant-loop-number
invariant-loop-number l = first_of (limits_from l.number (drop l.number l.items)) ≡ first_of (limit_faults l.items)
