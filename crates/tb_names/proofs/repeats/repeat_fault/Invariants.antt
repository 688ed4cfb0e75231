use Rattle.std.proofs.Common.{◌≡◌, drop}
use Rattle.tb_names.specs.Names.{first_of}
use Rattle.tb_names.specs.Repeats.{repeats_from, repeat_faults}
use Rattle.tb_names.proofs.repeats.repeat_fault.Given as goal

abbrev pub invariant-loop-item : goal.invariant-loop-item
invariant-loop-item l = first_of (repeats_from l.given.names.keys (drop l.item-index l.items)) ≡ first_of (repeat_faults l.items)
