use Rattle.std.proofs.Common.{◌≡◌, map, take}
use Rattle.tb_eval.specs.Step.{first_slot}
use Rattle.tb_mir.specs.declared.mir.Local.{Local}
use Rattle.tb_run.proofs.machine.first_of.Given as goal

-- the slots of the locals so far
abbrev pub invariant-loop-local : goal.invariant-loop-local
invariant-loop-local l = l.slots.items ≡ map (λ (local : Local). first_slot local.kind) (take l.local-index l.locals)
