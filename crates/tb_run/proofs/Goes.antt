-- A line that was carried out leaves a sound state.
use Rattle.std.proofs.Common.{ℕ, List, Ok}
use Rattle.std.specs.Prelude.{Vec}
use Rattle.std.specs.declared.alloc.Global.{Global}
use Rattle.tb_heap.specs.Memory.{RunMemory}
use Rattle.tb_heap.specs.Sound.{IsSound}
use Rattle.tb_eval.specs.Sound.{KnowsSlots}
use Rattle.tb_eval.specs.Step.{Effect, Next, Ends}
use Rattle.tb_eval.specs.declared.value.Slot.{Slot}
use Rattle.tb_eval.proofs.Soundness.{LeavesSound}
use Rattle.tb_run.specs.Carried.{Carries}

pub carried_sound : (effect : Effect) (kept : RunMemory) (new : List Slot) (bytes : Vec ℕ Global) → Carries effect kept new (Ok bytes) → LeavesSound effect → IsSound kept × KnowsSlots kept new
carried_sound (Next memory locals printed) kept new bytes carries leaves = rw (carries.0, carries.1) leaves
carried_sound (Ends outcome) kept new bytes carries leaves = absurd carries
