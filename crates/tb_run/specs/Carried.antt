-- How the code carries out what a line means.
use Rattle.std.specs.Prelude.{◌≡◌, ℕ, List, [], Result, Ok, Err, Vec, ⊤}
use Rattle.std.specs.declared.alloc.Global.{Global}
use Rattle.tb_perm.specs.declared.span.Span.{Span}
use Rattle.tb_heap.specs.Memory.{RunMemory}
use Rattle.tb_heap.specs.declared.stop.Stop.{Stop}
use Rattle.tb_heap.specs.declared.stop.Stop.TheVariants as stop
use Rattle.tb_mir.specs.declared.line.Line.{Line}
use Rattle.tb_mir.specs.declared.line.Line.TheVariants.{Live, Dead, Load, Store, Set, Print, Clear, Retag, Return}
use Rattle.tb_mir.specs.declared.mir.Local.{Local}
use Rattle.tb_eval.specs.Step.{Effect, Next, Ends, effect_of}
use Rattle.tb_eval.specs.declared.outcome.Outcome.{Outcome}
use Rattle.tb_eval.specs.declared.outcome.Outcome.TheVariants.{Finished, Undefined, Panic, StepLimit, WriteFault, Memory}
use Rattle.tb_eval.specs.declared.value.Slot.{Slot}

-- The end is this one, or memory ran out. No line ends a run by a bound or a fault.
abbrev pub EndsAs : Outcome → Outcome → Type 0
EndsAs wanted Memory = ⊤
EndsAs wanted Finished = Finished ≡ wanted
EndsAs wanted (Undefined stop span) = Undefined stop span ≡ wanted
EndsAs wanted (Panic panic span) = Panic panic span ≡ wanted
EndsAs wanted StepLimit = ⊥
EndsAs wanted WriteFault = ⊥

-- memory ran out
abbrev pub IsMemory : Outcome → Type 0
IsMemory Memory = ⊤
IsMemory Finished = ⊥
IsMemory (Undefined stop span) = ⊥
IsMemory (Panic panic span) = ⊥
IsMemory StepLimit = ⊥
IsMemory WriteFault = ⊥

-- how a run ends where this stops it
abbrev pub stopped_by : Stop → Span → Outcome
stopped_by stop.Memory span = Memory
stopped_by stop.Dangling span = Undefined stop.Dangling span
stopped_by stop.Uninit span = Undefined stop.Uninit span
stopped_by (stop.Borrow alloc report) span = Undefined (stop.Borrow alloc report) span

-- The effect was had: memory and the locals are as it leaves them and its bytes are to be printed, or the run ends
-- so. In either case memory may have run out.
abbrev pub Carries : Effect → RunMemory → List Slot → Result (Vec ℕ Global) Outcome → Type 0
Carries (Next memory locals bytes) kept new (Ok printed) = (kept ≡ memory) × (new ≡ locals) × (printed.items ≡ bytes)
Carries (Next memory locals bytes) kept new (Err outcome) = IsMemory outcome
Carries (Ends outcome) kept new (Ok printed) = ⊥
Carries (Ends outcome) kept new (Err answered) = EndsAs outcome answered

-- an effect that prints nothing was had
abbrev pub Acts : Effect → RunMemory → List Slot → Result (Unit {0}) Outcome → Type 0
Acts (Next memory locals bytes) kept new (Ok done) = (kept ≡ memory) × (new ≡ locals) × (bytes ≡ [])
Acts (Next memory locals bytes) kept new (Err outcome) = IsMemory outcome
Acts (Ends outcome) kept new (Ok done) = ⊥
Acts (Ends outcome) kept new (Err answered) = EndsAs outcome answered

-- the effect of a line without what it prints
abbrev pub silent_effect : List Local → Line → Span → RunMemory → List Slot → Effect
silent_effect types (Print newline text operands) span memory locals = Next memory locals []
silent_effect types (Live variable) span memory locals = effect_of types (Live variable) span memory locals
silent_effect types (Dead variable) span memory locals = effect_of types (Dead variable) span memory locals
silent_effect types (Load temp place) span memory locals = effect_of types (Load temp place) span memory locals
silent_effect types (Store place operand) span memory locals = effect_of types (Store place operand) span memory locals
silent_effect types (Set temp rvalue) span memory locals = effect_of types (Set temp rvalue) span memory locals
silent_effect types (Clear temps) span memory locals = effect_of types (Clear temps) span memory locals
silent_effect types (Retag temp) span memory locals = effect_of types (Retag temp) span memory locals
silent_effect types Return span memory locals = effect_of types Return span memory locals

-- the print was put together so, or ends the run, or memory ran out
abbrev pub Tells : Result (List ℕ) Stop → Span → Result (Vec ℕ Global) Outcome → Type 0
Tells (Ok text) span (Ok bytes) = bytes.items ≡ text
Tells (Ok text) span (Err outcome) = IsMemory outcome
Tells (Err stop) span (Ok bytes) = ⊥
Tells (Err stop) span (Err answered) = EndsAs (Undefined stop span) answered
