-- One step of a run: what each line means.
use Rattle.std.specs.Prelude.{ℕ, ◌+◌, Bool, true, false, List, [], ◌∷◌, map, Option, Some, None, Result, Ok, Err, slice_get, slice_set}
use Rattle.tb_perm.specs.declared.span.Span.{Span}
use Rattle.tb_perm.specs.declared.tag.Prov.{Prov}
use Rattle.tb_mir.specs.Mir.{line_at, locals_of}
use Rattle.tb_mir.specs.Ty.{size_of}
use Rattle.tb_mir.specs.declared.line.Line.{Line}
use Rattle.tb_mir.specs.declared.line.Line.TheVariants.{Live, Dead, Load, Store, Set, Print, Clear, Retag, Return}
use Rattle.tb_mir.specs.declared.line.MirLine.{MirLine}
use Rattle.tb_mir.specs.declared.mir.Local.{Local}
use Rattle.tb_mir.specs.declared.mir.LocalKind.{LocalKind}
use Rattle.tb_mir.specs.declared.mir.LocalKind.TheVariants.{Variable, Temp, PlaceTemp}
use Rattle.tb_mir.specs.declared.mir.Mir.{Mir}
use Rattle.tb_mir.specs.declared.mir.Ty.{Ty}
use Rattle.tb_mir.specs.declared.mir.Ty.TheVariants as ty
use Rattle.tb_mir.specs.declared.operand.RefKind.TheVariants.{Shared, Mut, RawConst, RawMut}
use Rattle.tb_heap.specs.Access.{Came, Done, Stopped, loaded, stored, freed, retagged}
use Rattle.tb_heap.specs.Memory.{RunMemory, no_memory, born, birth}
use Rattle.tb_heap.specs.declared.stop.Stop.{Stop}
use Rattle.tb_heap.specs.declared.value.Value.{Value}
use Rattle.tb_heap.specs.declared.value.Value.TheVariants.{Pointer}
use Rattle.tb_eval.specs.Print.{printed}
use Rattle.tb_eval.specs.Value.{operand_value, temp_value, pointer_of, variable_pointer, place_pointer, rvalue_value}
use Rattle.tb_eval.specs.declared.frame.Frame.{Frame}
use Rattle.tb_eval.specs.declared.outcome.EvalError.{EvalError}
use Rattle.tb_eval.specs.declared.outcome.EvalError.TheVariants as error
use Rattle.tb_eval.specs.declared.outcome.Outcome.{Outcome}
use Rattle.tb_eval.specs.declared.outcome.Outcome.TheVariants.{Finished, Undefined, Panic}
use Rattle.tb_eval.specs.declared.value.Slot.{Slot}
use Rattle.tb_eval.specs.declared.value.Slot.TheVariants as slot

-- A line leaves this memory and these locals and prints these bytes, and the next line follows; or it ends the run.
pub data Effect : Type 0 where
  Next : RunMemory → List Slot → List ℕ → Effect
  Ends : Outcome → Effect

-- a local takes a value, unless there is none
abbrev pub given : RunMemory → List Slot → ℕ → Span → Result Value EvalError → Effect
given memory locals local span (Ok value) = Next memory (slice_set locals local (slot.Holds value)) []
given memory locals local span (Err (error.Stop stop)) = Ends (Undefined stop span)
given memory locals local span (Err (error.Panic panic)) = Ends (Panic panic span)

-- what came of an event on memory, and what then becomes of the locals
abbrev pub brought : {A : Type 0} → Span → (A → List Slot) → Came A → Effect
brought span locals (Done memory answer) = Next memory (locals answer) []
brought span locals (Stopped stop) = Ends (Undefined stop span)

-- a load from where the place is
abbrev pub load_at : RunMemory → List Slot → ℕ → Span → Result (Option Prov) Stop → Effect
load_at memory locals temp span (Ok pointer) = brought span (λ value. slice_set locals temp (slot.Holds value)) (loaded memory pointer)
load_at memory locals temp span (Err stop) = Ends (Undefined stop span)

-- a store of a value to where the place is; the value is asked first
abbrev pub store_at : RunMemory → List Slot → Span → Result Value Stop → Result (Option Prov) Stop → Effect
store_at memory locals span (Err stop) pointer = Ends (Undefined stop span)
store_at memory locals span (Ok value) (Err stop) = Ends (Undefined stop span)
store_at memory locals span (Ok value) (Ok pointer) = brought span (λ done. locals) (stored memory pointer value)

-- what a retag makes of a local: a unique reference, a shared one, or nothing where it is no reference
abbrev pub is_unique : Ty → Option Bool
is_unique (ty.Pointer Shared) = Some false
is_unique (ty.Pointer Mut) = Some true
is_unique (ty.Pointer RawConst) = None
is_unique (ty.Pointer RawMut) = None
is_unique ty.Unit = None
is_unique ty.Int32 = None

abbrev pub is_unique_local : Option Local → Option Bool
is_unique_local (Some local) = is_unique local.ty
is_unique_local None = None

-- the pointer in a temporary gets a tag of its own
abbrev pub retag_at : RunMemory → List Slot → ℕ → Span → Bool → Result (Option Prov) Stop → Effect
retag_at memory locals temp span unique (Ok pointer) = brought span (λ prov. slice_set locals temp (slot.Holds (Pointer (Some prov)))) (retagged memory pointer unique span)
retag_at memory locals temp span unique (Err stop) = Ends (Undefined stop span)

abbrev pub retag_as : RunMemory → List Slot → ℕ → Span → Option Bool → Effect
retag_as memory locals temp span None = Next memory locals []
retag_as memory locals temp span (Some unique) = retag_at memory locals temp span unique (pointer_of (temp_value (slice_get locals temp)))

abbrev pub told : RunMemory → List Slot → Span → Result (List ℕ) Stop → Effect
told memory locals span (Ok bytes) = Next memory locals bytes
told memory locals span (Err stop) = Ends (Undefined stop span)

-- these temporaries lose their values, one after another
abbrev pub cleared : List Slot → List ℕ → List Slot
cleared locals [] = locals
cleared locals (temp ∷ temps) = cleared (slice_set locals temp slot.Empty) temps

-- how many bytes a local has; one that is not there has none
abbrev pub size_in : Option Local → ℕ
size_in (Some local) = size_of local.ty
size_in None = 0

-- what a line does, where the locals have these kinds and types
abbrev pub effect_of : List Local → Line → Span → RunMemory → List Slot → Effect
effect_of types (Live variable) span memory locals = Next (born memory (size_in (slice_get types variable)) span) (slice_set locals variable (slot.Live (birth memory))) []
effect_of types (Dead variable) span memory locals = brought span (λ done. slice_set locals variable slot.Dead) (freed memory (variable_pointer (slice_get locals variable)))
effect_of types (Load temp place) span memory locals = load_at memory locals temp span (place_pointer locals place)
effect_of types (Store place operand) span memory locals = store_at memory locals span (operand_value locals operand) (place_pointer locals place)
effect_of types (Set temp rvalue) span memory locals = given memory locals temp span (rvalue_value locals rvalue)
effect_of types (Print newline text operands) span memory locals = told memory locals span (printed newline text locals operands)
effect_of types (Clear temps) span memory locals = Next memory (cleared locals temps) []
effect_of types (Retag temp) span memory locals = retag_as memory locals temp span (is_unique_local (slice_get types temp))
effect_of types Return span memory locals = Ends Finished

-- A run between two steps: its memory, and its frame.
pub record State : Type 0 where
  pub memory : RunMemory
  pub frame : Frame

-- the effect of the next line; a block without one there has come to its end
abbrev pub effect_at : List Local → Option MirLine → RunMemory → List Slot → Effect
effect_at types None memory locals = Ends Finished
effect_at types (Some line) memory locals = effect_of types line.line line.span memory locals

-- one step goes on from a state to another and prints, or ends the run
pub data Turn : Type 0 where
  Goes : State → List ℕ → Turn
  Over : Outcome → Turn

-- the state one line on
abbrev pub turned : Frame → Effect → Turn
turned frame (Next memory locals bytes) = Goes (record { memory = memory; frame = record frame { at = frame.at + 1; locals = locals } }) bytes
turned frame (Ends outcome) = Over outcome

abbrev pub step_of : Mir → State → Turn
step_of mir state =
    turned state.frame (effect_at (locals_of mir state.frame.func) (line_at mir state.frame.func state.frame.block state.frame.at) state.memory state.frame.locals)

-- a local before the first step: a variable is not live, and a temporary has no value
abbrev pub first_slot : LocalKind → Slot
first_slot Variable = slot.Dead
first_slot Temp = slot.Empty
first_slot PlaceTemp = slot.Empty

-- the frame of the first function, which is main, before its first line
abbrev pub first_frame : Mir → Frame
first_frame mir = record { func = 0; block = 0; at = 0; locals = map (λ (local : Local). first_slot local.kind) (locals_of mir 0) }

-- nothing is allocated yet
abbrev pub first_state : Mir → State
first_state mir = record { memory = no_memory; frame = first_frame mir }
