-- A bound above the number of lines is met by no run, since each step goes on to the next line.
use Rattle.std.proofs.Common.{◌≡◌, ◌≢◌, ◌≤◌, ◌<◌, ◌+◌, zero, suc, ℕ, Bool, Option, Some, None, Result, Ok, Err, List, length, slice_get, slice_set, refl, sym, subst, arith}
use Rattle.tb_perm.specs.declared.span.Span.{Span}
use Rattle.tb_mir.specs.Mir.{line_at, lines_of, locals_of}
use Rattle.tb_mir.specs.declared.line.Line.{Line}
use Rattle.tb_mir.specs.declared.line.Line.TheVariants.{Live, Dead, Load, Store, Set, Print, Clear, Retag, Return}
use Rattle.tb_mir.specs.declared.line.MirLine.{MirLine}
use Rattle.tb_mir.specs.declared.mir.Mir.{Mir}
use Rattle.tb_mir.specs.declared.mir.Local.{Local}
use Rattle.tb_perm.specs.declared.tag.Prov.{Prov}
use Rattle.tb_heap.specs.Access.{Came, Done, Stopped, loaded, stored, freed, retagged}
use Rattle.tb_heap.specs.Memory.{RunMemory}
use Rattle.tb_heap.specs.declared.value.Value.TheVariants.{Pointer}
use Rattle.tb_eval.specs.Print.{printed}
use Rattle.tb_eval.specs.Run.{Run, run_of, continued, ample}
use Rattle.tb_eval.specs.Step.{Effect, Next, Ends, Turn, Goes, Over, State, turned, effect_at, effect_of, given, brought, load_at, store_at, retag_at, retag_as, told, is_unique_local, first_state}
use Rattle.tb_eval.specs.Value.{operand_value, temp_value, pointer_of, variable_pointer, place_pointer, rvalue_value}
use Rattle.tb_eval.specs.declared.frame.Frame.{Frame}
use Rattle.tb_eval.specs.declared.outcome.EvalError.{EvalError}
use Rattle.tb_eval.specs.declared.outcome.EvalError.TheVariants as error
use Rattle.tb_eval.specs.declared.outcome.Outcome.{Outcome}
use Rattle.tb_eval.specs.declared.outcome.Outcome.TheVariants.{Finished, Undefined, Panic, StepLimit, WriteFault, Memory}
use Rattle.tb_heap.specs.declared.stop.Stop.{Stop}
use Rattle.tb_eval.specs.declared.value.Slot.{Slot}
use Rattle.tb_eval.specs.declared.value.Slot.TheVariants as slot
use Rattle.tb_heap.specs.declared.value.Value.{Value}
use Rattle.std.proofs.lemmas.Option.{slice_get_within}
use Rattle.tb_run.specs.Held.{Held}
use Rattle.tb_run.specs.Stepped.{SeenOut, Answers}
use Rattle.tb_run.specs.declared.machine.Turn.TheVariants as turn
use Rattle.tb_run.proofs.Along.{run_of-suc}

-- an effect that is not the end by a bound
abbrev IsFree : Effect → Type 0
IsFree (Next memory locals bytes) = Unit {0}
IsFree (Ends outcome) = outcome ≢ StepLimit

free_given : (memory : RunMemory) (locals : List Slot) (local : ℕ) (span : Span) (r : Result Value EvalError) → IsFree (given memory locals local span r)
free_given memory locals local span (Ok value) = tt
free_given memory locals local span (Err (error.Stop stop)) = λ e. cc
free_given memory locals local span (Err (error.Panic panic)) = λ e. cc

free_brought : {A : Type 0} (span : Span) (locals : A → List Slot) (came : Came A) → IsFree (brought span locals came)
free_brought span locals (Done memory answer) = tt
free_brought span locals (Stopped stop) = λ e. cc

free_load : (memory : RunMemory) (locals : List Slot) (temp : ℕ) (span : Span) (r : Result (Option Prov) Stop) → IsFree (load_at memory locals temp span r)
free_load memory locals temp span (Ok pointer) = free_brought span (λ value. slice_set locals temp (slot.Holds value)) (loaded memory pointer)
free_load memory locals temp span (Err stop) = λ e. cc

free_store : (memory : RunMemory) (locals : List Slot) (span : Span) (v : Result Value Stop) (r : Result (Option Prov) Stop) → IsFree (store_at memory locals span v r)
free_store memory locals span (Err stop) r = λ e. cc
free_store memory locals span (Ok value) (Err stop) = λ e. cc
free_store memory locals span (Ok value) (Ok pointer) = free_brought span (λ done. locals) (stored memory pointer value)

free_retag : (memory : RunMemory) (locals : List Slot) (temp : ℕ) (span : Span) (unique : Bool) (r : Result (Option Prov) Stop) → IsFree (retag_at memory locals temp span unique r)
free_retag memory locals temp span unique (Ok pointer) = free_brought span (λ prov. slice_set locals temp (slot.Holds (Pointer (Some prov)))) (retagged memory pointer unique span)
free_retag memory locals temp span unique (Err stop) = λ e. cc

free_retag_as : (memory : RunMemory) (locals : List Slot) (temp : ℕ) (span : Span) (o : Option Bool) → IsFree (retag_as memory locals temp span o)
free_retag_as memory locals temp span None = tt
free_retag_as memory locals temp span (Some unique) = free_retag memory locals temp span unique (pointer_of (temp_value (slice_get locals temp)))

free_told : (memory : RunMemory) (locals : List Slot) (span : Span) (r : Result (List ℕ) Stop) → IsFree (told memory locals span r)
free_told memory locals span (Ok bytes) = tt
free_told memory locals span (Err stop) = λ e. cc

free_of : (types : List Local) (line : Line) (span : Span) (memory : RunMemory) (locals : List Slot) → IsFree (effect_of types line span memory locals)
free_of types (Live variable) span memory locals = tt
free_of types (Dead variable) span memory locals = free_brought span (λ done. slice_set locals variable slot.Dead) (freed memory (variable_pointer (slice_get locals variable)))
free_of types (Load temp place) span memory locals = free_load memory locals temp span (place_pointer locals place)
free_of types (Store place operand) span memory locals = free_store memory locals span (operand_value locals operand) (place_pointer locals place)
free_of types (Set temp rvalue) span memory locals = free_given memory locals temp span (rvalue_value locals rvalue)
free_of types (Print newline text operands) span memory locals = free_told memory locals span (printed newline text locals operands)
free_of types (Clear temps) span memory locals = tt
free_of types (Retag temp) span memory locals = free_retag_as memory locals temp span (is_unique_local (slice_get types temp))
free_of types Return span memory locals = λ e. cc

-- a state at a place, with other memory and other locals
abbrev on_from : Frame → RunMemory → List Slot → State
on_from frame memory locals = record { memory = memory; frame = record frame { at = frame.at + 1; locals = locals } }

-- one turn of a run with steps to spare
free_turn : (mir : Mir) (frame : Frame) (left : ℕ) (effect : Effect) → IsFree effect → ((memory : RunMemory) (locals : List Slot) → (run_of mir (on_from frame memory locals) left).end ≢ StepLimit) → (continued (turned frame effect) (λ next. run_of mir next left)).end ≢ StepLimit
free_turn mir frame left (Next memory locals bytes) free rest = rest memory locals
free_turn mir frame left (Ends outcome) free rest = free

free_line : (mir : Mir) (state : State) (left : ℕ) (line : Option MirLine) → (slice_get (lines_of mir state.frame.func state.frame.block) state.frame.at ≡ line)
    → (state.frame.at < length (lines_of mir state.frame.func state.frame.block) → (memory : RunMemory) (locals : List Slot) → (run_of mir (on_from state.frame memory locals) left).end ≢ StepLimit)
    → (continued (turned state.frame (effect_at (locals_of mir state.frame.func) line state.memory state.frame.locals)) (λ next. run_of mir next left)).end ≢ StepLimit
free_line mir state left None is rest = λ e. cc
free_line mir state left (Some line) is rest =
    free_turn mir state.frame left (effect_of (locals_of mir state.frame.func) line.line line.span state.memory state.frame.locals)
    (free_of (locals_of mir state.frame.func) line.line line.span state.memory state.frame.locals) (rest (slice_get_within (lines_of mir state.frame.func state.frame.block) state.frame.at line is))

no_limit : (mir : Mir) (left : ℕ) (state : State) → state.frame.at ≤ length (lines_of mir state.frame.func state.frame.block) → length (lines_of mir state.frame.func state.frame.block) < state.frame.at + left → (run_of mir state left).end ≢ StepLimit
no_limit mir zero state within more = absurd (omega arith)
no_limit mir (suc left) state within more =
    subst (λ (r : Run). r.end ≢ StepLimit) (sym (run_of-suc mir state left))
    (free_line mir state left (line_at mir state.frame.func state.frame.block state.frame.at) refl
    (λ below memory locals. no_limit mir left (on_from state.frame memory locals) (omega arith) (omega arith)))

-- so the run from the first line is not ended by such a bound
pub ample_run : (mir : Mir) (state : State) (bound : ℕ) → state ≡ first_state mir → ample mir ≤ bound → (run_of mir state bound).end ≢ StepLimit
ample_run mir state bound e h = subst (λ s. (run_of mir s bound).end ≢ StepLimit) (sym e) (no_limit mir bound (first_state mir) (omega arith) (omega arith))

-- no step is ended by it
pub step_not_limit : (old new : Held) (mid after : SeenOut) (outcome : Outcome) (t : Turn) → Answers t old new mid after (turn.Ended outcome) → outcome ≢ StepLimit
step_not_limit old new mid after StepLimit (Goes state bytes) answers = λ e. answers
step_not_limit old new mid after StepLimit (Over outcome) answers = λ e. answers.0
step_not_limit old new mid after Finished t answers = λ e. cc
step_not_limit old new mid after (Undefined stop span) t answers = λ e. cc
step_not_limit old new mid after (Panic panic span) t answers = λ e. cc
step_not_limit old new mid after WriteFault t answers = λ e. cc
step_not_limit old new mid after Memory t answers = λ e. cc
