-- Each step from a sound state goes on to a sound one.
use Rattle.std.proofs.Common.{◌≡◌, ◌+◌, zero, suc, ℕ, ℤ, Bool, true, false, List, [], ◌∷◌, map, Option, Some, None, Result, Ok, Err, refl, subst, slice_get, slice_set}
use Rattle.std.specs.Prelude.{◌+ℤ◌, if◌then◌else◌}
use Rattle.tb_perm.specs.declared.span.Span.{Span}
use Rattle.tb_perm.specs.declared.tag.Prov.{Prov}
use Rattle.tb_mir.specs.Mir.{line_at, locals_of}
use Rattle.tb_mir.specs.declared.line.Line.{Line}
use Rattle.tb_mir.specs.declared.line.Line.TheVariants.{Live, Dead, Load, Store, Set, Print, Clear, Retag, Return}
use Rattle.tb_mir.specs.declared.line.MirLine.{MirLine}
use Rattle.tb_mir.specs.declared.mir.Local.{Local}
use Rattle.tb_mir.specs.declared.mir.LocalKind.{LocalKind}
use Rattle.tb_mir.specs.declared.mir.LocalKind.TheVariants.{Variable, Temp, PlaceTemp}
use Rattle.tb_mir.specs.declared.mir.Mir.{Mir}
use Rattle.tb_mir.specs.declared.operand.Base.{Base}
use Rattle.tb_mir.specs.declared.operand.Base.TheVariants as base
use Rattle.tb_mir.specs.declared.operand.BinOp.TheVariants.{Add}
use Rattle.tb_mir.specs.declared.operand.Constant.TheVariants as constant
use Rattle.tb_mir.specs.declared.operand.Operand.{Operand}
use Rattle.tb_mir.specs.declared.operand.Operand.TheVariants as operand
use Rattle.tb_mir.specs.declared.operand.Place.{Place}
use Rattle.tb_mir.specs.declared.operand.Rvalue.{Rvalue}
use Rattle.tb_mir.specs.declared.operand.Rvalue.TheVariants.{Ref, Use, Binary}
use Rattle.tb_heap.specs.Access.{Came, Done, Stopped, loaded, stored, freed, retagged}
use Rattle.tb_heap.specs.Memory.{RunMemory, no_memory, born, birth}
use Rattle.tb_heap.specs.Sound.{KnowsPointer, Knows, IsSound, Keeps}
use Rattle.tb_heap.specs.declared.stop.Stop.{Stop}
use Rattle.tb_heap.specs.declared.value.Value.{Value}
use Rattle.tb_heap.specs.declared.value.Value.TheVariants.{Unit as TheUnit, Int, Pointer}
use Rattle.tb_heap.proofs.Soundness.{Knows-kept, loaded_follows, stored_follows, freed_follows, retagged_follows, born_follows}
use Rattle.tb_eval.specs.Print.{printed}
use Rattle.tb_eval.specs.Sound.{KnowsSlot, KnowsSlots, IsSoundState}
use Rattle.tb_eval.specs.Step.{Effect, Next, Ends, Goes, State, step_of, turned, effect_at, effect_of, given, brought, load_at, store_at, retag_at, retag_as, told, cleared, size_in, is_unique_local, first_slot, first_state}
use Rattle.tb_eval.specs.Value.{operand_value, temp_value, pointer_in, pointer_of, variable_pointer, base_pointer, place_pointer, rvalue_value, used, pointed, sum_of, fits_i32, int_operand}
use Rattle.tb_eval.specs.declared.frame.Frame.{Frame}
use Rattle.tb_eval.specs.declared.outcome.EvalError.{EvalError}
use Rattle.tb_eval.specs.declared.outcome.EvalError.TheVariants as error
use Rattle.tb_eval.specs.declared.outcome.Panic.TheVariants.{Overflow}
use Rattle.tb_eval.specs.declared.value.Slot.{Slot}
use Rattle.tb_eval.specs.declared.value.Slot.TheVariants as slot

-- What locals know.

KnowsSlot-kept : (old new : RunMemory) (s : Slot) → Keeps old new → KnowsSlot old s → KnowsSlot new s
KnowsSlot-kept old new slot.Dead keeps knows = knows
KnowsSlot-kept old new (slot.Live prov) keeps knows = keeps prov knows
KnowsSlot-kept old new slot.Empty keeps knows = knows
KnowsSlot-kept old new (slot.Holds value) keeps knows = Knows-kept old new value keeps knows

pub KnowsSlots-kept : (old new : RunMemory) (locals : List Slot) → Keeps old new → KnowsSlots old locals → KnowsSlots new locals
KnowsSlots-kept old new [] keeps knows = knows
KnowsSlots-kept old new (s ∷ locals) keeps knows = (KnowsSlot-kept old new s keeps knows.0, KnowsSlots-kept old new locals keeps knows.1)

pub KnowsSlots-set : (memory : RunMemory) (locals : List Slot) (local : ℕ) (s : Slot) → KnowsSlots memory locals → KnowsSlot memory s → KnowsSlots memory (slice_set locals local s)
KnowsSlots-set memory [] local s knows known = knows
KnowsSlots-set memory (x ∷ locals) zero s knows known = (known, knows.1)
KnowsSlots-set memory (x ∷ locals) (suc local) s knows known = (knows.0, KnowsSlots-set memory locals local s knows.1 known)

knows_at : (memory : RunMemory) (locals : List Slot) (local : ℕ) (s : Slot) → KnowsSlots memory locals → slice_get locals local ≡ Some s → KnowsSlot memory s
knows_at memory [] local s knows is = absurd cc
knows_at memory (x ∷ locals) zero s knows is = let same : x ≡ s = cc in subst (KnowsSlot memory) same knows.0
knows_at memory (x ∷ locals) (suc local) s knows is = knows_at memory locals local s knows.1 is

-- What is read from them.

-- the value that a temporary has is known
temp_known : (memory : RunMemory) (locals : List Slot) (temp : ℕ) (value : Value) → KnowsSlots memory locals → temp_value (slice_get locals temp) ≡ Ok value → Knows memory value
temp_known memory locals temp value knows e = at (slice_get locals temp) refl e
  where
    at : (o : Option Slot) → slice_get locals temp ≡ o → temp_value o ≡ Ok value → Knows memory value
    at None is e = absurd cc
    at (Some slot.Dead) is e = absurd cc
    at (Some (slot.Live prov)) is e = absurd cc
    at (Some slot.Empty) is e = absurd cc
    at (Some (slot.Holds v)) is e = let same : v ≡ value = cc in subst (Knows memory) same (knows_at memory locals temp (slot.Holds v) knows is)

operand_known : (memory : RunMemory) (locals : List Slot) (o : Operand) (value : Value) → KnowsSlots memory locals → operand_value locals o ≡ Ok value → Knows memory value
operand_known memory locals (operand.Temp temp) value knows e = temp_known memory locals temp value knows e
operand_known memory locals (operand.Const (constant.Int int)) value knows e = let same : Int int ≡ value = cc in subst (Knows memory) same tt
operand_known memory locals (operand.Const constant.Unit) value knows e = let same : TheUnit ≡ value = cc in subst (Knows memory) same tt

pub variable_known : (memory : RunMemory) (locals : List Slot) (variable : ℕ) → KnowsSlots memory locals → KnowsPointer memory (variable_pointer (slice_get locals variable))
variable_known memory locals variable knows = at (slice_get locals variable) refl
  where
    at : (o : Option Slot) → slice_get locals variable ≡ o → KnowsPointer memory (variable_pointer o)
    at None is = tt
    at (Some slot.Dead) is = tt
    at (Some (slot.Live prov)) is = knows_at memory locals variable (slot.Live prov) knows is
    at (Some slot.Empty) is = tt
    at (Some (slot.Holds v)) is = tt

pointer_known : (memory : RunMemory) (value : Value) (pointer : Option Prov) → Knows memory value → pointer_in value ≡ Ok pointer → KnowsPointer memory pointer
pointer_known memory (Pointer p) pointer knows e = let same : p ≡ pointer = cc in subst (KnowsPointer memory) same knows
pointer_known memory (Int int) pointer knows e = absurd cc
pointer_known memory TheUnit pointer knows e = absurd cc

-- and so is the pointer in it
pub temp_pointer_known : (memory : RunMemory) (locals : List Slot) (temp : ℕ) (pointer : Option Prov) → KnowsSlots memory locals → pointer_of (temp_value (slice_get locals temp)) ≡ Ok pointer → KnowsPointer memory pointer
temp_pointer_known memory locals temp pointer knows e = at (temp_value (slice_get locals temp)) refl e
  where
    at : (r : Result Value Stop) → temp_value (slice_get locals temp) ≡ r → pointer_of r ≡ Ok pointer → KnowsPointer memory pointer
    at (Err stop) is e = absurd cc
    at (Ok value) is e = pointer_known memory value pointer (temp_known memory locals temp value knows is) e

pub place_known : (memory : RunMemory) (locals : List Slot) (place : Place) (pointer : Option Prov) → KnowsSlots memory locals → place_pointer locals place ≡ Ok pointer → KnowsPointer memory pointer
place_known memory locals place pointer knows e = at place.base e
  where
    at : (b : Base) → base_pointer locals b ≡ Ok pointer → KnowsPointer memory pointer
    at (base.Variable variable) e = let same : variable_pointer (slice_get locals variable) ≡ pointer = cc in subst (KnowsPointer memory) same (variable_known memory locals variable knows)
    at (base.Deref temp) e = temp_pointer_known memory locals temp pointer knows e

sum_known : (memory : RunMemory) (left right : Result ℤ Stop) (value : Value) → sum_of left right ≡ Ok value → Knows memory value
sum_known memory (Err stop) right value e = absurd cc
sum_known memory (Ok left) (Err stop) value e = absurd cc
sum_known memory (Ok left) (Ok right) value e = at (fits_i32 (left +ℤ right)) e
  where
    at : (b : Bool) → (if b then Ok (Int (left +ℤ right)) else Err (error.Panic Overflow)) ≡ Ok value → Knows memory value
    at true e = let same : Int (left +ℤ right) ≡ value = cc in subst (Knows memory) same tt
    at false e = absurd cc

rvalue_known : (memory : RunMemory) (locals : List Slot) (rvalue : Rvalue) (value : Value) → KnowsSlots memory locals → rvalue_value locals rvalue ≡ Ok value → Knows memory value
rvalue_known memory locals (Ref kind place) value knows e = at (place_pointer locals place) refl e
  where
    at : (r : Result (Option Prov) Stop) → place_pointer locals place ≡ r → pointed r ≡ Ok value → Knows memory value
    at (Err stop) is e = absurd cc
    at (Ok pointer) is e = let same : Pointer pointer ≡ value = cc in subst (Knows memory) same (place_known memory locals place pointer knows is)
rvalue_known memory locals (Use o) value knows e = at (operand_value locals o) refl e
  where
    at : (r : Result Value Stop) → operand_value locals o ≡ r → used r ≡ Ok value → Knows memory value
    at (Err stop) is e = absurd cc
    at (Ok v) is e = let same : v ≡ value = cc in subst (Knows memory) same (operand_known memory locals o v knows is)
rvalue_known memory locals (Binary Add left right) value knows e = sum_known memory (int_operand locals left) (int_operand locals right) value e

-- Effects.

-- an effect that goes on leaves a sound memory and locals that it knows
abbrev pub LeavesSound : Effect → Type 0
LeavesSound (Next memory locals bytes) = IsSound memory × KnowsSlots memory locals
LeavesSound (Ends outcome) = Unit {0}

brought_sound : {A : Type 0} (span : Span) (locals : A → List Slot) (came : Came A) → ((memory : RunMemory) (answer : A) → came ≡ Done memory answer → IsSound memory × KnowsSlots memory (locals answer)) → LeavesSound (brought span locals came)
brought_sound span locals (Done memory answer) leaves = leaves memory answer refl
brought_sound span locals (Stopped stop) leaves = tt

given_sound : (memory : RunMemory) (locals : List Slot) (local : ℕ) (span : Span) (r : Result Value EvalError) → IsSound memory → KnowsSlots memory locals → ((value : Value) → r ≡ Ok value → Knows memory value) → LeavesSound (given memory locals local span r)
given_sound memory locals local span (Ok value) sound knows known = (sound, KnowsSlots-set memory locals local (slot.Holds value) knows (known value refl))
given_sound memory locals local span (Err (error.Stop stop)) sound knows known = tt
given_sound memory locals local span (Err (error.Panic panic)) sound knows known = tt

load_sound : (memory : RunMemory) (locals : List Slot) (temp : ℕ) (span : Span) (r : Result (Option Prov) Stop) → IsSound memory → KnowsSlots memory locals → ((pointer : Option Prov) → r ≡ Ok pointer → KnowsPointer memory pointer) → LeavesSound (load_at memory locals temp span r)
load_sound memory locals temp span (Err stop) sound knows known = tt
load_sound memory locals temp span (Ok pointer) sound knows known =
    brought_sound span (λ value. slice_set locals temp (slot.Holds value)) (loaded memory pointer)
    (λ new value e.
    let next = loaded_follows memory new pointer value sound (known pointer refl) e in
    (next.0.sound, KnowsSlots-set new locals temp (slot.Holds value) (KnowsSlots-kept memory new locals next.0.keeps knows) next.1))

store_sound : (memory : RunMemory) (locals : List Slot) (span : Span) (v : Result Value Stop) (r : Result (Option Prov) Stop) → IsSound memory → KnowsSlots memory locals → ((value : Value) → v ≡ Ok value → Knows memory value) → ((pointer : Option Prov) → r ≡ Ok pointer → KnowsPointer memory pointer) → LeavesSound (store_at memory locals span v r)
store_sound memory locals span (Err stop) r sound knows value known = tt
store_sound memory locals span (Ok v) (Err stop) sound knows value known = tt
store_sound memory locals span (Ok v) (Ok pointer) sound knows value known =
    brought_sound span (λ done. locals) (stored memory pointer v)
    (λ new done e.
    let next = stored_follows memory new pointer v done sound (known pointer refl) (value v refl) e in
    (next.sound, KnowsSlots-kept memory new locals next.keeps knows))

retag_sound : (memory : RunMemory) (locals : List Slot) (temp : ℕ) (span : Span) (unique : Bool) (r : Result (Option Prov) Stop) → IsSound memory → KnowsSlots memory locals → ((pointer : Option Prov) → r ≡ Ok pointer → KnowsPointer memory pointer) → LeavesSound (retag_at memory locals temp span unique r)
retag_sound memory locals temp span unique (Err stop) sound knows known = tt
retag_sound memory locals temp span unique (Ok pointer) sound knows known =
    brought_sound span (λ prov. slice_set locals temp (slot.Holds (Pointer (Some prov)))) (retagged memory pointer unique span)
    (λ new prov e.
    let next = retagged_follows memory new pointer unique span prov sound (known pointer refl) e in
    (next.0.sound, KnowsSlots-set new locals temp (slot.Holds (Pointer (Some prov))) (KnowsSlots-kept memory new locals next.0.keeps knows) next.1))

retag_as_sound : (memory : RunMemory) (locals : List Slot) (temp : ℕ) (span : Span) (o : Option Bool) → IsSound memory → KnowsSlots memory locals → LeavesSound (retag_as memory locals temp span o)
retag_as_sound memory locals temp span None sound knows = (sound, knows)
retag_as_sound memory locals temp span (Some unique) sound knows =
    retag_sound memory locals temp span unique (pointer_of (temp_value (slice_get locals temp))) sound knows (λ pointer e. temp_pointer_known memory locals temp pointer knows e)

told_sound : (memory : RunMemory) (locals : List Slot) (span : Span) (r : Result (List ℕ) Stop) → IsSound memory → KnowsSlots memory locals → LeavesSound (told memory locals span r)
told_sound memory locals span (Ok bytes) sound knows = (sound, knows)
told_sound memory locals span (Err stop) sound knows = tt

cleared_known : (memory : RunMemory) (locals : List Slot) (temps : List ℕ) → KnowsSlots memory locals → KnowsSlots memory (cleared locals temps)
cleared_known memory locals [] knows = knows
cleared_known memory locals (temp ∷ temps) knows = cleared_known memory (slice_set locals temp slot.Empty) temps (KnowsSlots-set memory locals temp slot.Empty knows tt)

pub effect_sound : (types : List Local) (line : Line) (span : Span) (memory : RunMemory) (locals : List Slot) → IsSound memory → KnowsSlots memory locals → LeavesSound (effect_of types line span memory locals)
effect_sound types (Live variable) span memory locals sound knows =
    let next = born_follows memory (size_in (slice_get types variable)) span sound in
    let new = born memory (size_in (slice_get types variable)) span in
    (next.0.sound, KnowsSlots-set new locals variable (slot.Live (birth memory)) (KnowsSlots-kept memory new locals next.0.keeps knows) next.1)
effect_sound types (Dead variable) span memory locals sound knows =
    let pointer = variable_pointer (slice_get locals variable) in
    brought_sound span (λ done. slice_set locals variable slot.Dead) (freed memory pointer)
    (λ new done e.
    let next = freed_follows memory new pointer done sound (variable_known memory locals variable knows) e in
    (next.sound, KnowsSlots-set new locals variable slot.Dead (KnowsSlots-kept memory new locals next.keeps knows) tt))
effect_sound types (Load temp place) span memory locals sound knows = load_sound memory locals temp span (place_pointer locals place) sound knows (λ pointer e. place_known memory locals place pointer knows e)
effect_sound types (Store place o) span memory locals sound knows =
    store_sound memory locals span (operand_value locals o) (place_pointer locals place) sound knows (λ value e. operand_known memory locals o value knows e) (λ pointer e. place_known memory locals place pointer knows e)
effect_sound types (Set temp rvalue) span memory locals sound knows = given_sound memory locals temp span (rvalue_value locals rvalue) sound knows (λ value e. rvalue_known memory locals rvalue value knows e)
effect_sound types (Print newline text operands) span memory locals sound knows = told_sound memory locals span (printed newline text locals operands) sound knows
effect_sound types (Clear temps) span memory locals sound knows = (sound, cleared_known memory locals temps knows)
effect_sound types (Retag temp) span memory locals sound knows = retag_as_sound memory locals temp span (is_unique_local (slice_get types temp)) sound knows
effect_sound types Return span memory locals sound knows = tt

-- Steps.

turned_sound : (frame : Frame) (effect : Effect) (next : State) (bytes : List ℕ) → LeavesSound effect → turned frame effect ≡ Goes next bytes → IsSoundState next
turned_sound frame (Ends outcome) next bytes leaves e = absurd cc
turned_sound frame (Next memory locals more) next bytes leaves e =
    let to : State = record { memory = memory; frame = record frame { at = frame.at + 1; locals = locals } } in
    let same : to ≡ next = cc in
    subst IsSoundState same (record { memory = leaves.0; locals = leaves.1 })

line_sound : (types : List Local) (line : Option MirLine) (memory : RunMemory) (locals : List Slot) → IsSound memory → KnowsSlots memory locals → LeavesSound (effect_at types line memory locals)
line_sound types None memory locals sound knows = tt
line_sound types (Some line) memory locals sound knows = effect_sound types line.line line.span memory locals sound knows

pub step_sound : (mir : Mir) (state next : State) (bytes : List ℕ) → IsSoundState state → step_of mir state ≡ Goes next bytes → IsSoundState next
step_sound mir state next bytes sound e =
    let effect = effect_at (locals_of mir state.frame.func) (line_at mir state.frame.func state.frame.block state.frame.at) state.memory state.frame.locals in
    turned_sound state.frame effect next bytes (line_sound (locals_of mir state.frame.func) (line_at mir state.frame.func state.frame.block state.frame.at) state.memory state.frame.locals sound.memory sound.locals) e

first_known : (slots : List Local) → KnowsSlots no_memory (map (λ (local : Local). first_slot local.kind) slots)
first_known [] = tt
first_known (local ∷ slots) = (at local.kind, first_known slots)
  where
    at : (kind : LocalKind) → KnowsSlot no_memory (first_slot kind)
    at Variable = tt
    at Temp = tt
    at PlaceTemp = tt

pub first_sound : (mir : Mir) → IsSoundState (first_state mir)
first_sound mir = record { memory = record { contents = tt; below = tt }; locals = first_known (locals_of mir 0) }
