-- What came of an event on memory, as what a line does.
use Rattle.std.proofs.Common.{◌≡◌, ℕ, List, Result, Ok, Err, refl, ap, ◌∙◌}
use Rattle.tb_perm.specs.declared.span.Span.{Span}
use Rattle.tb_heap.specs.Access.{Came, Done, Stopped, Answers}
use Rattle.tb_heap.specs.Memory.{RunMemory}
use Rattle.tb_heap.specs.declared.stop.Stop.{Stop}
use Rattle.tb_heap.specs.declared.stop.Stop.TheVariants as stop
use Rattle.tb_mir.specs.declared.line.Line.{Line}
use Rattle.tb_mir.specs.declared.line.Line.TheVariants.{Live, Dead, Load, Store, Set, Print, Clear, Retag, Return}
use Rattle.tb_mir.specs.declared.mir.Local.{Local}
use Rattle.tb_eval.specs.Print.{printed}
use Rattle.tb_eval.specs.Step.{Effect, Next, Ends, effect_of, brought, told}
use Rattle.tb_eval.specs.declared.outcome.Outcome.{Outcome}
use Rattle.tb_eval.specs.declared.outcome.Outcome.TheVariants.{Finished, Undefined, Panic, StepLimit, WriteFault, Memory}
use Rattle.tb_eval.specs.declared.value.Slot.{Slot}
use Rattle.tb_run.specs.Carried.{Acts, Carries, EndsAs, IsMemory, silent_effect, stopped_by}

pub brought_done : {A : Type 0} (span : Span) (locals : A → List Slot) (came : Came A) (answer : A) (kept : RunMemory) (new : List Slot) → Answers came (Ok answer) kept → new ≡ locals answer → Acts (brought span locals came) kept new (Ok tt)
brought_done span locals (Done memory value) answer kept new answers is = (answers.1, is ∙ ap locals answers.0, refl)
brought_done span locals (Stopped why) answer kept new answers is = absurd answers

pub brought_stopped : {A : Type 0} (span : Span) (locals : A → List Slot) (came : Came A) (why : Stop) (kept : RunMemory) (new : List Slot) → Answers {A = A} came (Err why) kept → Acts (brought span locals came) kept new (Err (stopped_by why span))
brought_stopped span locals (Done memory value) stop.Memory kept new answers = tt
brought_stopped span locals (Done memory value) stop.Dangling kept new answers = absurd answers
brought_stopped span locals (Done memory value) stop.Uninit kept new answers = absurd answers
brought_stopped span locals (Done memory value) (stop.Borrow alloc report) kept new answers = absurd answers
brought_stopped span locals (Stopped s) stop.Memory kept new answers = tt
brought_stopped span locals (Stopped s) stop.Dangling kept new answers = ap (λ w. Undefined w span) answers
brought_stopped span locals (Stopped s) stop.Uninit kept new answers = ap (λ w. Undefined w span) answers
brought_stopped span locals (Stopped s) (stop.Borrow alloc report) kept new answers = ap (λ w. Undefined w span) answers

-- a stop that is asked for
pub stopped_ends : (why : Stop) (span : Span) → EndsAs (Undefined why span) (stopped_by why span)
stopped_ends stop.Memory span = tt
stopped_ends stop.Dangling span = refl
stopped_ends stop.Uninit span = refl
stopped_ends (stop.Borrow alloc report) span = refl

pub ruleset brought_laws = (brought_done, brought_stopped, stopped_ends)

-- a line that ends the run ends it, whatever it prints
effect_ends : (effect : Effect) (kept : RunMemory) (new : List Slot) (outcome : Outcome) → Acts effect kept new (Err outcome) → Carries effect kept new (Err outcome)
effect_ends (Next memory locals bytes) kept new outcome acts = acts
effect_ends (Ends wanted) kept new outcome acts = acts

told_ends : (memory : RunMemory) (locals : List Slot) (span : Span) (r : Result (List ℕ) Stop) (kept : RunMemory) (new : List Slot) (outcome : Outcome) → IsMemory outcome → Carries (told memory locals span r) kept new (Err outcome)
told_ends memory locals span (Ok bytes) kept new outcome is = is
told_ends memory locals span (Err why) kept new Memory is = tt
told_ends memory locals span (Err why) kept new Finished is = absurd is
told_ends memory locals span (Err why) kept new (Undefined other at) is = absurd is
told_ends memory locals span (Err why) kept new (Panic other at) is = absurd is
told_ends memory locals span (Err why) kept new StepLimit is = absurd is
told_ends memory locals span (Err why) kept new WriteFault is = absurd is

pub line_ends : (types : List Local) (line : Line) (span : Span) (memory : RunMemory) (locals : List Slot) (kept : RunMemory) (new : List Slot) (outcome : Outcome) → Acts (silent_effect types line span memory locals) kept new (Err outcome) → Carries (effect_of types line span memory locals) kept new (Err outcome)
line_ends types (Print newline text operands) span memory locals kept new outcome acts = told_ends memory locals span (printed newline text locals operands) kept new outcome acts
line_ends types (Live variable) span memory locals kept new outcome acts = acts
line_ends types (Dead variable) span memory locals kept new outcome acts = effect_ends (effect_of types (Dead variable) span memory locals) kept new outcome acts
line_ends types (Load temp place) span memory locals kept new outcome acts = effect_ends (effect_of types (Load temp place) span memory locals) kept new outcome acts
line_ends types (Store place operand) span memory locals kept new outcome acts = effect_ends (effect_of types (Store place operand) span memory locals) kept new outcome acts
line_ends types (Set temp rvalue) span memory locals kept new outcome acts = effect_ends (effect_of types (Set temp rvalue) span memory locals) kept new outcome acts
line_ends types (Clear temps) span memory locals kept new outcome acts = acts
line_ends types (Retag temp) span memory locals kept new outcome acts = effect_ends (effect_of types (Retag temp) span memory locals) kept new outcome acts
line_ends types Return span memory locals kept new outcome acts = acts
