-- Calls of methods.
use Rattle.std.specs.Prelude.{ℕ, Bool, true, false, not, ◌&&◌, if◌then◌else◌, List, ◌∷◌, length, slice_get, Option, Some, None, Result, Ok, Err}
use Rattle.tb_perm.specs.declared.span.Span.{Span}
use Rattle.tb_perm.specs.declared.code.Code.{Code}
use Rattle.tb_perm.specs.declared.code.Code.TheVariants.{NoSuchFieldOrCall, NotMutable}
use Rattle.tb_types.specs.declared.shape.Ty.{Ty}
use Rattle.tb_types.specs.declared.shape.TyShape.TheVariants as shape
use Rattle.tb_types.specs.declared.shape.IntKind.TheVariants.{Usize}
use Rattle.tb_types.specs.declared.builtin.Builtin.{Builtin}
use Rattle.tb_types.specs.declared.builtin.Builtin.TheVariants.{CellGet, CellSet, CellAsPtr, UnsafeCellGet, SliceAsPtr, SliceAsMutPtr}
use Rattle.tb_types.specs.Table.{TypeTable}
use Rattle.tb_thir.specs.declared.operator.BorrowKind.{BorrowKind}
use Rattle.tb_thir.specs.declared.operator.BorrowKind.TheVariants as borrowed
use Rattle.tb_thir.specs.declared.node.Node.{Node, roll-Node}
use Rattle.tb_thir.specs.declared.node.Node.TheOpen.{Node-F}
use Rattle.tb_thir.specs.Nodes.{is_mutable}
use Rattle.tb_rules.specs.declared.scalars.Scalars.{Scalars}
use Rattle.tb_rules.specs.declared.want.Want.{Want}
use Rattle.tb_rules.specs.declared.want.Want.TheVariants.{Free, Into}
use Rattle.tb_rules.specs.Answers.{Fault, ◌>>=◌}
use Rattle.tb_rules.specs.Kinds.{kind_at}
use Rattle.tb_rules.specs.Scalars.{integer_type}
use Rattle.tb_rules.specs.Nodes.{type_of, span_of, head, borrow}
use Rattle.tb_rules.specs.Made.{made}
use Rattle.tb_places.specs.Derefs.{behind, deref_all}
use Rattle.tb_calls.specs.declared.receivers.Passing.{Passing}
use Rattle.tb_calls.specs.declared.receivers.Passing.TheVariants.{Value, Shared, Unique}
use Rattle.tb_calls.specs.declared.names.Method.{Method}
use Rattle.tb_calls.specs.declared.names.Method.TheVariants.{Length, Call}
use Rattle.tb_calls.specs.declared.names.Step.{Step}
use Rattle.tb_calls.specs.declared.methods.Called.{Called}
use Rattle.tb_calls.specs.declared.rows.Operand.{Operand}
use Rattle.tb_calls.specs.declared.rows.Operand.TheVariants as operand
use Rattle.tb_calls.specs.declared.rows.Operands.TheVariants.{Zero}
use Rattle.tb_calls.specs.declared.rows.About.{About}
use Rattle.tb_calls.specs.declared.rows.About.TheVariants as about_what
use Rattle.tb_calls.specs.declared.rows.Answer.{Answer}
use Rattle.tb_calls.specs.declared.rows.Answer.TheVariants as gives
use Rattle.tb_calls.specs.declared.rows.Row.{Row}
use Rattle.tb_calls.specs.Rows.{safe, row_of, operand_at, call_fault}
use Rattle.tb_calls.specs.Functions.{unless_fault}
use Rattle.tb_calls.specs.Built.{built}
use Rattle.tb_calls.specs.Paths.{pointee, sized}
use Rattle.tb_calls.specs.Names.{method_step}

-- the row of a method
abbrev pub row_by : Method → Bool → Row
row_by Length mutable = safe Zero about_what.Receiver (gives.Int Usize)
row_by (Call builtin) mutable = row_of builtin mutable

-- what is expected of an argument
abbrev pub method_operand : Scalars → Ty → Option Operand → Want
method_operand scalars content (Some operand.About) = Into content
method_operand scalars content (Some (operand.Int kind)) = Into (integer_type scalars kind)
method_operand scalars content other = Free

abbrev pub step_want : Scalars → Option Step → ℕ → Want
step_want scalars None at = Free
step_want scalars (Some step) at = method_operand scalars step.content (operand_at (row_by step.method step.mutable).operands at)

-- of the argument at a place, after a receiver of this type
abbrev pub method_want : TypeTable → Scalars → Ty → List ℕ → ℕ → Want
method_want types scalars receiver name at = step_want scalars (method_step types scalars (kind_at types (behind types receiver.0 receiver)) name) at

-- how a call takes its receiver: cells and `as_ptr` by `&`, `as_mut_ptr` by `&mut`, raw pointers and layouts by value
abbrev pub passing_of : Builtin → Passing
passing_of CellGet = Shared
passing_of CellSet = Shared
passing_of CellAsPtr = Shared
passing_of UnsafeCellGet = Shared
passing_of SliceAsPtr = Shared
passing_of SliceAsMutPtr = Unique
passing_of builtin = Value

abbrev pub asks_mutable : Method → Bool
asks_mutable (Call SliceAsMutPtr) = true
asks_mutable method = false

abbrev pub blocked : Method → Node → Option Code
blocked method place = if asks_mutable method && not (is_mutable place) then Some NotMutable else None

abbrev pub or_blocked : Option Code → Option Code → Option Code
or_blocked None second = second
or_blocked (Some code) second = Some code

-- what forbids a call: what forbids any call, or else that its receiver is not mutable
abbrev pub method_fault : Row → Method → Bool → Node → ℕ → ℕ → Option Code
method_fault row method is_unsafe place written arguments = or_blocked (call_fault row is_unsafe written arguments) (blocked method place)

-- what a call is about: the type that a pointer is cast to, else what the receiver holds or leads to
abbrev pub method_about : TypeTable → About → Ty → Option Ty → Want → Span → Result Ty Fault
method_about types about_what.Pointee content written want span = sized types (pointee types written want) span
method_about types about content written want span = Ok content

abbrev pub borrowed_as : Ty × TypeTable → BorrowKind → Node → Node × TypeTable
borrowed_as found kind place = (borrow (head found.0 (span_of place)) kind place, found.1)

-- the receiver as the call takes it, where it stands
abbrev pub received : TypeTable → Passing → Node → Node × TypeTable
received types Value place = (place, types)
received types Shared place = borrowed_as (made types (shape.Ref false (type_of place))) borrowed.Shared place
received types Unique place = borrowed_as (made types (shape.Ref true (type_of place))) borrowed.Mut place

abbrev pub length_of : Scalars → Node → Span → Node
length_of scalars place span = roll-Node (Node-F.Length (head scalars.usize span) place)

abbrev pub with_receiver : Node × TypeTable → Scalars → Answer → Builtin → Ty → List Node → Span → Result (Node × TypeTable) Fault
with_receiver found scalars answer builtin about arguments span = built found.1 scalars answer builtin about (found.0 ∷ arguments) span

abbrev pub method_built : TypeTable → Scalars → Answer → Method → Ty → Node → List Node → Span → Result (Node × TypeTable) Fault
method_built types scalars answer Length about place arguments span = Ok (length_of scalars place span, types)
method_built types scalars answer (Call builtin) about place arguments span = with_receiver (received types (passing_of builtin) place) scalars answer builtin about arguments span

-- a method that may be called, what it is about, and what it gives
abbrev pub called_about : Method → Answer → Ty → Called
called_about method answer about = record { method = method; answer = answer; about = about }

abbrev pub called_by : TypeTable → Bool → Row → Step → Node → List Ty → ℕ → Want → Span → Result Called Fault
called_by types is_unsafe row step place written count want span = unless_fault (method_fault row step.method is_unsafe place (length written) count) span (method_about types row.about step.content (slice_get written 0) want span >>= λ about. Ok (called_about step.method row.answer about))

abbrev pub called_if : TypeTable → Bool → Option Step → Node → List Ty → ℕ → Want → Span → Result Called Fault
called_if types is_unsafe None place written count want span = Err (NoSuchFieldOrCall, span)
called_if types is_unsafe (Some step) place written count want span = called_by types is_unsafe (row_by step.method step.mutable) step place written count want span

-- the method of a place, with so many arguments
abbrev pub method_called : TypeTable → Scalars → Bool → Node → List ℕ → List Ty → ℕ → Want → Span → Result Called Fault
method_called types scalars is_unsafe place name written count want span = called_if types is_unsafe (method_step types scalars (kind_at types (type_of place)) name) place written count want span

abbrev pub place_call : TypeTable → Scalars → Bool → Node → List ℕ → List Ty → List Node → Want → Span → Result (Node × TypeTable) Fault
place_call types scalars is_unsafe place name written arguments want span = method_called types scalars is_unsafe place name written (length arguments) want span >>= λ found. method_built types scalars found.answer found.method found.about place arguments span

-- the call of a method of what lies behind the references and Boxes of a receiver, and the types
abbrev pub method_call : TypeTable → Scalars → Bool → Node → List ℕ → List Ty → List Node → Want → Span → Result (Node × TypeTable) Fault
method_call types scalars is_unsafe receiver name written arguments want span = place_call types scalars is_unsafe (deref_all types receiver) name written arguments want span
