-- Built-in calls by their paths.
use Rattle.std.specs.Prelude.{ℕ, Bool, true, false, if◌then◌else◌, List, [], ◌∷◌, length, slice_get, Option, Some, None, Result, Ok, Err}
use Rattle.tb_perm.specs.declared.span.Span.{Span}
use Rattle.tb_perm.specs.declared.code.Code.TheVariants.{NoSuchFieldOrCall, WrongNumber, TypeNotKnown, TypeNotAllowedHere}
use Rattle.tb_types.specs.declared.shape.Ty.{Ty}
use Rattle.tb_types.specs.declared.shape.TyShape.TheVariants as shape
use Rattle.tb_types.specs.declared.builtin.Builtin.{Builtin}
use Rattle.tb_types.specs.Table.{TypeTable}
use Rattle.tb_thir.specs.declared.node.Head.{Head}
use Rattle.tb_thir.specs.declared.node.Node.{Node}
use Rattle.tb_thir.specs.Nodes.{head_of}
use Rattle.tb_rules.specs.declared.scalars.Scalars.{Scalars}
use Rattle.tb_rules.specs.declared.type_kind.TypeKind.{TypeKind}
use Rattle.tb_rules.specs.declared.type_kind.TypeKind.TheVariants as kind
use Rattle.tb_rules.specs.declared.want.Want.{Want}
use Rattle.tb_rules.specs.declared.want.Want.TheVariants.{Free, Into, Pointer}
use Rattle.tb_rules.specs.Answers.{Fault, ◌>>=◌}
use Rattle.tb_rules.specs.Kinds.{kind_at, is_slice}
use Rattle.tb_rules.specs.Scalars.{integer_type}
use Rattle.tb_rules.specs.Fits.{expected, into_or_free, or_wrong}
use Rattle.tb_rules.specs.Made.{made}
use Rattle.tb_calls.specs.declared.rows.Holder.{Holder}
use Rattle.tb_calls.specs.declared.rows.Holder.TheVariants as holder
use Rattle.tb_calls.specs.declared.rows.Operand.{Operand}
use Rattle.tb_calls.specs.declared.rows.Operand.TheVariants as operand
use Rattle.tb_calls.specs.declared.rows.About.{About}
use Rattle.tb_calls.specs.declared.rows.About.TheVariants as about_what
use Rattle.tb_calls.specs.declared.rows.Row.{Row}
use Rattle.tb_calls.specs.Rows.{row_of, operand_at, call_fault}
use Rattle.tb_calls.specs.Functions.{unless_fault}
use Rattle.tb_calls.specs.Built.{built}

-- what a holder of this kind holds
abbrev pub held_by : Holder → TypeKind → Option Ty
held_by holder.Boxed (kind.Boxed part) = Some part
held_by holder.Cell (kind.Cell part) = Some part
held_by holder.UnsafeCell (kind.UnsafeCell part) = Some part
held_by which other = None

abbrev pub held_if : TypeTable → Holder → Option Ty → Option Ty
held_if types which None = None
held_if types which (Some ty) = held_by which (kind_at types ty)

-- a type that was made, with coercions
abbrev pub into_made : Ty × TypeTable → Want × TypeTable
into_made found = (Into found.0, found.1)

-- what is expected of an argument, where this is expected of the call
abbrev pub path_operand : TypeTable → Scalars → Operand → Want → Want × TypeTable
path_operand types scalars (operand.Held which) want = (into_or_free (held_if types which (expected want)), types)
path_operand types scalars operand.Any want = (Free, types)
path_operand types scalars (operand.Pointer mutable) want = (Pointer mutable, types)
path_operand types scalars operand.About want = (Free, types)
path_operand types scalars (operand.Int kind) want = (Into (integer_type scalars kind), types)
path_operand types scalars operand.Bytes want = into_made (made types (shape.Raw true scalars.u8))
path_operand types scalars operand.Layout want = into_made (made types (shape.Struct 0))

abbrev pub operand_want : TypeTable → Scalars → Option Operand → Want → Want × TypeTable
operand_want types scalars None want = (Free, types)
operand_want types scalars (Some found) want = path_operand types scalars found want

-- what is expected of the argument at a place, and the types
abbrev pub path_want : TypeTable → Scalars → Builtin → Want → ℕ → Want × TypeTable
path_want types scalars builtin want at = operand_want types scalars (operand_at (row_of builtin false).operands at) want

-- what a raw pointer leads to
abbrev pub pointed : TypeKind → Option Ty
pointed (kind.Raw mutable to) = Some to
pointed other = None

abbrev pub pointed_if : TypeTable → Option Ty → Option Ty
pointed_if types None = None
pointed_if types (Some ty) = pointed (kind_at types ty)

-- the type argument, or else what the expected raw pointer leads to, whether it is `*const` or `*mut`
abbrev pub pointee : TypeTable → Option Ty → Want → Option Ty
pointee types None want = pointed_if types (expected want)
pointee types (Some ty) want = Some ty

-- a type is known, and it is no slice
abbrev pub sized : TypeTable → Option Ty → Span → Result Ty Fault
sized types None span = Err (TypeNotKnown, span)
sized types (Some ty) span = if is_slice (kind_at types ty) then Err (TypeNotAllowedHere, span) else Ok ty

-- what a raw pointer leads to that is `*mut` where this is true, and does not lead to a slice
abbrev pub thin : TypeTable → Bool → TypeKind → Option Ty
thin types mutable (kind.Raw other to) = if is_slice (kind_at types to) then None else (if mutable then (if other then Some to else None) else (if other then None else Some to))
thin types mutable other = None

-- the T of a row from the type of its first argument, where that is of the row's form
abbrev pub opened : TypeTable → About → Ty → Option Ty
opened types about_what.Value ty = Some ty
opened types about_what.Boxed ty = held_by holder.Boxed (kind_at types ty)
opened types (about_what.Pointer mutable) ty = thin types mutable (kind_at types ty)
opened types about ty = None

abbrev pub by_first : TypeTable → About → Option Head → Span → Result Ty Fault
by_first types about None span = Err (WrongNumber, span)
by_first types about (Some first) span = or_wrong first.span (opened types about first.ty)

abbrev pub first_head : List Node → Option Head
first_head [] = None
first_head (first ∷ rest) = Some (head_of first)

-- what a call is about
abbrev pub path_about : TypeTable → Scalars → About → Option Ty → Option Head → Want → Span → Result Ty Fault
path_about types scalars about_what.Nothing written first want span = Ok scalars.unit
path_about types scalars about_what.Byte written first want span = Ok scalars.u8
path_about types scalars about_what.Argument written first want span = sized types written span
path_about types scalars about_what.Pointee written first want span = sized types (pointee types written want) span
path_about types scalars about_what.Receiver written first want span = Err (NoSuchFieldOrCall, span)
path_about types scalars about written first want span = by_first types about first span

-- the same of a call that nothing forbids
abbrev pub path_called : TypeTable → Scalars → Bool → Row → List Ty → List Node → Want → Span → Result Ty Fault
path_called types scalars is_unsafe row written arguments want span = unless_fault (call_fault row is_unsafe (length written) (length arguments)) span (path_about types scalars row.about (slice_get written 0) (first_head arguments) want span)

-- the call of a path, and the types
abbrev pub path_call : TypeTable → Scalars → Bool → Builtin → List Ty → List Node → Want → Span → Result (Node × TypeTable) Fault
path_call types scalars is_unsafe builtin written arguments want span = path_called types scalars is_unsafe (row_of builtin false) written arguments want span >>= λ about. built types scalars (row_of builtin false).answer builtin about arguments span
