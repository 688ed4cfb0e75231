-- A typed node where something is expected: as it is, with a coercion, or with the wrong type.
use Rattle.std.specs.Prelude.{Bool, false, not, ◌&&◌, if◌then◌else◌, Option, Some, None, Result, Ok, Err}
use Rattle.std.specs.Option.{option_map}
use Rattle.tb_perm.specs.declared.span.Span.{Span}
use Rattle.tb_perm.specs.declared.code.Code.TheVariants as code
use Rattle.tb_types.specs.declared.shape.Ty.{Ty}
use Rattle.tb_types.specs.declared.shape.TyShape.TheVariants as shape
use Rattle.tb_types.specs.Same.{ty_eq}
use Rattle.tb_types.specs.Table.{TypeTable}
use Rattle.tb_thir.specs.declared.node.Head.{Head}
use Rattle.tb_thir.specs.declared.node.Node.{Node}
use Rattle.tb_rules.specs.declared.type_kind.TypeKind.{TypeKind}
use Rattle.tb_rules.specs.declared.type_kind.TypeKind.TheVariants.{Array, Ref, Raw, Slice}
use Rattle.tb_rules.specs.declared.want.Want.{Want}
use Rattle.tb_rules.specs.declared.want.Want.TheVariants.{Free, Just, Into, Elements, Pointer}
use Rattle.tb_rules.specs.Answers.{Fault, ◌>>=◌}
use Rattle.tb_rules.specs.Kinds.{kind_at, is_slice}
use Rattle.tb_rules.specs.Nodes.{type_of, span_of, head}
use Rattle.tb_rules.specs.Made.{made}
use Rattle.tb_rules.specs.declared.coercion.Coercion.{Coercion}
use Rattle.tb_rules.specs.declared.coercion.Coercion.TheVariants.{Reborrow, Cast}
use Rattle.tb_rules.specs.Coercions.{raw_kind, applied, coerced, held}

-- the type that is expected, if it is one
abbrev pub expected : Want → Option Ty
expected (Just ty) = Some ty
expected (Into ty) = Some ty
expected want = None

-- a type that is expected with coercions, where it is known
abbrev pub into_or_free : Option Ty → Want
into_or_free None = Free
into_or_free (Some ty) = Into ty

-- what diverges takes the expected type, or `()`
abbrev pub diverging_type : Want → Ty → Ty
diverging_type (Just ty) unit = ty
diverging_type (Into ty) unit = ty
diverging_type want unit = unit

-- of a wrong type
abbrev pub wrong : {A : Type 0} → Span → Result A Fault
wrong span = Err (code.WrongType, span)

abbrev pub or_wrong : {A : Type 0} → Span → Option A → Result A Fault
or_wrong span None = wrong span
or_wrong span (Some x) = Ok x

abbrev pub fit_just : Ty → Node → Result Node Fault
fit_just ty node = if ty_eq (type_of node) ty then Ok node else wrong (span_of node)

abbrev pub fit_into : TypeTable → Ty → Node → Result Node Fault
fit_into types ty node = if ty_eq (type_of node) ty then Ok (held (kind_at types ty) node) else or_wrong (span_of node) (coerced types (head ty (span_of node)) node)

abbrev pub has_elements : TypeKind → Ty → Bool
has_elements (Array part n) ty = ty_eq part ty
has_elements (Slice part) ty = ty_eq part ty
has_elements kind ty = false

abbrev pub fit_elements : TypeTable → Ty → Node → Result Node Fault
fit_elements types ty node = if has_elements (kind_at types (type_of node)) ty then Ok node else wrong (span_of node)

-- how a pointer of this kind becomes a raw one to the same content, `*mut` where `mutable` is true: as it is, or by a coercion
abbrev pub pointing : Bool → Ty → TypeKind → Option (Option Coercion)
pointing mutable content (Raw other to) = if mutable then (if other then Some None else None) else (if other then Some (Some Cast) else Some None)
pointing mutable content (Ref other to) = if not other && mutable then None else Some (Some (Reborrow (raw_kind mutable) content other))
pointing mutable content kind = None

abbrev pub applied_if : Head → Option Coercion → Node → Node
applied_if new None node = node
applied_if new (Some found) node = applied new found node

abbrev pub pointee : TypeKind → Option Ty
pointee (Ref mutable to) = Some to
pointee (Raw mutable to) = Some to
pointee kind = None

-- what a pointer of this kind leads to, and how it becomes a raw one; a pointer to a slice is no thin one
abbrev pub pointer_in : TypeTable → Bool → TypeKind → Option Ty → Option (Ty × Option Coercion)
pointer_in types mutable kind None = None
pointer_in types mutable kind (Some content) = if is_slice (kind_at types content) then None else option_map (λ step. (content, step)) (pointing mutable content kind)

abbrev pub pointer_step : TypeTable → Bool → TypeKind → Option (Ty × Option Coercion)
pointer_step types mutable kind = pointer_in types mutable kind (pointee kind)

abbrev pub pointer_of : Ty × TypeTable → Option Coercion → Node → Result (Node × TypeTable) Fault
pointer_of found step node = Ok (applied_if (head found.0 (span_of node)) step node, found.1)

abbrev pub pointer_made : TypeTable → Bool → Option (Ty × Option Coercion) → Node → Result (Node × TypeTable) Fault
pointer_made types mutable None node = wrong (span_of node)
pointer_made types mutable (Some found) node = pointer_of (made types (shape.Raw mutable found.0)) found.1 node

abbrev pub fit_pointer : TypeTable → Bool → Node → Result (Node × TypeTable) Fault
fit_pointer types mutable node = pointer_made types mutable (pointer_step types mutable (kind_at types (type_of node))) node

abbrev pub with_types : TypeTable → Result Node Fault → Result (Node × TypeTable) Fault
with_types types found = found >>= λ node. Ok (node, types)

-- the node as it is expected, and the types
abbrev pub fit : TypeTable → Want → Node → Result (Node × TypeTable) Fault
fit types Free node = Ok (node, types)
fit types (Just ty) node = with_types types (fit_just ty node)
fit types (Into ty) node = with_types types (fit_into types ty node)
fit types (Elements ty) node = with_types types (fit_elements types ty node)
fit types (Pointer mutable) node = fit_pointer types mutable node
