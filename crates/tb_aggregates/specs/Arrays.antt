-- Arrays.
use Rattle.std.specs.Prelude.{ℕ, Bool, true, if◌then◌else◌, nat_eq, List, [], ◌∷◌, length, Option, Some, None, Result, Ok, Err}
use Rattle.tb_perm.specs.declared.span.Span.{Span}
use Rattle.tb_perm.specs.declared.code.Code.TheVariants.{WrongNumber, TypeNotKnown}
use Rattle.tb_types.specs.declared.shape.Ty.{Ty}
use Rattle.tb_types.specs.declared.shape.TyShape.TheVariants as shape
use Rattle.tb_types.specs.Table.{TypeTable}
use Rattle.tb_thir.specs.declared.node.Node.{Node, roll-Node}
use Rattle.tb_thir.specs.declared.node.Node.TheOpen.{Node-F}
use Rattle.tb_rules.specs.declared.type_kind.TypeKind.{TypeKind}
use Rattle.tb_rules.specs.declared.type_kind.TypeKind.TheVariants.{Array}
use Rattle.tb_rules.specs.declared.want.Want.{Want}
use Rattle.tb_rules.specs.declared.want.Want.TheVariants.{Just, Into, Elements}
use Rattle.tb_rules.specs.Answers.{Fault}
use Rattle.tb_rules.specs.Fits.{expected, into_or_free}
use Rattle.tb_rules.specs.Kinds.{kind_at}
use Rattle.tb_rules.specs.Nodes.{type_of, head}
use Rattle.tb_rules.specs.Made.{made}
use Rattle.tb_aggregates.specs.Orders.{up_to}
use Rattle.tb_aggregates.specs.Tuples.{make_of}

abbrev pub element_in : TypeKind → Option Ty
element_in (Array part n) = Some part
element_in kind = None

-- the type of the elements that are expected
abbrev pub element_of : TypeTable → Want → Option Ty
element_of types (Just ty) = element_in (kind_at types ty)
element_of types (Into ty) = element_in (kind_at types ty)
element_of types (Elements ty) = Some ty
element_of types want = None

-- of the first element
abbrev pub element_want : TypeTable → Want → Want
element_want types want = into_or_free (element_of types want)

-- of a later element, after a first of this type
abbrev pub or_first : Option Ty → Ty → Want
or_first None first = Into first
or_first (Some ty) first = Into ty

abbrev pub part_want : TypeTable → Want → Ty → Want
part_want types want first = or_first (element_of types want) first

abbrev pub length_is : TypeKind → ℕ → Bool
length_is (Array part n) other = nat_eq n other
length_is kind other = true

abbrev pub length_if : TypeTable → Option Ty → ℕ → Bool
length_if types None n = true
length_if types (Some ty) n = length_is (kind_at types ty) n

-- no array of another length is expected
abbrev pub has_length : TypeTable → Want → ℕ → Bool
has_length types want n = length_if types (expected want) n

abbrev pub first_type : List Node → Option Ty
first_type [] = None
first_type (first ∷ parts) = Some (type_of first)

abbrev pub or_else : Option Ty → Option Ty → Option Ty
or_else None second = second
or_else (Some ty) second = Some ty

-- the elements are of the expected type, or else of that of the first
abbrev pub known_element : TypeTable → Want → List Node → Option Ty
known_element types want parts = or_else (element_of types want) (first_type parts)

abbrev pub array_made : TypeTable → Ty → List Node → Span → Result (Node × TypeTable) Fault
array_made types element parts span = make_of (made types (shape.Array element (length parts))) parts (up_to (length parts)) span

abbrev pub array_by : TypeTable → Option Ty → List Node → Span → Result (Node × TypeTable) Fault
array_by types None parts span = Err (TypeNotKnown, span)
array_by types (Some element) parts span = array_made types element parts span

abbrev pub array : TypeTable → Want → List Node → Span → Result (Node × TypeTable) Fault
array types want parts span = if has_length types want (length parts) then array_by types (known_element types want parts) parts span else Err (WrongNumber, span)

abbrev pub repeat_of : Ty × TypeTable → Node → ℕ → Span → Result (Node × TypeTable) Fault
repeat_of found element n span = Ok (roll-Node (Node-F.Repeat (head found.0 span) element n), found.1)

abbrev pub repeat_made : TypeTable → Node → ℕ → Span → Result (Node × TypeTable) Fault
repeat_made types element n span = repeat_of (made types (shape.Array (type_of element) n)) element n span

abbrev pub repeat : TypeTable → Want → Node → ℕ → Span → Result (Node × TypeTable) Fault
repeat types want element n span = if has_length types want n then repeat_made types element n span else Err (WrongNumber, span)
