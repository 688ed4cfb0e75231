-- Tuples.
use Rattle.std.specs.Prelude.{ℕ, Bool, true, if◌then◌else◌, nat_eq, List, length, map, Option, Some, None, Result, Ok, Err}
use Rattle.tb_perm.specs.declared.span.Span.{Span}
use Rattle.tb_perm.specs.declared.code.Code.TheVariants.{WrongNumber}
use Rattle.tb_types.specs.declared.shape.Ty.{Ty}
use Rattle.tb_types.specs.declared.shape.TyShape.TheVariants as shape
use Rattle.tb_types.specs.Table.{TypeTable, shape_at}
use Rattle.tb_types.specs.Pieces.{part, side_by_side}
use Rattle.tb_thir.specs.declared.node.Node.{Node, roll-Node}
use Rattle.tb_thir.specs.declared.node.Node.TheOpen.{Node-F}
use Rattle.tb_rules.specs.declared.type_kind.TypeKind.{TypeKind}
use Rattle.tb_rules.specs.declared.type_kind.TypeKind.TheVariants.{Tuple}
use Rattle.tb_rules.specs.declared.want.Want.{Want}
use Rattle.tb_rules.specs.declared.want.Want.TheVariants.{Free}
use Rattle.tb_rules.specs.Answers.{Fault}
use Rattle.tb_rules.specs.Fits.{expected, into_or_free}
use Rattle.tb_rules.specs.Kinds.{kind_at}
use Rattle.tb_rules.specs.Nodes.{type_of, head}
use Rattle.tb_rules.specs.Made.{made}
use Rattle.tb_aggregates.specs.Orders.{up_to}

abbrev pub part_of : TypeTable → Ty → ℕ → TypeKind → Option Ty
part_of types ty at Tuple = part types ty at
part_of types ty at kind = None

abbrev pub tuple_part : TypeTable → Ty → ℕ → Option Ty
tuple_part types ty at = part_of types ty at (kind_at types ty)

abbrev pub part_wanted : TypeTable → ℕ → Option Ty → Want
part_wanted types at None = Free
part_wanted types at (Some ty) = into_or_free (tuple_part types ty at)

-- of each part, its type in the expected tuple
abbrev pub tuple_want : TypeTable → Want → ℕ → Want
tuple_want types want at = part_wanted types at (expected want)

abbrev pub types_of : List Node → List Ty
types_of parts = map type_of parts

abbrev pub number_is : TypeTable → Ty → ℕ → TypeKind → Bool
number_is types ty count Tuple = nat_eq (length (side_by_side types (shape_at types ty))) count
number_is types ty count kind = true

abbrev pub number_if : TypeTable → ℕ → Option Ty → Bool
number_if types count None = true
number_if types count (Some ty) = number_is types ty count (kind_at types ty)

-- no tuple with another number of parts is expected
abbrev pub has_number : TypeTable → Want → ℕ → Bool
has_number types want count = number_if types count (expected want)

abbrev pub make_of : Ty × TypeTable → List Node → List ℕ → Span → Result (Node × TypeTable) Fault
make_of found parts order span = Ok (roll-Node (Node-F.Make (head found.0 span) parts order), found.1)

abbrev pub tuple_made : TypeTable → List Node → Span → Result (Node × TypeTable) Fault
tuple_made types parts span = make_of (made types (shape.Tuple (types_of parts))) parts (up_to (length parts)) span

abbrev pub tuple : TypeTable → Want → List Node → Span → Result (Node × TypeTable) Fault
tuple types want parts span = if has_number types want (length parts) then tuple_made types parts span else Err (WrongNumber, span)
