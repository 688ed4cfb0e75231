-- Literals and their types.
use Rattle.std.specs.Prelude.{ℕ, ◌+◌, Bool, true, false, if◌then◌else◌, nat_le, nat_eq, Option, Some, None, Result, Ok, Err, ℤ, pos, ◌-ℤ◌}
use Rattle.tb_perm.specs.declared.span.Span.{Span}
use Rattle.tb_perm.specs.declared.code.Code.TheVariants.{LiteralOutOfRange}
use Rattle.tb_types.specs.declared.shape.Ty.{Ty}
use Rattle.tb_types.specs.declared.shape.IntKind.{IntKind}
use Rattle.tb_types.specs.declared.shape.IntKind.TheVariants as int
use Rattle.tb_types.specs.Table.{TypeTable}
use Rattle.tb_thir.specs.declared.operator.Constant.{Constant}
use Rattle.tb_thir.specs.declared.operator.Constant.TheVariants as constant
use Rattle.tb_thir.specs.declared.node.Node.{Node, roll-Node}
use Rattle.tb_thir.specs.declared.node.Node.TheOpen.{Node-F}
use Rattle.tb_rules.specs.declared.scalars.Scalars.{Scalars}
use Rattle.tb_rules.specs.declared.type_kind.TypeKind.{TypeKind}
use Rattle.tb_rules.specs.declared.type_kind.TypeKind.TheVariants as kind
use Rattle.tb_rules.specs.declared.want.Want.{Want}
use Rattle.tb_rules.specs.Answers.{Fault}
use Rattle.tb_rules.specs.Fits.{expected}
use Rattle.tb_rules.specs.Kinds.{kind_at}
use Rattle.tb_rules.specs.Nodes.{head}
use Rattle.tb_rules.specs.Scalars.{integer_type}

-- the greatest integer of a type
abbrev pub greatest : IntKind → ℕ
greatest int.I8 = 127
greatest int.I16 = 32767
greatest int.I32 = 2147483647
greatest int.I64 = 9223372036854775807
greatest int.Isize = 9223372036854775807
greatest int.U8 = 255
greatest int.U16 = 65535
greatest int.U32 = 4294967295
greatest int.U64 = 18446744073709551615
greatest int.Usize = 18446744073709551615

abbrev pub is_signed : IntKind → Bool
is_signed int.I8 = true
is_signed int.I16 = true
is_signed int.I32 = true
is_signed int.I64 = true
is_signed int.Isize = true
is_signed kind = false

-- The least integer of a signed type is one further from 0 than the greatest; `-0` is an integer of every type.
abbrev pub is_in_range : IntKind → Bool → ℕ → Bool
is_in_range kind false value = nat_le value (greatest kind)
is_in_range kind true value = if is_signed kind then nat_le value (greatest kind + 1) else nat_eq value 0

abbrev pub signed : Bool → ℕ → ℤ
signed true value = pos 0 -ℤ pos value
signed false value = pos value

abbrev pub int_or_i32 : TypeKind → IntKind
int_or_i32 (kind.Int found) = found
int_or_i32 other = int.I32

abbrev pub int_expected : TypeTable → Option Ty → IntKind
int_expected types None = int.I32
int_expected types (Some ty) = int_or_i32 (kind_at types ty)

-- the suffix, or else the integer type that is expected, or else `i32`
abbrev pub literal_kind : TypeTable → Option IntKind → Want → IntKind
literal_kind types (Some found) want = found
literal_kind types None want = int_expected types (expected want)

abbrev pub literal_of : Ty → Constant → Span → Node
literal_of ty value span = roll-Node (Node-F.Literal (head ty span) value)

abbrev pub integer_of : Scalars → IntKind → Bool → ℕ → Span → Result Node Fault
integer_of scalars found negative value span = if is_in_range found negative value then Ok (literal_of (integer_type scalars found) (constant.Int (signed negative value) found) span) else Err (LiteralOutOfRange, span)

-- an integer of its type, or out of its range
abbrev pub integer : TypeTable → Scalars → Want → Bool → ℕ → Option IntKind → Span → Result Node Fault
integer types scalars want negative value suffix span = integer_of scalars (literal_kind types suffix want) negative value span

abbrev pub character : Scalars → ℕ → Span → Node
character scalars value span = literal_of scalars.character (constant.Char value) span

abbrev pub byte : Scalars → ℕ → Span → Node
byte scalars value span = literal_of scalars.u8 (constant.Int (pos value) int.U8) span

abbrev pub boolean : Scalars → Bool → Span → Node
boolean scalars value span = literal_of scalars.boolean (constant.Bool value) span

abbrev pub unit : Scalars → Span → Node
unit scalars span = literal_of scalars.unit constant.Unit span
