-- Struct literals.
use Rattle.std.specs.Prelude.{ℕ, Bool, true, false, ◌&&◌, if◌then◌else◌, List, [], ◌∷◌, length, Option, Some, None, Result, Err}
use Rattle.tb_perm.specs.declared.span.Span.{Span}
use Rattle.tb_perm.specs.declared.code.Code.TheVariants.{WrongNumber, NoSuchFieldOrCall}
use Rattle.tb_types.specs.declared.shape.Ty.{Ty}
use Rattle.tb_types.specs.declared.shape.TyShape.TheVariants as shape
use Rattle.tb_types.specs.declared.item.Field.{Field}
use Rattle.tb_types.specs.Table.{TypeTable, fields_at}
use Rattle.tb_thir.specs.declared.node.Node.{Node}
use Rattle.tb_rules.specs.declared.want.Want.{Want}
use Rattle.tb_rules.specs.declared.want.Want.TheVariants.{Free, Into}
use Rattle.tb_rules.specs.Answers.{Fault}
use Rattle.tb_rules.specs.Made.{made}
use Rattle.tb_places.specs.Fields.{named_if}
use Rattle.tb_aggregates.specs.Orders.{order_of}
use Rattle.tb_aggregates.specs.Tuples.{make_of}

-- the field of this name: its number, and its type
abbrev pub struct_field : TypeTable → ℕ → List ℕ → Option (ℕ × Ty)
struct_field types item name = named_if (fields_at types item) name

-- the value of a field is expected at its type
abbrev pub field_want : Option (ℕ × Ty) → Want
field_want None = Free
field_want (Some found) = Into found.1

abbrev pub is_field : Option ℕ → Bool
is_field None = false
is_field (Some number) = true

abbrev pub are_fields : List (Option ℕ) → Bool
are_fields [] = true
are_fields (number ∷ numbers) = is_field number && are_fields numbers

abbrev pub count_of : Option (List Field) → ℕ
count_of None = 0
count_of (Some fields) = length fields

abbrev pub field_count : TypeTable → ℕ → ℕ
field_count types item = count_of (fields_at types item)

abbrev pub literal_made : TypeTable → ℕ → List Node → Option (List ℕ) → Span → Result (Node × TypeTable) Fault
literal_made types item parts None span = Err (WrongNumber, span)
literal_made types item parts (Some order) span = make_of (made types (shape.Struct item)) parts order span

-- each name is that of a field, and each field stands there once
abbrev pub literal : TypeTable → ℕ → List (Option ℕ) → List Node → Span → Result (Node × TypeTable) Fault
literal types item numbers parts span = if are_fields numbers then literal_made types item parts (order_of numbers (field_count types item)) span else Err (NoSuchFieldOrCall, span)
