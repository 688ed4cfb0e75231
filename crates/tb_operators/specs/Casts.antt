-- Casts.
use Rattle.std.specs.Prelude.{Bool, true, false, not, ◌&&◌, ◌||◌, if◌then◌else◌, Option, Some, None, Result, Ok, Err}
use Rattle.tb_perm.specs.declared.span.Span.{Span}
use Rattle.tb_perm.specs.declared.code.Code.TheVariants.{CastNotAllowed}
use Rattle.tb_types.specs.declared.shape.Ty.{Ty}
use Rattle.tb_types.specs.declared.shape.IntKind.TheVariants.{U8}
use Rattle.tb_types.specs.Forms.{kind_eq}
use Rattle.tb_types.specs.Table.{TypeTable}
use Rattle.tb_thir.specs.declared.node.Head.{Head}
use Rattle.tb_thir.specs.declared.node.Node.{Node}
use Rattle.tb_rules.specs.declared.type_kind.TypeKind.{TypeKind}
use Rattle.tb_rules.specs.declared.type_kind.TypeKind.TheVariants as kind
use Rattle.tb_rules.specs.Answers.{Fault}
use Rattle.tb_rules.specs.Kinds.{kind_at, is_slice}
use Rattle.tb_rules.specs.Nodes.{type_of, head}
use Rattle.tb_rules.specs.declared.coercion.Coercion.{Coercion}
use Rattle.tb_rules.specs.declared.coercion.Coercion.TheVariants.{Cast}
use Rattle.tb_rules.specs.Coercions.{applied, weakening}
use Rattle.tb_operators.specs.Operators.{is_int}

abbrev pub is_char : TypeKind → Bool
is_char kind.Char = true
is_char other = false

abbrev pub pointee : TypeKind → Option Ty
pointee (kind.Raw mutable to) = Some to
pointee other = None

-- a pointer to a slice comes from one to a slice alone
abbrev pub is_thinner : TypeTable → Ty → Option Ty → Bool
is_thinner types content None = false
is_thinner types content (Some pointee) = is_slice (kind_at types content) || not (is_slice (kind_at types pointee))

-- The value alone makes the cast: between integers, from `u8` to `char`, from `bool` and `char` to integers, and between raw pointers.
abbrev pub is_plain : TypeTable → TypeKind → TypeKind → Bool
is_plain types (kind.Int from) to = is_int to || (kind_eq from U8 && is_char to)
is_plain types kind.Bool to = is_int to
is_plain types kind.Char to = is_int to
is_plain types (kind.Raw mutable content) to = is_thinner types content (pointee to)
is_plain types from to = false

-- a cast, or a coercion of a pointer to one that may do less
abbrev pub casting : TypeTable → TypeKind → TypeKind → Option Coercion
casting types from to = if is_plain types from to then Some Cast else weakening from to

abbrev pub cast_by : Option Coercion → Head → Node → Result Node Fault
cast_by None new node = Err (CastNotAllowed, new.span)
cast_by (Some found) new node = Ok (applied new found node)

-- a cast to a type: by the value alone, or of a pointer to one that may do less
abbrev pub cast_to : TypeTable → Ty → Node → Span → Result Node Fault
cast_to types to operand span = cast_by (casting types (kind_at types (type_of operand)) (kind_at types to)) (head to span) operand
