-- Fields of structs and parts of tuples.
use Rattle.std.specs.Prelude.{ℕ, ◌+◌, if◌then◌else◌, nat_eq, List, [], ◌∷◌, Option, Some, None, Result, Ok, Err}
use Rattle.std.specs.Option.{option_map}
use Rattle.std.specs.Str.{bytes_eq}
use Rattle.tb_perm.specs.declared.span.Span.{Span}
use Rattle.tb_perm.specs.declared.code.Code.TheVariants.{NoSuchFieldOrCall}
use Rattle.tb_types.specs.declared.shape.Ty.{Ty}
use Rattle.tb_types.specs.declared.item.Field.{Field}
use Rattle.tb_types.specs.Table.{TypeTable, fields_at}
use Rattle.tb_types.specs.Pieces.{part}
use Rattle.tb_thir.specs.declared.node.Node.{Node, roll-Node}
use Rattle.tb_thir.specs.declared.node.Node.TheOpen.{Node-F}
use Rattle.tb_thir.specs.Nodes.{is_mutable}
use Rattle.tb_rules.specs.declared.type_kind.TypeKind.{TypeKind}
use Rattle.tb_rules.specs.declared.type_kind.TypeKind.TheVariants.{Tuple, Struct}
use Rattle.tb_rules.specs.Answers.{Fault}
use Rattle.tb_rules.specs.Kinds.{kind_at}
use Rattle.tb_rules.specs.Nodes.{type_of, head}
use Rattle.tb_places.specs.Derefs.{deref_all}

-- the first field of this name, of fields that are counted from here: its number, and its type
abbrev pub named_from : ℕ → List Field → List ℕ → Option (ℕ × Ty)
named_from number [] name = None
named_from number (field ∷ fields) name = if bytes_eq field.name name then Some (number, field.ty) else named_from (number + 1) fields name

abbrev pub named_in : List Field → List ℕ → Option (ℕ × Ty)
named_in fields name = named_from 0 fields name

abbrev pub named_if : Option (List Field) → List ℕ → Option (ℕ × Ty)
named_if None name = None
named_if (Some fields) name = named_in fields name

-- a field of a struct; those of `Layout`, which is struct 0, have no names for programs
abbrev pub field_of : TypeTable → TypeKind → List ℕ → Option (ℕ × Ty)
field_of types (Struct item) name = if nat_eq item 0 then None else named_if (fields_at types item) name
field_of types kind name = None

-- a part of a tuple
abbrev pub part_at : TypeTable → TypeKind → Ty → ℕ → Option (ℕ × Ty)
part_at types Tuple ty number = option_map (λ found. (number, found)) (part types ty number)
part_at types kind ty number = None

abbrev pub field_found : Option (ℕ × Ty) → Node → Span → Result Node Fault
field_found None base span = Err (NoSuchFieldOrCall, span)
field_found (Some found) base span = Ok (roll-Node (Node-F.Field (head found.1 span) base found.0 (is_mutable base)))

abbrev pub field : TypeTable → Node → List ℕ → Span → Result Node Fault
field types base name span = field_found (field_of types (kind_at types (type_of (deref_all types base))) name) (deref_all types base) span

abbrev pub tuple_field : TypeTable → Node → ℕ → Span → Result Node Fault
tuple_field types base number span = field_found (part_at types (kind_at types (type_of (deref_all types base))) (type_of (deref_all types base)) number) (deref_all types base) span
