-- Dereferences, written and inserted.
use Rattle.std.specs.Prelude.{ℕ, zero, suc, Bool, true, if◌then◌else◌, Option, Some, None, Result, Ok, Err}
use Rattle.tb_perm.specs.declared.span.Span.{Span}
use Rattle.tb_perm.specs.declared.code.Code.{Code}
use Rattle.tb_perm.specs.declared.code.Code.TheVariants.{NeedsUnsafe, OperatorNotForType}
use Rattle.tb_types.specs.declared.shape.Ty.{Ty}
use Rattle.tb_types.specs.Table.{TypeTable}
use Rattle.tb_thir.specs.declared.node.Node.{Node, roll-Node}
use Rattle.tb_thir.specs.declared.node.Node.TheOpen.{Node-F}
use Rattle.tb_thir.specs.Nodes.{is_mutable}
use Rattle.tb_rules.specs.declared.type_kind.TypeKind.{TypeKind}
use Rattle.tb_rules.specs.declared.type_kind.TypeKind.TheVariants.{Ref, Raw, Boxed}
use Rattle.tb_rules.specs.Answers.{Fault}
use Rattle.tb_rules.specs.Kinds.{kind_at}
use Rattle.tb_rules.specs.Nodes.{type_of, head, deref}

-- what a reference or `Box` leads to, and whether that is mutable: behind a `&mut`, and in a mutable `Box`
abbrev pub followed : TypeKind → Bool → Option (Ty × Bool)
followed (Ref unique to) mutable = Some (to, unique)
followed (Boxed part) mutable = Some (part, mutable)
followed kind mutable = None

-- the type, and the place, behind so many references and Boxes at most
abbrev pub behind_by : (Ty → Ty) → Ty → Option (Ty × Bool) → Ty
behind_by more ty None = ty
behind_by more ty (Some found) = more found.0

abbrev pub behind : TypeTable → ℕ → Ty → Ty
behind types zero ty = ty
behind types (suc depth) ty = behind_by (behind types depth) ty (followed (kind_at types ty) true)

abbrev pub follow_by : (Node → Node) → Node → Option (Ty × Bool) → Node
follow_by more node None = node
follow_by more node (Some found) = more (deref found.0 found.1 node)

abbrev pub follow : TypeTable → ℕ → Node → Node
follow types zero node = node
follow types (suc depth) node = follow_by (follow types depth) node (followed (kind_at types (type_of node)) (is_mutable node))

-- Before a dot or a bracket, references and Boxes are dereferenced as often as needed. A type is made of types of lesser numbers.
abbrev pub deref_all : TypeTable → Node → Node
deref_all types node = follow types (type_of node).0 node

-- what a pointer leads to, and whether that is mutable: a raw pointer needs `unsafe`
abbrev pub pointed : TypeKind → Bool → Bool → Result (Ty × Bool) Code
pointed (Ref unique to) is_unsafe mutable = Ok (to, unique)
pointed (Boxed part) is_unsafe mutable = Ok (part, mutable)
pointed (Raw unique to) is_unsafe mutable = if is_unsafe then Ok (to, unique) else Err NeedsUnsafe
pointed kind is_unsafe mutable = Err OperatorNotForType

abbrev pub deref_by : Result (Ty × Bool) Code → Node → Span → Result Node Fault
deref_by (Ok found) operand span = Ok (roll-Node (Node-F.Deref (head found.0 span) operand found.1))
deref_by (Err code) operand span = Err (code, span)

-- `*e`
abbrev pub deref_of : TypeTable → Bool → Node → Span → Result Node Fault
deref_of types is_unsafe operand span = deref_by (pointed (kind_at types (type_of operand)) is_unsafe (is_mutable operand)) operand span
