-- Coercions, one line each.
use Rattle.std.specs.Prelude.{ℕ, Bool, true, false, not, ◌&&◌, if◌then◌else◌, Option, Some, None}
use Rattle.std.specs.Option.{option_map}
use Rattle.tb_types.specs.declared.shape.Ty.{Ty}
use Rattle.tb_types.specs.Same.{ty_eq}
use Rattle.tb_types.specs.Table.{TypeTable}
use Rattle.tb_thir.specs.declared.node.Head.{Head}
use Rattle.tb_thir.specs.declared.operator.BorrowKind.{BorrowKind}
use Rattle.tb_thir.specs.declared.operator.BorrowKind.TheVariants as borrowed
use Rattle.tb_thir.specs.declared.node.Node.{Node, roll-Node}
use Rattle.tb_thir.specs.declared.node.Node.TheOpen.{Node-F}
use Rattle.tb_thir.specs.Nodes.{head_of, is_place}
use Rattle.tb_rules.specs.declared.coercion.Coercion.{Coercion}
use Rattle.tb_rules.specs.declared.coercion.Coercion.TheVariants.{Reborrow, Cast, Unsize}
use Rattle.tb_rules.specs.declared.type_kind.TypeKind.{TypeKind}
use Rattle.tb_rules.specs.declared.type_kind.TypeKind.TheVariants.{Array, Ref, Raw, Slice}
use Rattle.tb_rules.specs.Kinds.{kind_at}
use Rattle.tb_rules.specs.Nodes.{type_of, cast, reborrow}

abbrev pub raw_kind : Bool → BorrowKind
raw_kind true = borrowed.RawMut
raw_kind false = borrowed.RawConst

abbrev pub ref_kind : Bool → BorrowKind
ref_kind true = borrowed.Mut
ref_kind false = borrowed.Shared

-- what a coercion makes of a node, as a new node of this type at this place
abbrev pub applied : Head → Coercion → Node → Node
applied new (Reborrow kind content mutable) node = reborrow new kind content mutable node
applied new Cast node = cast new node
applied new (Unsize n) node = roll-Node (Node-F.Unsize new node n)

-- `&mut T` becomes `*mut T`, `*const T` or `&T`
abbrev pub from_unique : Ty → TypeKind → Option Coercion
from_unique content (Raw mutable to) = if ty_eq content to then Some (Reborrow (raw_kind mutable) content true) else None
from_unique content (Ref mutable to) = if not mutable && ty_eq content to then Some (Reborrow borrowed.Shared content true) else None
from_unique content to = None

-- a `*const T`, which `&T` and `*mut T` become
abbrev pub is_const : Ty → TypeKind → Bool
is_const content (Raw mutable to) = not mutable && ty_eq content to
is_const content to = false

-- a pointer becomes one that may do less
abbrev pub weakening : TypeKind → TypeKind → Option Coercion
weakening (Ref mutable content) to = if mutable then from_unique content to else (if is_const content to then Some (Reborrow borrowed.RawConst content false) else None)
weakening (Raw mutable content) to = if mutable && is_const content to then Some Cast else None
weakening from to = None

-- what a reference leads to, that is `&mut` where this is true
abbrev pub target_of : Bool → TypeKind → Option Ty
target_of mutable (Ref other to) = if mutable then (if other then Some to else None) else (if other then None else Some to)
target_of mutable to = None

-- an array of so many elements becomes a slice of them
abbrev pub to_slice : Ty → ℕ → TypeKind → Option Coercion
to_slice part n (Slice element) = if ty_eq part element then Some (Unsize n) else None
to_slice part n to = None

abbrev pub slicing : TypeKind → TypeKind → Option Coercion
slicing (Array part n) to = to_slice part n to
slicing from to = None

-- `&[T; n]` becomes `&[T]`, and `&mut [T; n]` becomes `&mut [T]`
abbrev pub by_target : TypeTable → Ty → Option Ty → TypeKind → TypeKind → Option Coercion
by_target types content None from to = weakening from to
by_target types content (Some pointee) from to = slicing (kind_at types content) (kind_at types pointee)

abbrev pub coercion_of : TypeTable → TypeKind → TypeKind → Option Coercion
coercion_of types (Ref mutable content) to = by_target types content (target_of mutable to) (Ref mutable content) to
coercion_of types from to = weakening from to

-- the node with a coercion, as a new node of this type at this place
abbrev pub coerced : TypeTable → Head → Node → Option Node
coerced types new node = option_map (λ found. applied new found node) (coercion_of types (kind_at types (type_of node)) (kind_at types new.ty))

-- of the expected type already: a reference that is a place is reborrowed
abbrev pub holding : TypeKind → Option Coercion
holding (Ref mutable content) = Some (Reborrow (ref_kind mutable) content mutable)
holding kind = None

abbrev pub held_by : Option Coercion → Node → Node
held_by None node = node
held_by (Some found) node = if is_place node then applied (head_of node) found node else node

abbrev pub held : TypeKind → Node → Node
held kind node = held_by (holding kind) node
