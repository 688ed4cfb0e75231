-- Elements of arrays and slices.
use Rattle.std.specs.Prelude.{Option, Some, None, Result, Ok, Err}
use Rattle.tb_perm.specs.declared.span.Span.{Span}
use Rattle.tb_perm.specs.declared.code.Code.TheVariants.{NoSuchFieldOrCall}
use Rattle.tb_types.specs.declared.shape.Ty.{Ty}
use Rattle.tb_types.specs.Table.{TypeTable}
use Rattle.tb_thir.specs.declared.node.Node.{Node, roll-Node}
use Rattle.tb_thir.specs.declared.node.Node.TheOpen.{Node-F}
use Rattle.tb_thir.specs.Nodes.{is_mutable}
use Rattle.tb_rules.specs.declared.scalars.Scalars.{Scalars}
use Rattle.tb_rules.specs.declared.type_kind.TypeKind.{TypeKind}
use Rattle.tb_rules.specs.declared.type_kind.TypeKind.TheVariants.{Array, Slice}
use Rattle.tb_rules.specs.declared.want.Want.{Want}
use Rattle.tb_rules.specs.declared.want.Want.TheVariants.{Free, Just}
use Rattle.tb_rules.specs.Answers.{Fault}
use Rattle.tb_rules.specs.Kinds.{kind_at}
use Rattle.tb_rules.specs.Nodes.{type_of, head}
use Rattle.tb_places.specs.Derefs.{behind, deref_all}

abbrev pub element_of : TypeKind → Option Ty
element_of (Array part n) = Some part
element_of (Slice part) = Some part
element_of kind = None

abbrev pub index_by : Option Ty → Ty → Want
index_by None usize = Free
index_by (Some element) usize = Just usize

-- an index is a `usize`, after what has elements
abbrev pub index_want : TypeTable → Scalars → Ty → Want
index_want types scalars base = index_by (element_of (kind_at types (behind types base.0 base))) scalars.usize

abbrev pub index_found : Option Ty → Node → Node → Span → Result Node Fault
index_found None base index span = Err (NoSuchFieldOrCall, span)
index_found (Some element) base index span = Ok (roll-Node (Node-F.Index (head element span) base index (is_mutable base)))

abbrev pub index : TypeTable → Node → Node → Span → Result Node Fault
index types base at span = index_found (element_of (kind_at types (type_of (deref_all types base)))) (deref_all types base) at span
