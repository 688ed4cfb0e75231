-- What a built-in call gives.
use Rattle.std.specs.Prelude.{Bool, true, List, Result, Ok}
use Rattle.tb_perm.specs.declared.span.Span.{Span}
use Rattle.tb_types.specs.declared.shape.Ty.{Ty}
use Rattle.tb_types.specs.declared.shape.TyShape.{TyShape}
use Rattle.tb_types.specs.declared.shape.TyShape.TheVariants as shape
use Rattle.tb_types.specs.declared.builtin.Builtin.{Builtin}
use Rattle.tb_types.specs.Table.{TypeTable}
use Rattle.tb_thir.specs.declared.node.Node.{Node, roll-Node}
use Rattle.tb_thir.specs.declared.node.Node.TheOpen.{Node-F}
use Rattle.tb_rules.specs.declared.scalars.Scalars.{Scalars}
use Rattle.tb_rules.specs.Answers.{Fault}
use Rattle.tb_rules.specs.Scalars.{integer_type}
use Rattle.tb_rules.specs.Nodes.{head}
use Rattle.tb_rules.specs.Made.{made}
use Rattle.tb_calls.specs.declared.rows.Holder.{Holder}
use Rattle.tb_calls.specs.declared.rows.Holder.TheVariants as holder
use Rattle.tb_calls.specs.declared.rows.Answer.{Answer}
use Rattle.tb_calls.specs.declared.rows.Answer.TheVariants as gives

abbrev pub holder_shape : Holder → Ty → TyShape
holder_shape holder.Boxed ty = shape.Boxed ty
holder_shape holder.Cell ty = shape.Cell ty
holder_shape holder.UnsafeCell ty = shape.UnsafeCell ty

-- a reference to what was made
abbrev pub reference_to : Bool → Ty × TypeTable → Ty × TypeTable
reference_to mutable found = made found.1 (shape.Ref mutable found.0)

-- the type that a call gives, by what it is about, and the types
abbrev pub answer_of : TypeTable → Scalars → Answer → Ty → Ty × TypeTable
answer_of types scalars gives.Unit about = (scalars.unit, types)
answer_of types scalars gives.Bool about = (scalars.boolean, types)
answer_of types scalars (gives.Int kind) about = (integer_type scalars kind, types)
answer_of types scalars gives.About about = (about, types)
answer_of types scalars (gives.Holder holder) about = made types (holder_shape holder about)
answer_of types scalars (gives.Ref mutable) about = made types (shape.Ref mutable about)
answer_of types scalars (gives.Raw mutable) about = made types (shape.Raw mutable about)
answer_of types scalars (gives.Slice mutable) about = reference_to mutable (made types (shape.Slice about))
answer_of types scalars gives.Bytes about = made types (shape.Raw true scalars.u8)
answer_of types scalars gives.Layout about = made types (shape.Struct 0)

abbrev pub built_in : Ty × TypeTable → Builtin → Ty → List Node → Span → Result (Node × TypeTable) Fault
built_in found builtin about arguments span = Ok (roll-Node (Node-F.Builtin (head found.0 span) builtin about arguments), found.1)

abbrev pub built : TypeTable → Scalars → Answer → Builtin → Ty → List Node → Span → Result (Node × TypeTable) Fault
built types scalars answer builtin about arguments span = built_in (answer_of types scalars answer about) builtin about arguments span
