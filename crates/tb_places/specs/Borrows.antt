-- Borrows.
use Rattle.std.specs.Prelude.{Bool, true, false, not, ◌&&◌, if◌then◌else◌, Result, Ok, Err}
use Rattle.tb_perm.specs.declared.span.Span.{Span}
use Rattle.tb_perm.specs.declared.code.Code.TheVariants.{NotMutable}
use Rattle.tb_types.specs.declared.shape.Ty.{Ty}
use Rattle.tb_types.specs.declared.shape.TyShape.{TyShape}
use Rattle.tb_types.specs.declared.shape.TyShape.TheVariants as shape
use Rattle.tb_types.specs.Table.{TypeTable}
use Rattle.tb_thir.specs.declared.operator.BorrowKind.{BorrowKind}
use Rattle.tb_thir.specs.declared.operator.BorrowKind.TheVariants.{Shared, Mut, RawConst, RawMut}
use Rattle.tb_thir.specs.declared.node.Node.{Node}
use Rattle.tb_thir.specs.Nodes.{is_mutable}
use Rattle.tb_rules.specs.declared.type_kind.TypeKind.{TypeKind}
use Rattle.tb_rules.specs.declared.type_kind.TypeKind.TheVariants as kind
use Rattle.tb_rules.specs.declared.want.Want.{Want}
use Rattle.tb_rules.specs.declared.want.Want.TheVariants.{Free, Just, Into, Elements}
use Rattle.tb_rules.specs.Answers.{Fault}
use Rattle.tb_rules.specs.Kinds.{kind_at}
use Rattle.tb_rules.specs.Nodes.{type_of, head, borrow}
use Rattle.tb_rules.specs.Made.{made}

abbrev pub is_reference : BorrowKind → Bool
is_reference Shared = true
is_reference Mut = true
is_reference RawConst = false
is_reference RawMut = false

abbrev pub asks_mutable : BorrowKind → Bool
asks_mutable Shared = false
asks_mutable Mut = true
asks_mutable RawConst = false
asks_mutable RawMut = true

-- of what a pointer leads to: nothing is expected where a raw pointer to a slice is
abbrev pub content_want : TypeKind → Ty → Bool → Want
content_want (kind.Slice element) ty is_raw = if is_raw then Free else Elements element
content_want content ty is_raw = Just ty

abbrev pub pointed_want : TypeTable → TypeKind → Want
pointed_want types (kind.Ref mutable to) = content_want (kind_at types to) to false
pointed_want types (kind.Raw mutable to) = content_want (kind_at types to) to true
pointed_want types pointer = Free

abbrev pub expected_want : TypeTable → Want → Want
expected_want types (Just ty) = pointed_want types (kind_at types ty)
expected_want types (Into ty) = pointed_want types (kind_at types ty)
expected_want types want = Free

-- of the operand of a borrow, by what is expected of the borrow
abbrev pub borrow_want : TypeTable → BorrowKind → Want → Want
borrow_want types borrowed want = if is_reference borrowed then expected_want types want else Free

abbrev pub borrow_shape : BorrowKind → Ty → TyShape
borrow_shape Shared content = shape.Ref false content
borrow_shape Mut content = shape.Ref true content
borrow_shape RawConst content = shape.Raw false content
borrow_shape RawMut content = shape.Raw true content

abbrev pub borrow_made : Ty × TypeTable → BorrowKind → Node → Span → Result (Node × TypeTable) Fault
borrow_made found borrowed operand span = Ok (borrow (head found.0 span) borrowed operand, found.1)

-- `mut` is for what is mutable
abbrev pub borrow_of : TypeTable → BorrowKind → Node → Span → Result (Node × TypeTable) Fault
borrow_of types borrowed operand span = if asks_mutable borrowed && not (is_mutable operand) then Err (NotMutable, span) else borrow_made (made types (borrow_shape borrowed (type_of operand))) borrowed operand span
