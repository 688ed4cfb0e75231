-- The rows of the table of built-in calls: for each its T, the types of its operands, and that of its answer.
use Rattle.std.specs.Prelude.{Bool, true, false, ◌&&◌, ◌||◌, nat_lt, List, [], ◌∷◌, length}
use Rattle.tb_types.specs.declared.shape.Ty.{Ty}
use Rattle.tb_types.specs.declared.shape.IntKind.TheVariants.{I32, Isize, Usize, U8}
use Rattle.tb_types.specs.declared.builtin.Builtin.{Builtin}
use Rattle.tb_types.specs.declared.builtin.Builtin.TheVariants.{BoxNew, BoxIntoRaw, BoxLeak, BoxFromRaw, CellNew, UnsafeCellNew, CellGet, CellSet, CellAsPtr, UnsafeCellGet, Null, NullMut, FromRawParts, FromRawPartsMut, SizeOf, AlignOf, Add, Sub, Offset, Read, Write, Cast, IsNull, Addr, SliceAsPtr, SliceAsMutPtr, Getchar, LayoutNew, LayoutFromSizeAlignUnchecked, LayoutSize, LayoutAlign, Alloc, Dealloc}
use Rattle.tb_types.specs.declared.form.Around.TheVariants.{Boxed, Cell, UnsafeCell, Slice, Elements, Ref, Raw}
use Rattle.tb_types.specs.declared.form.Form.{Form}
use Rattle.tb_types.specs.declared.form.Form.TheVariants.{T, Of, Within, Unit, Bool as OfBool, Int, BytePointer, Thin, Layout}
use Rattle.tb_types.specs.declared.head.Operands.{Operands}
use Rattle.tb_types.specs.declared.head.Operands.TheVariants.{Zero, One, Two}
use Rattle.tb_types.specs.declared.head.Head.{Head}
use Rattle.tb_types.specs.Table.{TypeTable}
use Rattle.tb_types.specs.Facts.{is_sized}
use Rattle.tb_types.specs.Forms.{is_form}

-- a row with any T, and one with this T
abbrev pub row : Operands → Form → Head
row operands answer = record { of = T; operands = operands; answer = answer }

abbrev pub row_for : Form → Operands → Form → Head
row_for of operands answer = record { of = of; operands = operands; answer = answer }

-- `m` is whether the raw pointer that the row takes is `*mut`, where it takes either
abbrev pub head_of : Builtin → Bool → Head
head_of BoxNew m = row (One T) (Of Boxed)
head_of BoxIntoRaw m = row (One (Of Boxed)) (Of (Raw true))
head_of BoxLeak m = row (One (Of Boxed)) (Of (Ref true))
head_of BoxFromRaw m = row (One (Of (Raw true))) (Of Boxed)
head_of CellNew m = row (One T) (Of Cell)
head_of UnsafeCellNew m = row (One T) (Of UnsafeCell)
head_of CellGet m = row (One (Within (Ref false) Cell)) T
head_of CellSet m = row (Two (Within (Ref false) Cell) T) Unit
head_of CellAsPtr m = row (One (Within (Ref false) Cell)) (Of (Raw true))
head_of UnsafeCellGet m = row (One (Within (Ref false) UnsafeCell)) (Of (Raw true))
head_of Null m = row Zero (Of (Raw false))
head_of NullMut m = row Zero (Of (Raw true))
head_of FromRawParts m = row (Two (Of (Raw false)) (Int Usize)) (Within (Ref false) Slice)
head_of FromRawPartsMut m = row (Two (Of (Raw true)) (Int Usize)) (Within (Ref true) Slice)
head_of SizeOf m = row Zero (Int Usize)
head_of AlignOf m = row Zero (Int Usize)
head_of Add m = row (Two (Of (Raw m)) (Int Usize)) (Of (Raw m))
head_of Sub m = row (Two (Of (Raw m)) (Int Usize)) (Of (Raw m))
head_of Offset m = row (Two (Of (Raw m)) (Int Isize)) (Of (Raw m))
head_of Read m = row (One (Of (Raw m))) T
head_of Write m = row (Two (Of (Raw true)) T) Unit
head_of Cast m = row (One (Thin m)) (Of (Raw m))
head_of IsNull m = row (One (Of (Raw m))) OfBool
head_of Addr m = row (One (Of (Raw m))) (Int Usize)
head_of SliceAsPtr m = row (One (Within (Ref false) Elements)) (Of (Raw false))
head_of SliceAsMutPtr m = row (One (Within (Ref true) Elements)) (Of (Raw true))
head_of Getchar m = row_for Unit Zero (Int I32)
head_of LayoutNew m = row Zero Layout
head_of LayoutFromSizeAlignUnchecked m = row_for Unit (Two (Int Usize) (Int Usize)) Layout
head_of LayoutSize m = row_for Unit (One Layout) (Int Usize)
head_of LayoutAlign m = row_for Unit (One Layout) (Int Usize)
head_of Alloc m = row_for Unit (One Layout) BytePointer
head_of Dealloc m = row_for (Int U8) (Two BytePointer Layout) Unit

-- the operands are of these forms, and as many
abbrev pub are_operands : TypeTable → Operands → Ty → List Ty → Bool
are_operands types Zero t [] = true
are_operands types (One first) t (a ∷ []) = is_form types first t a
are_operands types (Two first second) t (a ∷ b ∷ []) = is_form types first t a && is_form types second t b
are_operands types operands t args = false

abbrev pub fits_head : TypeTable → Head → List Ty → Ty → Ty → Bool
fits_head types head args t answer = is_form types head.of t t && are_operands types head.operands t args && is_form types head.answer t answer

-- the number is that of a sized type
abbrev pub is_sized_type : TypeTable → Ty → Bool
is_sized_type types ty = nat_lt ty.0 (length types.shapes) && is_sized types ty

-- T is a sized type, and these are the types of the operands and of the answer of the call's row for it
abbrev pub has_head : TypeTable → Builtin → List Ty → Ty → Ty → Bool
has_head types b args t answer = is_sized_type types t && (fits_head types (head_of b false) args t answer || fits_head types (head_of b true) args t answer)
