-- The rows of the table of built-in calls: whether the call needs `unsafe`, what is expected of its arguments, what it is about, which is its T, and
-- what it gives.
use Rattle.std.specs.Prelude.{ℕ, Bool, true, false, not, ◌&&◌, if◌then◌else◌, nat_eq, nat_lt, Option, Some, None}
use Rattle.tb_perm.specs.declared.code.Code.{Code}
use Rattle.tb_perm.specs.declared.code.Code.TheVariants.{WrongNumber, NeedsUnsafe}
use Rattle.tb_types.specs.declared.shape.IntKind.TheVariants.{I32, Usize, Isize}
use Rattle.tb_types.specs.declared.builtin.Builtin.{Builtin}
use Rattle.tb_types.specs.declared.builtin.Builtin.TheVariants.{BoxNew, BoxIntoRaw, BoxLeak, BoxFromRaw, CellNew, UnsafeCellNew, CellGet, CellSet, CellAsPtr, UnsafeCellGet, Null, NullMut, FromRawParts, FromRawPartsMut, SizeOf, AlignOf, Add, Sub, Offset, Read, Write, Cast, IsNull, Addr, SliceAsPtr, SliceAsMutPtr, Getchar, LayoutNew, LayoutFromSizeAlignUnchecked, LayoutSize, LayoutAlign, Alloc, Dealloc}
use Rattle.tb_calls.specs.declared.rows.Holder.{Holder}
use Rattle.tb_calls.specs.declared.rows.Holder.TheVariants.{Boxed, Cell, UnsafeCell}
use Rattle.tb_calls.specs.declared.rows.Operand.{Operand}
use Rattle.tb_calls.specs.declared.rows.Operand.TheVariants as operand
use Rattle.tb_calls.specs.declared.rows.Operands.{Operands}
use Rattle.tb_calls.specs.declared.rows.Operands.TheVariants.{Zero, One, Two}
use Rattle.tb_calls.specs.declared.rows.About.{About}
use Rattle.tb_calls.specs.declared.rows.About.TheVariants as about_what
use Rattle.tb_calls.specs.declared.rows.About.TheVariants.{Nothing, Byte, Argument, Pointee, Value, Pointer, Receiver}
use Rattle.tb_calls.specs.declared.rows.Answer.{Answer}
use Rattle.tb_calls.specs.declared.rows.Answer.TheVariants as gives
use Rattle.tb_calls.specs.declared.rows.Row.{Row}

-- a row that may stand anywhere, and one that needs `unsafe`
abbrev pub safe : Operands → About → Answer → Row
safe operands about answer = record { needs_unsafe = false; operands = operands; about = about; answer = answer }

abbrev pub guarded : Operands → About → Answer → Row
guarded operands about answer = record { needs_unsafe = true; operands = operands; about = about; answer = answer }

-- `new` of a holder, and a slice of raw parts
abbrev pub new_row : Holder → Row
new_row holder = safe (One (operand.Held holder)) Value (gives.Holder holder)

abbrev pub slice_row : Bool → Row
slice_row mutable = guarded (Two (operand.Pointer mutable) (operand.Int Usize)) (Pointer mutable) (gives.Slice mutable)

-- `m` is whether the raw pointer of a method is `*mut`
abbrev pub row_of : Builtin → Bool → Row
row_of BoxNew m = new_row Boxed
row_of CellNew m = new_row Cell
row_of UnsafeCellNew m = new_row UnsafeCell
row_of BoxIntoRaw m = safe (One operand.Any) about_what.Boxed (gives.Raw true)
row_of BoxLeak m = safe (One operand.Any) about_what.Boxed (gives.Ref true)
row_of BoxFromRaw m = guarded (One (operand.Pointer true)) (Pointer true) (gives.Holder Boxed)
row_of FromRawParts m = slice_row false
row_of FromRawPartsMut m = slice_row true
row_of CellGet m = safe Zero Receiver gives.About
row_of CellSet m = safe (One operand.About) Receiver gives.Unit
row_of CellAsPtr m = safe Zero Receiver (gives.Raw true)
row_of UnsafeCellGet m = safe Zero Receiver (gives.Raw true)
row_of SliceAsPtr m = safe Zero Receiver (gives.Raw false)
row_of SliceAsMutPtr m = safe Zero Receiver (gives.Raw true)
row_of Null m = safe Zero Pointee (gives.Raw false)
row_of NullMut m = safe Zero Pointee (gives.Raw true)
row_of Cast m = safe Zero Pointee (gives.Raw m)
row_of SizeOf m = safe Zero Argument (gives.Int Usize)
row_of AlignOf m = safe Zero Argument (gives.Int Usize)
row_of LayoutNew m = safe Zero Argument gives.Layout
row_of Add m = guarded (One (operand.Int Usize)) Receiver (gives.Raw m)
row_of Sub m = guarded (One (operand.Int Usize)) Receiver (gives.Raw m)
row_of Offset m = guarded (One (operand.Int Isize)) Receiver (gives.Raw m)
row_of Read m = guarded Zero Receiver gives.About
row_of Write m = guarded (One operand.About) Receiver gives.Unit
row_of IsNull m = safe Zero Receiver gives.Bool
row_of Addr m = safe Zero Receiver (gives.Int Usize)
row_of LayoutSize m = safe Zero Nothing (gives.Int Usize)
row_of LayoutAlign m = safe Zero Nothing (gives.Int Usize)
row_of Getchar m = guarded Zero Nothing (gives.Int I32)
row_of LayoutFromSizeAlignUnchecked m = guarded (Two (operand.Int Usize) (operand.Int Usize)) Nothing gives.Layout
row_of Alloc m = guarded (One operand.Layout) Nothing gives.Bytes
row_of Dealloc m = guarded (Two operand.Bytes operand.Layout) Byte gives.Unit

-- what is expected of the argument at a place, and how many there are
abbrev pub operand_at : Operands → ℕ → Option Operand
operand_at Zero at = None
operand_at (One first) at = if nat_eq at 0 then Some first else None
operand_at (Two first second) at = if nat_eq at 0 then Some first else (if nat_eq at 1 then Some second else None)

abbrev pub operand_count : Operands → ℕ
operand_count Zero = 0
operand_count (One first) = 1
operand_count (Two first second) = 2

-- a row has one type argument, or it may have one, or it has none
abbrev pub takes_types : About → ℕ → Bool
takes_types Argument written = nat_eq written 1
takes_types Pointee written = nat_lt written 2
takes_types about written = nat_eq written 0

-- what forbids a call with so many type arguments and arguments: their number, or else that it needs `unsafe`
abbrev pub call_fault : Row → Bool → ℕ → ℕ → Option Code
call_fault row is_unsafe written arguments = if nat_eq arguments (operand_count row.operands) && takes_types row.about written then (if row.needs_unsafe && not is_unsafe then Some NeedsUnsafe else None) else Some WrongNumber
