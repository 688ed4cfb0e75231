-- The calls and types that are built in, by their paths.
use Rattle.std.specs.Prelude.{ℕ, if◌then◌else◌, List, [], ◌∷◌, Option, Some, None, codes}
use Rattle.std.specs.Str.{bytes_eq}
use Rattle.tb_types.specs.declared.builtin.Builtin.TheVariants as builtin
use Rattle.tb_types.specs.declared.shape.IntKind.TheVariants.{I8, I16, I32, I64, Isize, U8, U16, U32, U64, Usize}
use Rattle.tb_lookup.specs.declared.callee.Callee.{Callee}
use Rattle.tb_lookup.specs.declared.callee.Callee.TheVariants.{Builtin, DropValue}
use Rattle.tb_lookup.specs.declared.ty.TypeName.{TypeName}
use Rattle.tb_lookup.specs.declared.ty.TypeName.TheVariants.{Int, Bool, Char, Boxed, Cell, UnsafeCell, Struct}
use Rattle.tb_lookup.specs.declared.built_in.CallRow.{CallRow}
use Rattle.tb_lookup.specs.declared.built_in.TypeRow.{TypeRow}

abbrev pub Rows : Type 0 → Type 0
Rows A = List (List ℕ × A)

-- what the first row with this text has
abbrev pub row_in : {A : Type 0} → Rows A → List ℕ → Option A
row_in [] text = None
row_in (row ∷ rows) text = if bytes_eq text row.0 then Some row.1 else row_in rows text

-- the calls whose paths may also begin with `std::` or `core::`
abbrev pub calls : Rows Callee
calls =
    (codes "Box::new", Builtin builtin.BoxNew)
    ∷ (codes "Box::into_raw", Builtin builtin.BoxIntoRaw)
    ∷ (codes "Box::leak", Builtin builtin.BoxLeak)
    ∷ (codes "Box::from_raw", Builtin builtin.BoxFromRaw)
    ∷ (codes "drop", DropValue)
    ∷ (codes "mem::drop", DropValue)
    ∷ (codes "Cell::new", Builtin builtin.CellNew)
    ∷ (codes "UnsafeCell::new", Builtin builtin.UnsafeCellNew)
    ∷ (codes "ptr::null", Builtin builtin.Null)
    ∷ (codes "ptr::null_mut", Builtin builtin.NullMut)
    ∷ (codes "slice::from_raw_parts", Builtin builtin.FromRawParts)
    ∷ (codes "slice::from_raw_parts_mut", Builtin builtin.FromRawPartsMut)
    ∷ (codes "size_of", Builtin builtin.SizeOf)
    ∷ (codes "mem::size_of", Builtin builtin.SizeOf)
    ∷ (codes "align_of", Builtin builtin.AlignOf)
    ∷ (codes "mem::align_of", Builtin builtin.AlignOf)
    ∷ (codes "getchar", Builtin builtin.Getchar)
    ∷ (codes "Layout::new", Builtin builtin.LayoutNew)
    ∷ (codes "Layout::from_size_align_unchecked", Builtin builtin.LayoutFromSizeAlignUnchecked)
    ∷ (codes "alloc", Builtin builtin.Alloc)
    ∷ (codes "dealloc", Builtin builtin.Dealloc)
    ∷ []

-- those that stand behind `alloc::` and `std::alloc::`, too
abbrev pub alloc_calls : Rows Callee
alloc_calls =
    (codes "Layout::new", Builtin builtin.LayoutNew)
    ∷ (codes "Layout::from_size_align_unchecked", Builtin builtin.LayoutFromSizeAlignUnchecked)
    ∷ (codes "alloc", Builtin builtin.Alloc)
    ∷ (codes "dealloc", Builtin builtin.Dealloc)
    ∷ []

-- the types; `Layout` is the struct of number 0
abbrev pub types : Rows TypeName
types =
    (codes "i8", Int I8)
    ∷ (codes "i16", Int I16)
    ∷ (codes "i32", Int I32)
    ∷ (codes "i64", Int I64)
    ∷ (codes "isize", Int Isize)
    ∷ (codes "u8", Int U8)
    ∷ (codes "u16", Int U16)
    ∷ (codes "u32", Int U32)
    ∷ (codes "u64", Int U64)
    ∷ (codes "usize", Int Usize)
    ∷ (codes "bool", Bool)
    ∷ (codes "char", Char)
    ∷ (codes "Box", Boxed)
    ∷ (codes "Cell", Cell)
    ∷ (codes "UnsafeCell", UnsafeCell)
    ∷ (codes "Layout", Struct 0)
    ∷ []

-- the rows that the code has
abbrev pub told_calls : List CallRow → Rows Callee
told_calls [] = []
told_calls (row ∷ rows) = (row.path.now, row.call) ∷ told_calls rows

abbrev pub told_types : List TypeRow → Rows TypeName
told_types [] = []
told_types (row ∷ rows) = (row.word.now, row.ty) ∷ told_types rows
