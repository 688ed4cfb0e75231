-- How much a type takes: its bytes, its alignment, and how many parts and levels it has.
use Rattle.std.specs.Prelude.{ℕ, ◌+◌, ◌-◌, ◌*◌, ◌/◌, max, Bool, ◌&&◌, nat_le, List, [], ◌∷◌}
use Rattle.tb_types.specs.declared.shape.Ty.{Ty}
use Rattle.tb_types.specs.declared.shape.IntKind.{IntKind}
use Rattle.tb_types.specs.declared.shape.IntKind.TheVariants.{I8, I16, I32, I64, Isize, U8, U16, U32, U64, Usize}
use Rattle.tb_types.specs.declared.extent.Extent.{Extent}
use Rattle.tb_types.specs.declared.extent.Row.{Row}
use Rattle.tb_types.specs.Table.{TypeTable}
use Rattle.tb_types.specs.Trees.{TypeTree, IntTree, BoolTree, CharTree, UnitTree, TupleTree, ArrayTree, StructTree, RefTree, RawTree, BoxedTree, CellTree, UnsafeCellTree, SliceTree}
use Rattle.tb_types.specs.Folded.{Node, folded}

-- the least multiple of the alignment that is not below the number
abbrev pub rounded : ℕ → ℕ → ℕ
rounded n align = (n + (align - 1)) / align * align

-- no part yet
abbrev pub nothing : Row
nothing = record { end = 0; align = 1; parts = 0; levels = 0 }

-- one more part, at the next multiple of its alignment
abbrev pub with_part : Row → Extent → Row
with_part row part = record {
  end = rounded row.end part.align + part.size;
  align = max row.align part.align;
  parts = row.parts + part.parts;
  levels = max row.levels part.levels;
}

abbrev pub laid : Row → List Extent → Row
laid row [] = row
laid row (part ∷ parts) = laid (with_part row part) parts

-- a type of these parts: its size is rounded up to its alignment, and it is a part and a level itself
abbrev pub closed : Row → Extent
closed row = record { size = rounded row.end row.align; align = row.align; parts = row.parts + 1; levels = row.levels + 1 }

abbrev pub together : List Extent → Extent
together parts = closed (laid nothing parts)

-- what has as many bytes as its alignment says, and one part and level
abbrev pub scalar : ℕ → Extent
scalar bytes = record { size = bytes; align = bytes; parts = 1; levels = 1 }

abbrev pub empty : Extent
empty = record { size = 0; align = 1; parts = 1; levels = 1 }

abbrev pub pointer : ℕ → Extent
pointer bytes = record { size = bytes; align = 8; parts = 1; levels = 1 }

-- an array
abbrev pub repeated : ℕ → Extent → Extent
repeated n part = record { size = n * part.size; align = part.align; parts = n * part.parts + 1; levels = part.levels + 1 }

-- a cell around its content
abbrev pub wrapped : Extent → Extent
wrapped part = record { size = part.size; align = part.align; parts = part.parts + 1; levels = part.levels + 1 }

abbrev pub int_bytes : IntKind → ℕ
int_bytes I8 = 1
int_bytes I16 = 2
int_bytes I32 = 4
int_bytes I64 = 8
int_bytes Isize = 8
int_bytes U8 = 1
int_bytes U16 = 2
int_bytes U32 = 4
int_bytes U64 = 8
int_bytes Usize = 8

-- a pointer is an address, and to a slice an address and a length
abbrev pub pointer_to : TypeTree → Extent
pointer_to (SliceTree part) = pointer 16
pointer_to tree = pointer 8

abbrev pub first_of : List Extent → Extent
first_of [] = empty
first_of (part ∷ parts) = part

-- by a type's tree, from what lies in it; `[T]` by itself counts as an array of length 0
abbrev pub extent_in : TypeTree → List Extent → Extent
extent_in (IntTree kind) below = scalar (int_bytes kind)
extent_in BoolTree below = scalar 1
extent_in CharTree below = scalar 4
extent_in UnitTree below = empty
extent_in (TupleTree parts) below = together below
extent_in (ArrayTree part n) below = repeated n (first_of below)
extent_in (StructTree item) below = together below
extent_in (RefTree mutable to) below = pointer_to to
extent_in (RawTree mutable to) below = pointer_to to
extent_in (BoxedTree part) below = pointer 8
extent_in (CellTree part) below = wrapped (first_of below)
extent_in (UnsafeCellTree part) below = wrapped (first_of below)
extent_in (SliceTree part) below = repeated 0 (first_of below)

abbrev pub extent_by : Node → List Extent → Extent
extent_by node below = extent_in node.tree below

abbrev pub extent_of : TypeTable → Ty → Extent
extent_of types ty = folded extent_by types ty

-- at most 1,048,576 bytes, 4,194,304 parts and 1,024 levels
abbrev pub is_within : Extent → Bool
is_within extent = nat_le extent.size 1048576 && (nat_le extent.parts 4194304 && nat_le extent.levels 1024)

abbrev pub fits : TypeTable → Ty → Bool
fits types ty = is_within (extent_of types ty)
