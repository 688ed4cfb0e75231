-- The bytes of a type that lie in a `Cell` or `UnsafeCell`.
use Rattle.std.specs.Prelude.{ℕ, zero, suc, ◌<◌, ◌+◌, ◌-◌, Bool, true, false, List, [], ◌∷◌, ◌++◌, map, replicate, Option, Some, None, nat_eq, if◌then◌else◌}
use Rattle.tb_perm.specs.declared.new_tag.CellRange.{CellRange}
use Rattle.tb_types.specs.declared.shape.Ty.{Ty}
use Rattle.tb_types.specs.Table.{TypeTable}
use Rattle.tb_types.specs.Trees.{TypeTree, TupleTree, ArrayTree, StructTree, CellTree, UnsafeCellTree}
use Rattle.tb_types.specs.Folded.{Node, folded}
use Rattle.tb_types.specs.declared.extent.Row.{Row}
use Rattle.tb_types.specs.Extent.{rounded, nothing, laid, extent_in, extent_of}

-- a list so many times
abbrev pub copies : ℕ → List Bool → List Bool
copies zero marks = []
copies (suc n) marks = marks ++ copies n marks

-- the marks of parts that are laid one behind another from an end on, and of the padding before each
abbrev pub marks_from : TypeTable → ℕ → List Ty → List (List Bool) → List Bool
marks_from types end (part ∷ parts) (marks ∷ rest) =
    replicate (rounded end (extent_of types part).align - end) false ++ (marks ++ marks_from types (rounded end (extent_of types part).align + (extent_of types part).size) parts rest)
marks_from types end parts rest = []

-- and of the padding behind the last
abbrev pub tail_of : Row → List Bool
tail_of row = replicate (rounded row.end row.align - row.end) false

abbrev pub marks_together : TypeTable → List Ty → List (List Bool) → List Bool
marks_together types parts below = marks_from types 0 parts below ++ tail_of (laid nothing (map (extent_of types) parts))

abbrev pub first_marks : List (List Bool) → List Bool
first_marks [] = []
first_marks (marks ∷ rest) = marks

abbrev pub all_cells : TypeTable → List Ty → List Bool
all_cells types [] = []
all_cells types (part ∷ parts) = replicate (extent_of types part).size true

-- for each byte whether it lies in a cell; a cell's padding does
abbrev pub marks_in : TypeTable → TypeTree → List Ty → List (List Bool) → List Bool
marks_in types (TupleTree those) parts below = marks_together types parts below
marks_in types (StructTree item) parts below = marks_together types parts below
marks_in types (ArrayTree part n) parts below = copies n (first_marks below)
marks_in types (CellTree part) parts below = all_cells types parts
marks_in types (UnsafeCellTree part) parts below = all_cells types parts
marks_in types tree parts below = replicate (extent_in tree []).size false

abbrev pub marks_by : TypeTable → Node → List (List Bool) → List Bool
marks_by types node below = marks_in types node.tree node.parts below

abbrev pub marks_of : TypeTable → Ty → List Bool
marks_of types ty = folded (marks_by types) types ty

-- the longest ranges of marked bytes, in rising order, from a byte on, where one may be open
abbrev pub ranges_from : ℕ → Option ℕ → List Bool → List CellRange
ranges_from at None [] = []
ranges_from at (Some lo) [] = record { lo = lo; hi = at } ∷ []
ranges_from at None (true ∷ marks) = ranges_from (at + 1) (Some at) marks
ranges_from at None (false ∷ marks) = ranges_from (at + 1) None marks
ranges_from at (Some lo) (true ∷ marks) = ranges_from (at + 1) (Some lo) marks
ranges_from at (Some lo) (false ∷ marks) = record { lo = lo; hi = at } ∷ ranges_from (at + 1) None marks

abbrev pub ranges_of : List Bool → List CellRange
ranges_of marks = ranges_from 0 None marks

-- the last range ends there
abbrev pub ends_at : List CellRange → ℕ → Bool
ends_at [] at = false
ends_at (range ∷ []) at = nat_eq range.hi at
ends_at (range ∷ next ∷ ranges) at = ends_at (next ∷ ranges) at

-- the last range goes on to there
abbrev pub lengthened : List CellRange → ℕ → List CellRange
lengthened [] hi = []
lengthened (range ∷ []) hi = record range { hi = hi } ∷ []
lengthened (range ∷ next ∷ ranges) hi = range ∷ lengthened (next ∷ ranges) hi

-- the ranges with one more behind them, which is joined to the last where it begins at its end
abbrev pub with_range : List CellRange → ℕ → ℕ → List CellRange
with_range ranges lo hi = if ends_at ranges lo then lengthened ranges hi else ranges ++ record { lo = lo; hi = hi } ∷ []

-- the ranges with the marked bytes behind them, from a byte on
abbrev pub with_marks : List CellRange → ℕ → List Bool → List CellRange
with_marks ranges at [] = ranges
with_marks ranges at (true ∷ marks) = with_marks (with_range ranges at (at + 1)) (at + 1) marks
with_marks ranges at (false ∷ marks) = with_marks ranges (at + 1) marks

-- whether a byte is marked
abbrev pub is_marked : List Bool → ℕ → Bool
is_marked [] byte = false
is_marked (mark ∷ marks) zero = mark
is_marked (mark ∷ marks) (suc byte) = is_marked marks byte

-- the byte lies in a `Cell` or `UnsafeCell` of the type, or in the padding in one
abbrev pub is_cell_byte : TypeTable → Ty → ℕ → Bool
is_cell_byte types ty byte = is_marked (marks_of types ty) byte

-- each range has bytes, and a byte that is in none stands before the next
abbrev pub AreLongest : List CellRange → Type 0
AreLongest [] = Unit {0}
AreLongest (range ∷ []) = range.lo < range.hi
AreLongest (range ∷ next ∷ ranges) = (range.lo < range.hi) × (range.hi < next.lo) × AreLongest (next ∷ ranges)
