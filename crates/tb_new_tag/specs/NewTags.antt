-- The tag that a retag makes: what it may do at each byte (Tree Borrows, section 4).
use Rattle.std.specs.Prelude.{ℕ, zero, suc, ◌+◌, ◌*◌, Bool, true, false, cond, ◌||◌, List, [], ◌++◌, map, Option, Some, None}
use Rattle.tb_perm.specs.declared.span.Span.{Span}
use Rattle.tb_perm.specs.declared.tag.Tag.{Tag}
use Rattle.tb_perm.specs.declared.perm.Perm.{Perm}
use Rattle.tb_perm.specs.declared.perm.Perm.TheVariants.{Cell, Reserved, ReservedIm, Frozen}
use Rattle.tb_perm.specs.declared.perm.Guard.{Guard}
use Rattle.tb_perm.specs.declared.perm.Guard.TheVariants.{Free, Weak, Strong}
use Rattle.tb_perm.specs.declared.new_tag.CellRange.{CellRange}
use Rattle.tb_perm.specs.declared.new_tag.NewTag.{NewTag}
use Rattle.tb_types.specs.Table.{TypeTable}
use Rattle.tb_types.specs.Facts.{is_freeze}
use Rattle.tb_types.specs.Extent.{extent_of}
use Rattle.tb_layout.specs.Cells.{ranges_of, marks_of}
use Rattle.tb_new_tag.specs.declared.retag.Retag.{Retag}

-- how many values a pointer points to: of a slice as many as its length says, else one
abbrev pub count_of : Option ℕ → ℕ
count_of None = 1
count_of (Some length) = length

-- how many bytes it points to
abbrev pub bytes_of : TypeTable → Retag → ℕ
bytes_of types how = count_of how.length * (extent_of types how.pointee).size

-- a unique reference is reserved; with interior mutability, and outside the head of a call, also against writes of others
abbrev pub unique_perm : Bool → Guard → Perm
unique_perm true guard = Reserved
unique_perm false Free = ReservedIm
unique_perm false Weak = Reserved
unique_perm false Strong = Reserved

-- what a new reference may do at the bytes that it points to, but for cells: by whether it is unique, and whether no cell
-- lies in what it points to
abbrev pub perm_of : Bool → Bool → Guard → Perm
perm_of true freeze guard = unique_perm freeze guard
perm_of false freeze guard = Frozen

-- what it may do at all other bytes: where a shared one points to cells, anything
abbrev pub outside_of : Bool → Bool → Guard → Perm
outside_of true freeze guard = unique_perm freeze guard
outside_of false true guard = Frozen
outside_of false false guard = Cell

-- ranges so many bytes further on
abbrev pub shifted : ℕ → List CellRange → List CellRange
shifted by cells = map (λ (cell : CellRange). record { lo = by + cell.lo; hi = by + cell.hi }) cells

-- the cells of so many values of a size, one behind the other from a byte on, where each has these
abbrev pub repeated : ℕ → ℕ → ℕ → List CellRange → List CellRange
repeated zero size at cells = []
repeated (suc count) size at cells = shifted at cells ++ repeated count size (at + size) cells

-- the bytes that are Cell: behind a shared reference those of the cells in each value
abbrev pub cells_of : TypeTable → Retag → ℕ → List CellRange
cells_of types how offset =
    cond (how.unique || is_freeze types how.pointee) [] (repeated (count_of how.length) (extent_of types how.pointee).size offset (ranges_of (marks_of types how.pointee)))

-- the tag that a retag makes below another, for the bytes from an offset on
abbrev pub tag_of : TypeTable → Retag → Tag → Tag → ℕ → Span → NewTag
tag_of types how parent tag offset made =
    record {
      parent = parent;
      tag = tag;
      lo = offset;
      hi = offset + bytes_of types how;
      perm = perm_of how.unique (is_freeze types how.pointee) how.guard;
      outside = outside_of how.unique (is_freeze types how.pointee) how.guard;
      cells = cells_of types how offset;
      guard = how.guard;
      made = made;
    }
