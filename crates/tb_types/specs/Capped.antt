-- Extents with counts that stand still at a top, which is above all limits.
use Rattle.std.specs.Prelude.{ℕ, ◌^◌, ◌≤◌, min}
use Rattle.tb_types.specs.declared.extent.Extent.{Extent}
use Rattle.tb_types.specs.declared.extent.Row.{Row}

abbrev pub top : ℕ
top = 2 ^ 32

abbrev pub capped : Extent → Extent
capped extent = record { size = min extent.size top; align = extent.align; parts = min extent.parts top; levels = min extent.levels top }

abbrev pub capped_row : Row → Row
capped_row row = record { end = min row.end top; align = row.align; parts = min row.parts top; levels = min row.levels top }

-- the alignment is one of a type's
abbrev pub IsAlign : ℕ → Type 0
IsAlign align = (1 ≤ align) × (align ≤ 8)

pub record IsSmall (extent : Extent) : Type 0 where
  pub size : extent.size ≤ top
  pub align : IsAlign extent.align
  pub parts : extent.parts ≤ top
  pub levels : extent.levels ≤ top

pub record IsSmallRow (row : Row) : Type 0 where
  pub end : row.end ≤ top
  pub align : IsAlign row.align
  pub parts : row.parts ≤ top
  pub levels : row.levels ≤ top
