-- Where a line stands.
use Rattle.std.specs.Prelude.{ℕ, List, [], Option, None, Some, slice_get}
use Rattle.tb_mir.specs.declared.line.MirLine.{MirLine}
use Rattle.tb_mir.specs.declared.mir.Mir.{Mir}
use Rattle.tb_mir.specs.declared.mir.Func.{Func}
use Rattle.tb_mir.specs.declared.mir.Block.{Block}
use Rattle.tb_mir.specs.declared.mir.Local.{Local}

-- the lines of a block that may be there
abbrev pub lines_in : Option Block → List MirLine
lines_in None = []
lines_in (Some block) = block.lines

-- the lines of a block of a function that may be there
abbrev pub lines_in_func : Option Func → ℕ → List MirLine
lines_in_func None block = []
lines_in_func (Some func) block = lines_in (slice_get func.blocks block)

abbrev pub lines_of : Mir → ℕ → ℕ → List MirLine
lines_of mir func block = lines_in_func (slice_get mir.funcs func) block

-- the line at a place of a block of a function
abbrev pub line_at : Mir → ℕ → ℕ → ℕ → Option MirLine
line_at mir func block at = slice_get (lines_of mir func block) at

-- the locals of a function that may be there
abbrev pub locals_in : Option Func → List Local
locals_in None = []
locals_in (Some func) = func.locals

abbrev pub locals_of : Mir → ℕ → List Local
locals_of mir func = locals_in (slice_get mir.funcs func)
