-- The text of programs.
use Rattle.std.specs.Prelude.{ℕ, ◌+◌, List, [], ◌∷◌, ◌++◌, length, codes}
use Rattle.std.specs.Fmt.{decimal}
use Rattle.tb_types.specs.Table.{TypeTable}
use Rattle.tb_program.specs.declared.line.MirLine.{MirLine}
use Rattle.tb_program.specs.declared.program.LocalKind.{LocalKind}
use Rattle.tb_program.specs.declared.program.LocalKind.TheVariants.{Variable, Temp, PlaceTemp}
use Rattle.tb_program.specs.declared.program.Local.{Local}
use Rattle.tb_program.specs.declared.program.Block.{Block}
use Rattle.tb_program.specs.declared.program.Func.{Func}
use Rattle.tb_program.specs.declared.program.Mir.{Mir}
use Rattle.tb_program.specs.Types.{type_text}
use Rattle.tb_program.specs.Lines.{line_text}

abbrev pub local_word : LocalKind → List ℕ
local_word Variable = codes " var "
local_word Temp = codes " temp "
local_word PlaceTemp = codes " temp "

-- a local, by its number
abbrev pub local_line : TypeTable → ℕ → Local → List ℕ
local_line types number local = codes "  _" ++ (decimal number ++ (local_word local.kind ++ (type_text types local.ty ++ codes "\n")))

-- locals that are counted from here
abbrev pub locals_lines : TypeTable → ℕ → List Local → List ℕ
locals_lines types number [] = []
locals_lines types number (local ∷ locals) = local_line types number local ++ locals_lines types (number + 1) locals

abbrev pub lines_text : TypeTable → List Func → List MirLine → List ℕ
lines_text types functions [] = []
lines_text types functions (line ∷ lines) = codes "  " ++ (line_text types functions line.line ++ (codes "\n" ++ lines_text types functions lines))

abbrev pub block_text : TypeTable → List Func → ℕ → Block → List ℕ
block_text types functions number block = codes "b" ++ (decimal number ++ (codes ":\n" ++ lines_text types functions block.lines))

-- blocks that are counted from here
abbrev pub blocks_text : TypeTable → List Func → ℕ → List Block → List ℕ
blocks_text types functions number [] = []
blocks_text types functions number (block ∷ blocks) = block_text types functions number block ++ blocks_text types functions (number + 1) blocks

-- the name of a function, and how many parameters it has
abbrev pub head_text : Func → List ℕ
head_text function = codes "fn " ++ (function.name ++ (codes " " ++ (decimal (length function.params) ++ codes "\n")))

abbrev pub function_text : TypeTable → List Func → Func → List ℕ
function_text types functions function = head_text function ++ (locals_lines types 0 function.locals ++ blocks_text types functions 0 function.blocks)

abbrev pub functions_text : TypeTable → List Func → List Func → List ℕ
functions_text types functions [] = []
functions_text types functions (function ∷ rest) = function_text types functions function ++ functions_text types functions rest

abbrev pub program_text : Mir → List ℕ
program_text program = functions_text program.types program.funcs program.funcs
