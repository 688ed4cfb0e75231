-- Where retags stand: a reference gets a tag of its own where it is made and where it is loaded (Tree Borrows). A program
-- is seen without its retags, and they are put back by one rule.
use Rattle.std.specs.Prelude.{◌≡◌, ℕ, Bool, true, false, ◌&&◌, not, if◌then◌else◌, List, [], ◌∷◌, ◌++◌, map, Option, None, Some, slice_get}
use Rattle.tb_perm.specs.declared.span.Span.{Span}
use Rattle.tb_mir.specs.declared.line.Line.{Line}
use Rattle.tb_mir.specs.declared.line.Line.TheVariants.{Live, Dead, Load, Store, Set, Print, Clear, Retag, Return}
use Rattle.tb_mir.specs.declared.line.MirLine.{MirLine}
use Rattle.tb_mir.specs.declared.mir.Mir.{Mir}
use Rattle.tb_mir.specs.declared.mir.Func.{Func}
use Rattle.tb_mir.specs.declared.mir.Block.{Block}
use Rattle.tb_mir.specs.declared.mir.Local.{Local}
use Rattle.tb_mir.specs.declared.mir.LocalKind.{LocalKind}
use Rattle.tb_mir.specs.declared.mir.LocalKind.TheVariants as local
use Rattle.tb_mir.specs.declared.mir.Ty.{Ty}
use Rattle.tb_mir.specs.declared.mir.Ty.TheVariants as ty
use Rattle.tb_mir.specs.declared.operand.RefKind.TheVariants.{Shared, Mut, RawConst, RawMut}
use Rattle.tb_mir.specs.declared.operand.Rvalue.{Rvalue}
use Rattle.tb_mir.specs.declared.operand.Rvalue.TheVariants.{Ref, Use, Binary}

abbrev pub is_retag : Line → Bool
is_retag (Live variable) = false
is_retag (Dead variable) = false
is_retag (Load temp place) = false
is_retag (Store place operand) = false
is_retag (Set temp rvalue) = false
is_retag (Print newline text operands) = false
is_retag (Clear temps) = false
is_retag (Retag temp) = true
is_retag Return = false

-- the other lines
abbrev pub bare_lines : List MirLine → List MirLine
bare_lines [] = []
bare_lines (line ∷ lines) = if is_retag line.line then bare_lines lines else line ∷ bare_lines lines

abbrev pub bare_block : Block → Block
bare_block block = record { lines = bare_lines block.lines }

abbrev pub bare_func : Func → Func
bare_func func =
    record { name = func.name; params = func.params; locals = func.locals; blocks = map bare_block func.blocks }

-- a program with its retags taken out
abbrev pub without_retags : Mir → Mir
without_retags mir = record { funcs = map bare_func mir.funcs }

-- a reference
abbrev pub holds_retag : Ty → Bool
holds_retag ty.Unit = false
holds_retag ty.Int32 = false
holds_retag (ty.Pointer Shared) = true
holds_retag (ty.Pointer Mut) = true
holds_retag (ty.Pointer RawConst) = false
holds_retag (ty.Pointer RawMut) = false

abbrev pub is_place_temp : LocalKind → Bool
is_place_temp local.Variable = false
is_place_temp local.Temp = false
is_place_temp local.PlaceTemp = true

-- a local that is there, holds a reference, and is not for the pointer of a place
abbrev pub is_retagged : Option Local → Bool
is_retagged None = false
is_retagged (Some local) = holds_retag local.ty && not (is_place_temp local.kind)

-- the retag of a temporary of a function with these locals
abbrev pub retag_of : List Local → ℕ → Span → List MirLine
retag_of locals temp span =
    if is_retagged (slice_get locals temp) then record { line = Retag temp; span = span } ∷ [] else []

-- where a temporary is given a new pointer
abbrev pub retag_of_value : List Local → ℕ → Rvalue → Span → List MirLine
retag_of_value locals temp (Ref kind place) span = retag_of locals temp span
retag_of_value locals temp (Use operand) span = []
retag_of_value locals temp (Binary op left right) span = []

-- the retags directly behind a line, with its span: of what it loads and of what it borrows
abbrev pub retags_after : List Local → Line → Span → List MirLine
retags_after locals (Live variable) span = []
retags_after locals (Dead variable) span = []
retags_after locals (Load temp place) span = retag_of locals temp span
retags_after locals (Store place operand) span = []
retags_after locals (Set temp rvalue) span = retag_of_value locals temp rvalue span
retags_after locals (Print newline text operands) span = []
retags_after locals (Clear temps) span = []
retags_after locals (Retag temp) span = []
retags_after locals Return span = []

abbrev pub retagged_lines : List Local → List MirLine → List MirLine
retagged_lines locals [] = []
retagged_lines locals (line ∷ lines) =
    line ∷ (retags_after locals line.line line.span ++ retagged_lines locals lines)

abbrev pub retagged_block : List Local → Block → Block
retagged_block locals block = record { lines = retagged_lines locals block.lines }

abbrev pub retagged_func : Func → Func
retagged_func func =
    record { name = func.name; params = func.params; locals = func.locals; blocks = map (retagged_block func.locals) func.blocks }

-- a program with a retag at each of these places
abbrev pub with_retags : Mir → Mir
with_retags mir = record { funcs = map retagged_func mir.funcs }

-- the retags of a program stand at these places, and nowhere else
abbrev pub RetagPlaced : Mir → Type 0
RetagPlaced mir = mir ≡ with_retags (without_retags mir)
