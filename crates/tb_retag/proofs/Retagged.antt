-- A program with its retags placed is without them what it was.
use Rattle.std.proofs.Common.{◌≡◌, ℕ, Bool, true, false, if◌then◌else◌, List, [], ◌∷◌, ◌++◌, map, slice_get, refl, sym, ap, ◌∙◌, append_assoc, arith}
use Rattle.tb_perm.specs.declared.span.Span.{Span}
use Rattle.tb_mir.specs.Retags.{is_retag, bare_lines, bare_block, bare_func, without_retags, is_retagged, retag_of_value, retags_after, retagged_lines, retagged_block, retagged_func, with_retags, RetagPlaced}
use Rattle.tb_mir.specs.declared.line.Line.{Line}
use Rattle.tb_mir.specs.declared.line.Line.TheVariants.{Live, Dead, Load, Store, Set, Print, Clear, Retag, Return}
use Rattle.tb_mir.specs.declared.line.MirLine.{MirLine}
use Rattle.tb_mir.specs.declared.mir.Mir.{Mir}
use Rattle.tb_mir.specs.declared.mir.Func.{Func}
use Rattle.tb_mir.specs.declared.mir.Block.{Block}
use Rattle.tb_mir.specs.declared.mir.Local.{Local}
use Rattle.tb_mir.specs.declared.operand.Rvalue.{Rvalue}
use Rattle.tb_mir.specs.declared.operand.Rvalue.TheVariants.{Ref, Use, Binary}

-- line by line
split_at : (locals : List Local) (line : MirLine) (lines : List MirLine) (retag : Bool)
    → retagged_lines locals (if retag then bare_lines lines else line ∷ bare_lines lines)
    ≡ retagged_lines locals (if retag then [] else line ∷ []) ++ retagged_lines locals (bare_lines lines)
split_at locals line lines true = refl
split_at locals line lines false = grind (arith, append_assoc)

pub splits : (locals : List Local) (line : MirLine) (lines : List MirLine) → retagged_lines locals (bare_lines (line ∷ lines)) ≡ retagged_lines locals (bare_lines (line ∷ [])) ++ retagged_lines locals (bare_lines lines)
splits locals line lines = split_at locals line lines (is_retag line.line)

-- retags are taken out again
bare_retag : (retagged : Bool) (temp : ℕ) (span : Span) (lines : List MirLine)
    → bare_lines ((if retagged then record { line = Retag temp; span = span } ∷ [] else []) ++ lines) ≡ bare_lines lines
bare_retag true temp span lines = refl
bare_retag false temp span lines = refl

bare_value : (locals : List Local) (temp : ℕ) (rvalue : Rvalue) (span : Span) (lines : List MirLine) → bare_lines (retag_of_value locals temp rvalue span ++ lines) ≡ bare_lines lines
bare_value locals temp (Ref kind place) span lines = bare_retag (is_retagged (slice_get locals temp)) temp span lines
bare_value locals temp (Use operand) span lines = refl
bare_value locals temp (Binary op left right) span lines = refl

bare_after : (locals : List Local) (line : Line) (span : Span) (lines : List MirLine) → bare_lines (retags_after locals line span ++ lines) ≡ bare_lines lines
bare_after locals (Live variable) span lines = refl
bare_after locals (Dead variable) span lines = refl
bare_after locals (Load temp place) span lines = bare_retag (is_retagged (slice_get locals temp)) temp span lines
bare_after locals (Store place operand) span lines = refl
bare_after locals (Set temp rvalue) span lines = bare_value locals temp rvalue span lines
bare_after locals (Print newline text operands) span lines = refl
bare_after locals (Clear temps) span lines = refl
bare_after locals (Retag temp) span lines = refl
bare_after locals Return span lines = refl

-- of a list that begins with a line that is a retag or not
bare_placed_line : (locals : List Local) (line : MirLine) (lines : List MirLine) (retag : Bool) → is_retag line.line ≡ retag
    → bare_lines (retagged_lines locals (bare_lines lines)) ≡ bare_lines lines
    → bare_lines (retagged_lines locals (if retag then bare_lines lines else line ∷ bare_lines lines)) ≡ (if retag then bare_lines lines else line ∷ bare_lines lines)
bare_placed_line locals line lines true is rest = rest
bare_placed_line locals line lines false is rest =
    rw is (ap (λ more. line ∷ more) (bare_after locals line.line line.span (retagged_lines locals (bare_lines lines)) ∙ rest))

bare_placed_lines : (locals : List Local) (lines : List MirLine) → bare_lines (retagged_lines locals (bare_lines lines)) ≡ bare_lines lines
bare_placed_lines locals [] = refl
bare_placed_lines locals (line ∷ lines) = bare_placed_line locals line lines (is_retag line.line) refl (bare_placed_lines locals lines)

bare_placed_blocks : (locals : List Local) (blocks : List Block) → map bare_block (map (retagged_block locals) (map bare_block blocks)) ≡ map bare_block blocks
bare_placed_blocks locals [] = refl
bare_placed_blocks locals (block ∷ blocks) =
    rw (bare_placed_lines locals block.lines, bare_placed_blocks locals blocks) refl

bare_placed_funcs : (funcs : List Func) → map bare_func (map retagged_func (map bare_func funcs)) ≡ map bare_func funcs
bare_placed_funcs [] = refl
bare_placed_funcs (func ∷ funcs) = rw (bare_placed_blocks func.locals func.blocks, bare_placed_funcs funcs) refl

pub bare_placed : (mir : Mir) → without_retags (with_retags (without_retags mir)) ≡ without_retags mir
bare_placed mir = ap (λ funcs. record { funcs = funcs }) (bare_placed_funcs mir.funcs)

pub placed_once : (mir : Mir) → RetagPlaced (with_retags (without_retags mir))
placed_once mir = ap with_retags (sym (bare_placed mir))
