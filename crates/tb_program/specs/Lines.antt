-- The text of lines.
use Rattle.std.specs.Prelude.{ℕ, Bool, true, false, if◌then◌else◌, List, [], ◌∷◌, ◌++◌, slice_get, Option, None, Some, codes}
use Rattle.tb_types.specs.declared.shape.Ty.{Ty}
use Rattle.tb_types.specs.declared.builtin.Builtin.{Builtin}
use Rattle.tb_types.specs.declared.builtin.Builtin.TheVariants as builtin
use Rattle.tb_types.specs.Table.{TypeTable}
use Rattle.tb_program.specs.declared.operand.Operand.{Operand}
use Rattle.tb_program.specs.declared.operand.Place.{Place}
use Rattle.tb_program.specs.declared.line.Line.{Line}
use Rattle.tb_program.specs.declared.line.Line.TheVariants as line
use Rattle.tb_program.specs.declared.program.Func.{Func}
use Rattle.tb_program.specs.Pieces.{numbered}
use Rattle.tb_program.specs.Types.{type_text}
use Rattle.tb_program.specs.Operands.{operand_text, operands_text, place_text}
use Rattle.tb_program.specs.Rvalues.{one_text, two_text, rvalue_text}

-- the name of a built-in call: with the type before it that it belongs to, or the last word of it
abbrev pub builtin_word : Builtin → List ℕ
builtin_word builtin.BoxNew = codes "Box::new"
builtin_word builtin.BoxIntoRaw = codes "Box::into_raw"
builtin_word builtin.BoxLeak = codes "Box::leak"
builtin_word builtin.BoxFromRaw = codes "Box::from_raw"
builtin_word builtin.CellNew = codes "Cell::new"
builtin_word builtin.UnsafeCellNew = codes "UnsafeCell::new"
builtin_word builtin.CellGet = codes "get"
builtin_word builtin.CellSet = codes "set"
builtin_word builtin.CellAsPtr = codes "as_ptr"
builtin_word builtin.UnsafeCellGet = codes "get"
builtin_word builtin.Null = codes "null"
builtin_word builtin.NullMut = codes "null_mut"
builtin_word builtin.FromRawParts = codes "from_raw_parts"
builtin_word builtin.FromRawPartsMut = codes "from_raw_parts_mut"
builtin_word builtin.SizeOf = codes "size_of"
builtin_word builtin.AlignOf = codes "align_of"
builtin_word builtin.Add = codes "add"
builtin_word builtin.Sub = codes "sub"
builtin_word builtin.Offset = codes "offset"
builtin_word builtin.Read = codes "read"
builtin_word builtin.Write = codes "write"
builtin_word builtin.Cast = codes "cast"
builtin_word builtin.IsNull = codes "is_null"
builtin_word builtin.Addr = codes "addr"
builtin_word builtin.SliceAsPtr = codes "as_ptr"
builtin_word builtin.SliceAsMutPtr = codes "as_mut_ptr"
builtin_word builtin.Getchar = codes "getchar"
builtin_word builtin.LayoutNew = codes "Layout::new"
builtin_word builtin.LayoutFromSizeAlignUnchecked = codes "Layout::from_size_align_unchecked"
builtin_word builtin.LayoutSize = codes "size"
builtin_word builtin.LayoutAlign = codes "align"
builtin_word builtin.Alloc = codes "alloc"
builtin_word builtin.Dealloc = codes "dealloc"

-- the calls with a type argument
abbrev pub has_type : Builtin → Bool
has_type builtin.Null = true
has_type builtin.NullMut = true
has_type builtin.SizeOf = true
has_type builtin.AlignOf = true
has_type builtin.Cast = true
has_type builtin.LayoutNew = true
has_type call = false

abbrev pub about_text : TypeTable → Builtin → Ty → List ℕ
about_text types call about = if has_type call then codes "::<" ++ (type_text types about ++ codes ">") else []

-- the temporary that a line gives a value
abbrev pub given_text : ℕ → List ℕ
given_text local = numbered (codes "_") local ++ codes " = "

abbrev pub given_if : Option ℕ → List ℕ
given_if None = []
given_if (Some local) = given_text local

abbrev pub builtin_text : TypeTable → Option ℕ → Builtin → Ty → List Operand → List ℕ
builtin_text types local call about operands = given_if local ++ (builtin_word call ++ (about_text types call about ++ operands_text operands))

abbrev pub print_word : Bool → List ℕ
print_word true = codes "println \""
print_word false = codes "print \""

abbrev pub print_text : Bool → List ℕ → List Operand → List ℕ
print_text newline text operands = print_word newline ++ (text ++ (codes "\"" ++ operands_text operands))

abbrev pub locals_text : List ℕ → List ℕ
locals_text [] = []
locals_text (local ∷ locals) = numbered (codes " _") local ++ locals_text locals

abbrev pub name_if : Option Func → List ℕ
name_if None = []
name_if (Some function) = function.name

abbrev pub function_name : List Func → ℕ → List ℕ
function_name functions number = name_if (slice_get functions number)

abbrev pub call_text : List Func → ℕ → ℕ → List Operand → ℕ → List ℕ
call_text functions local function operands next = given_text local ++ (codes "call " ++ (function_name functions function ++ (operands_text operands ++ numbered (codes " -> b") next)))

abbrev pub load_text : ℕ → Place → List ℕ
load_text local place = given_text local ++ (codes "load " ++ place_text place)

abbrev pub store_text : Place → Operand → List ℕ
store_text place operand = codes "store " ++ (place_text place ++ (codes " " ++ operand_text operand))

abbrev pub switch_text : Operand → ℕ → ℕ → List ℕ
switch_text operand on_true on_false = one_text (codes "switch") operand ++ (numbered (codes " b") on_true ++ numbered (codes " b") on_false)

-- a line that only names locals and blocks
abbrev pub simple_text : Line → List ℕ
simple_text (line.Live local) = numbered (codes "live _") local
simple_text (line.Dead local) = numbered (codes "dead _") local
simple_text (line.Free local) = numbered (codes "free _") local
simple_text (line.Retag local) = numbered (codes "retag _") local
simple_text (line.RetagEntry local) = numbered (codes "retag-entry _") local
simple_text (line.Goto block) = numbered (codes "goto b") block
simple_text line.Return = codes "return"
simple_text line.Panic = codes "panic"
simple_text other = []

abbrev pub line_text : TypeTable → List Func → Line → List ℕ
line_text types functions (line.Load local place) = load_text local place
line_text types functions (line.Store place operand) = store_text place operand
line_text types functions (line.Set local rvalue) = given_text local ++ rvalue_text types rvalue
line_text types functions (line.Bound index n) = two_text (codes "bound") index n
line_text types functions (line.Assert operand) = one_text (codes "assert") operand
line_text types functions (line.Builtin local call about operands) = builtin_text types local call about operands
line_text types functions (line.Print newline text operands) = print_text newline text operands
line_text types functions (line.Clear locals) = codes "clear" ++ locals_text locals
line_text types functions (line.Switch operand on_true on_false) = switch_text operand on_true on_false
line_text types functions (line.Call local function operands next) = call_text functions local function operands next
line_text types functions other = simple_text other
