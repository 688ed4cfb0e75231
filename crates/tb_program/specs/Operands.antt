-- The text of constants, operands and places.
use Rattle.std.specs.Prelude.{ℕ, ℤ, Bool, true, false, not, ◌&&◌, ◌==◌, nat_le, if◌then◌else◌, List, [], ◌∷◌, ◌++◌, codes}
use Rattle.std.specs.Fmt.{signed_decimal, digits}
use Rattle.tb_types.specs.declared.shape.IntKind.{IntKind}
use Rattle.tb_program.specs.declared.operand.Constant.{Constant}
use Rattle.tb_program.specs.declared.operand.Constant.TheVariants as constant
use Rattle.tb_program.specs.declared.operand.Operand.{Operand}
use Rattle.tb_program.specs.declared.operand.Operand.TheVariants.{Temp, Const}
use Rattle.tb_program.specs.declared.operand.Base.{Base}
use Rattle.tb_program.specs.declared.operand.Base.TheVariants.{Variable, Deref}
use Rattle.tb_program.specs.declared.operand.Part.{Part}
use Rattle.tb_program.specs.declared.operand.Part.TheVariants.{Field, Index}
use Rattle.tb_program.specs.declared.operand.Place.{Place}
use Rattle.tb_program.specs.Pieces.{numbered}
use Rattle.tb_program.specs.Types.{kind_text}

-- an integer, and its type
abbrev pub int_text : ℤ → IntKind → List ℕ
int_text value kind = signed_decimal value ++ kind_text kind

-- from the space to `~`, but for `'` and `\`
abbrev pub is_plain_char : ℕ → Bool
is_plain_char c = nat_le 32 c && (nat_le c 126 && (not (c == 39) && not (c == 92)))

abbrev pub code_text : ℕ → List ℕ
code_text c = codes "\\u{" ++ (digits 16 false c ++ codes "}")

-- a character as itself, or by its code in hexadecimal digits
abbrev pub char_text : ℕ → List ℕ
char_text c = codes "'" ++ ((if is_plain_char c then c ∷ [] else code_text c) ++ codes "'")

abbrev pub bool_text : Bool → List ℕ
bool_text true = codes "true"
bool_text false = codes "false"

abbrev pub constant_text : Constant → List ℕ
constant_text (constant.Int value kind) = int_text value kind
constant_text (constant.Bool value) = bool_text value
constant_text (constant.Char value) = char_text value
constant_text constant.Unit = codes "()"

abbrev pub operand_text : Operand → List ℕ
operand_text (Temp local) = numbered (codes "_") local
operand_text (Const value) = constant_text value

-- each after a space
abbrev pub operands_text : List Operand → List ℕ
operands_text [] = []
operands_text (operand ∷ operands) = codes " " ++ (operand_text operand ++ operands_text operands)

abbrev pub base_text : Base → List ℕ
base_text (Variable local) = numbered (codes "_") local
base_text (Deref local) = numbered (codes "*_") local

abbrev pub part_text : Part → List ℕ
part_text (Field number) = numbered (codes ".") number
part_text (Index operand) = codes "[" ++ (operand_text operand ++ codes "]")

abbrev pub path_text : List Part → List ℕ
path_text [] = []
path_text (part ∷ parts) = part_text part ++ path_text parts

-- a variable, or what a pointer leads to, and the way inwards
abbrev pub place_text : Place → List ℕ
place_text place = base_text place.base ++ path_text place.parts
