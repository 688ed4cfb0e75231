-- The text of what is computed.
use Rattle.std.specs.Prelude.{ℕ, List, ◌++◌, codes}
use Rattle.std.specs.Fmt.{decimal}
use Rattle.tb_types.specs.Table.{TypeTable}
use Rattle.tb_program.specs.declared.operand.Operand.{Operand}
use Rattle.tb_program.specs.declared.operand.RefKind.{RefKind}
use Rattle.tb_program.specs.declared.operand.RefKind.TheVariants.{Shared, Mut, RawConst, RawMut}
use Rattle.tb_program.specs.declared.operand.UnOp.{UnOp}
use Rattle.tb_program.specs.declared.operand.UnOp.TheVariants.{Neg, Not}
use Rattle.tb_program.specs.declared.operand.BinOp.{BinOp}
use Rattle.tb_program.specs.declared.operand.BinOp.TheVariants as operator
use Rattle.tb_program.specs.declared.operand.Rvalue.{Rvalue}
use Rattle.tb_program.specs.declared.operand.Rvalue.TheVariants as rvalue
use Rattle.tb_program.specs.Types.{type_text}
use Rattle.tb_program.specs.Operands.{operand_text, operands_text, place_text}

abbrev pub borrow_text : RefKind → List ℕ
borrow_text Shared = codes "ref shared "
borrow_text Mut = codes "ref mut "
borrow_text RawConst = codes "ref rawconst "
borrow_text RawMut = codes "ref rawmut "

abbrev pub unary_text : UnOp → List ℕ
unary_text Neg = codes "neg"
unary_text Not = codes "not"

abbrev pub binary_text : BinOp → List ℕ
binary_text operator.Add = codes "add"
binary_text operator.Sub = codes "sub"
binary_text operator.Mul = codes "mul"
binary_text operator.Div = codes "div"
binary_text operator.Rem = codes "rem"
binary_text operator.Shl = codes "shl"
binary_text operator.Shr = codes "shr"
binary_text operator.And = codes "and"
binary_text operator.Or = codes "or"
binary_text operator.Xor = codes "xor"
binary_text operator.Eq = codes "eq"
binary_text operator.Ne = codes "ne"
binary_text operator.Lt = codes "lt"
binary_text operator.Le = codes "le"
binary_text operator.Gt = codes "gt"
binary_text operator.Ge = codes "ge"

-- a word, and what it works on
abbrev pub one_text : List ℕ → Operand → List ℕ
one_text word operand = word ++ (codes " " ++ operand_text operand)

abbrev pub two_text : List ℕ → Operand → Operand → List ℕ
two_text word left right = one_text word left ++ (codes " " ++ operand_text right)

abbrev pub counted_text : List ℕ → Operand → ℕ → List ℕ
counted_text word operand count = one_text word operand ++ (codes " " ++ decimal count)

abbrev pub rvalue_text : TypeTable → Rvalue → List ℕ
rvalue_text types (rvalue.Ref kind place) = borrow_text kind ++ place_text place
rvalue_text types (rvalue.Use operand) = one_text (codes "use") operand
rvalue_text types (rvalue.Unary op operand) = one_text (unary_text op) operand
rvalue_text types (rvalue.Binary op left right) = two_text (binary_text op) left right
rvalue_text types (rvalue.Cast operand ty) = one_text (codes "cast") operand ++ (codes " " ++ type_text types ty)
rvalue_text types (rvalue.Make ty operands) = codes "make " ++ (type_text types ty ++ operands_text operands)
rvalue_text types (rvalue.Repeat operand count) = counted_text (codes "repeat") operand count
rvalue_text types (rvalue.Unsize operand count) = counted_text (codes "unsize") operand count
rvalue_text types (rvalue.Len operand) = one_text (codes "len") operand
