-- The text of types.
use Rattle.std.specs.Prelude.{ℕ, zero, suc, Bool, true, false, if◌then◌else◌, List, [], ◌∷◌, ◌++◌, Option, None, Some, codes}
use Rattle.std.specs.Fmt.{decimal}
use Rattle.tb_types.specs.declared.shape.Ty.{Ty}
use Rattle.tb_types.specs.declared.shape.IntKind.{IntKind}
use Rattle.tb_types.specs.declared.shape.IntKind.TheVariants as int
use Rattle.tb_types.specs.declared.shape.TyShape.{TyShape}
use Rattle.tb_types.specs.declared.shape.TyShape.TheVariants as shape
use Rattle.tb_types.specs.declared.item.Item.{Item}
use Rattle.tb_types.specs.Table.{TypeTable, shape_at, item_at, is_defined}

abbrev pub kind_text : IntKind → List ℕ
kind_text int.I8 = codes "i8"
kind_text int.I16 = codes "i16"
kind_text int.I32 = codes "i32"
kind_text int.I64 = codes "i64"
kind_text int.Isize = codes "isize"
kind_text int.U8 = codes "u8"
kind_text int.U16 = codes "u16"
kind_text int.U32 = codes "u32"
kind_text int.U64 = codes "u64"
kind_text int.Usize = codes "usize"

abbrev pub ref_text : Bool → List ℕ
ref_text true = codes "&mut "
ref_text false = codes "&"

abbrev pub raw_text : Bool → List ℕ
raw_text true = codes "*mut "
raw_text false = codes "*const "

abbrev pub name_of : Option Item → List ℕ
name_of None = []
name_of (Some item) = item.name

-- a struct by its name
abbrev pub struct_text : TypeTable → ℕ → List ℕ
struct_text types item = if is_defined types item then name_of (item_at types item) else []

abbrev pub around_text : List ℕ → List ℕ → List ℕ → List ℕ
around_text before text after = before ++ (text ++ after)

-- the parts of a tuple after the first, and all
abbrev pub rest_text : (Ty → List ℕ) → List Ty → List ℕ
rest_text text [] = []
rest_text text (part ∷ parts) = codes ", " ++ (text part ++ rest_text text parts)

abbrev pub parts_text : (Ty → List ℕ) → List Ty → List ℕ
parts_text text [] = []
parts_text text (first ∷ rest) = text first ++ rest_text text rest

-- a shape, from the texts of the types that it names
abbrev pub shape_text : TypeTable → (Ty → List ℕ) → TyShape → List ℕ
shape_text types text (shape.Int kind) = kind_text kind
shape_text types text shape.Bool = codes "bool"
shape_text types text shape.Char = codes "char"
shape_text types text shape.Unit = codes "()"
shape_text types text (shape.Tuple parts) = around_text (codes "(") (parts_text text parts) (codes ")")
shape_text types text (shape.Array part n) = around_text (codes "[") (text part) (codes "; ") ++ (decimal n ++ codes "]")
shape_text types text (shape.Struct item) = struct_text types item
shape_text types text (shape.Ref mutable to) = around_text (ref_text mutable) (text to) []
shape_text types text (shape.Raw mutable to) = around_text (raw_text mutable) (text to) []
shape_text types text (shape.Boxed part) = around_text (codes "Box<") (text part) (codes ">")
shape_text types text (shape.Cell part) = around_text (codes "Cell<") (text part) (codes ">")
shape_text types text (shape.UnsafeCell part) = around_text (codes "UnsafeCell<") (text part) (codes ">")
shape_text types text (shape.Slice part) = around_text (codes "[") (text part) (codes "]")

-- what is no type counts as `()`
abbrev pub found_text : TypeTable → (Ty → List ℕ) → Option TyShape → List ℕ
found_text types text None = codes "()"
found_text types text (Some found) = shape_text types text found

-- going down so many times
abbrev pub type_at : TypeTable → ℕ → Ty → List ℕ
type_at types zero ty = codes "()"
type_at types (suc depth) ty = found_text types (type_at types depth) (shape_at types ty)

-- a type, which names types of lesser numbers alone
abbrev pub type_text : TypeTable → Ty → List ℕ
type_text types ty = type_at types (suc ty.0) ty
