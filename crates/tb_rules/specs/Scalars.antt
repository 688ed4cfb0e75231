-- The types of scalars and `()`.
use Rattle.std.specs.Prelude.{◌≡◌, List, [], ◌∷◌, Some}
use Rattle.tb_types.specs.declared.shape.Ty.{Ty}
use Rattle.tb_types.specs.declared.shape.IntKind.{IntKind}
use Rattle.tb_types.specs.declared.shape.IntKind.TheVariants as int
use Rattle.tb_types.specs.declared.shape.TyShape.TheVariants.{Int, Bool, Char, Unit}
use Rattle.tb_types.specs.Table.{TypeTable, with_shape}
use Rattle.tb_types.specs.Pieces.{find}
use Rattle.tb_rules.specs.declared.scalars.Scalars.{Scalars}

abbrev pub integers : List IntKind
integers = int.I8 ∷ int.I16 ∷ int.I32 ∷ int.I64 ∷ int.Isize ∷ int.U8 ∷ int.U16 ∷ int.U32 ∷ int.U64 ∷ int.Usize ∷ []

-- a table with these integer types
abbrev pub with_integers : TypeTable → List IntKind → TypeTable
with_integers types [] = types
with_integers types (kind ∷ kinds) = with_integers (with_shape types (Int kind)) kinds

-- with `()`, `bool`, `char` and these integers
abbrev pub with_scalars : TypeTable → List IntKind → TypeTable
with_scalars types kinds = with_integers (with_shape (with_shape (with_shape types Unit) Bool) Char) kinds

abbrev pub integer_type : Scalars → IntKind → Ty
integer_type scalars int.I8 = scalars.i8
integer_type scalars int.I16 = scalars.i16
integer_type scalars int.I32 = scalars.i32
integer_type scalars int.I64 = scalars.i64
integer_type scalars int.Isize = scalars.isize
integer_type scalars int.U8 = scalars.u8
integer_type scalars int.U16 = scalars.u16
integer_type scalars int.U32 = scalars.u32
integer_type scalars int.U64 = scalars.u64
integer_type scalars int.Usize = scalars.usize

-- they are those of the table
pub record AreScalars (types : TypeTable) (scalars : Scalars) : Type 0 where
  pub unit : find types Unit ≡ Some scalars.unit
  pub boolean : find types Bool ≡ Some scalars.boolean
  pub character : find types Char ≡ Some scalars.character
  pub integer : (kind : IntKind) → find types (Int kind) ≡ Some (integer_type scalars kind)
