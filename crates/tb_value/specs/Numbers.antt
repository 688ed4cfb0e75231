-- Numbers as bytes, the lowest first, and integers as numbers, by two's complement.
use Rattle.std.specs.Prelude.{ℕ, zero, suc, ◌+◌, ◌-◌, ◌*◌, ◌/◌, ◌%◌, ◌<◌, Bool, true, false, cond, nat_le, List, [], ◌∷◌, Option, ℤ, pos, negsuc, ◌-ℤ◌}
use Rattle.tb_perm.specs.declared.tag.Prov.{Prov}
use Rattle.tb_bytes.specs.declared.byte_val.ByteVal.{ByteVal}
use Rattle.tb_bytes.specs.declared.byte_val.ByteVal.TheVariants.{Init}
use Rattle.tb_bytes.specs.Bytes.{value_of}
use Rattle.tb_types.specs.declared.shape.IntKind.{IntKind}
use Rattle.tb_types.specs.declared.shape.IntKind.TheVariants.{I8, I16, I32, I64, Isize, U8, U16, U32, U64, Usize}

-- the number that bytes stand for
abbrev pub number_of : List ByteVal → ℕ
number_of [] = 0
number_of (byte ∷ bytes) = value_of byte + 256 * number_of bytes

-- the lowest bytes of a number, so many, each with this provenance
abbrev pub number_bytes : ℕ → ℕ → Option Prov → List ByteVal
number_bytes zero number prov = []
number_bytes (suc n) number prov = Init (number % 256) prov ∷ number_bytes n (number / 256) prov

-- how many values an integer type has
abbrev pub values_in : IntKind → ℕ
values_in I8 = 256
values_in I16 = 65536
values_in I32 = 4294967296
values_in I64 = 18446744073709551616
values_in Isize = 18446744073709551616
values_in U8 = 256
values_in U16 = 65536
values_in U32 = 4294967296
values_in U64 = 18446744073709551616
values_in Usize = 18446744073709551616

abbrev pub is_signed : IntKind → Bool
is_signed I8 = true
is_signed I16 = true
is_signed I32 = true
is_signed I64 = true
is_signed Isize = true
is_signed U8 = false
is_signed U16 = false
is_signed U32 = false
is_signed U64 = false
is_signed Usize = false

-- the numbers from here on stand for negative integers, in a signed type
abbrev pub half_of : IntKind → ℕ
half_of kind = cond (is_signed kind) (values_in kind / 2) (values_in kind)

-- the integer that a number stands for
abbrev pub int_of : IntKind → ℕ → ℤ
int_of kind number = cond (nat_le (half_of kind) number) (pos number -ℤ pos (values_in kind)) (pos number)

-- the number of an integer
abbrev pub number_in : IntKind → ℤ → ℕ
number_in kind (pos n) = n
number_in kind (negsuc less) = values_in kind - suc less

-- the integer is one of the type's
abbrev pub IsInt : IntKind → ℤ → Type 0
IsInt kind (pos n) = n < half_of kind
IsInt kind (negsuc less) = less < values_in kind - half_of kind
