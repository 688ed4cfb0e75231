-- Values of scalar types: which bytes are one, which value they are, and the bytes of a value.
use Rattle.std.specs.Prelude.{ℕ, Bool, true, false, not, cond, ◌&&◌, ◌||◌, ◌==◌, nat_le, nat_lt, List, [], ◌∷◌, ◌++◌, map, take, drop, Option, Some, None, Result, Ok, Err, ⊤}
use Rattle.std.specs.List.{list_all, position}
use Rattle.tb_perm.specs.declared.tag.Prov.{Prov}
use Rattle.tb_bytes.specs.declared.byte_val.ByteVal.{ByteVal}
use Rattle.tb_bytes.specs.declared.byte_val.ByteVal.TheVariants.{Uninit as UninitByte, Init}
use Rattle.tb_bytes.specs.Bytes.{is_init, prov_of}
use Rattle.tb_alloc.specs.declared.ptr.Ptr.{Ptr}
use Rattle.tb_types.specs.Extent.{int_bytes}
use Rattle.tb_value.specs.declared.kind.ScalarKind.{ScalarKind}
use Rattle.tb_value.specs.declared.kind.ScalarKind.TheVariants.{Int, Bool as BoolKind, Char, Thin, Wide}
use Rattle.tb_value.specs.declared.scalar.Scalar.{Scalar}
use Rattle.tb_value.specs.declared.scalar.Scalar.TheVariants.{Int as IntValue, Bool as BoolValue, Char as CharValue, Thin as ThinValue, Wide as WideValue}
use Rattle.tb_value.specs.declared.fault.ValueFault.{ValueFault}
use Rattle.tb_value.specs.declared.fault.ValueFault.TheVariants.{Uninit, Invalid}
use Rattle.tb_value.specs.Numbers.{number_of, number_bytes, int_of, number_in, IsInt}

-- two provenances are the same, or both are none
abbrev pub same_prov : Option Prov → Option Prov → Bool
same_prov None None = true
same_prov None (Some q) = false
same_prov (Some p) None = false
same_prov (Some p) (Some q) = p.alloc.0 == q.alloc.0 && p.tag.0 == q.tag.0

-- all bytes carry this provenance, or all carry none
abbrev pub all_from : Option Prov → List ByteVal → Bool
all_from prov bytes = list_all (λ byte. same_prov (prov_of byte) prov) bytes

-- the provenance that all of the bytes carry
abbrev pub common_prov : List ByteVal → Option Prov
common_prov [] = None
common_prov (byte ∷ bytes) = cond (all_from (prov_of byte) bytes) (prov_of byte) None

-- the pointer that eight bytes are; it has a provenance only where all eight carry it
abbrev pub pointer_in : List ByteVal → Ptr
pointer_in bytes = record { addr = number_of bytes; prov = common_prov bytes }

-- a Unicode scalar value
abbrev pub is_character : ℕ → Bool
is_character n = nat_lt n 0xD800 || (nat_le 0xE000 n && nat_le n 0x10FFFF)

-- an address that a reference or box may have, or any where null may be
abbrev pub is_address : Bool → ℕ → Bool
is_address null address = null || not (address == 0)

-- whether initialised bytes are valid (Rust Reference, "Behavior considered undefined": invalid values)
abbrev pub is_valid : ScalarKind → List ByteVal → Bool
is_valid (Int kind) bytes = true
is_valid BoolKind bytes = nat_lt (number_of bytes) 2
is_valid Char bytes = is_character (number_of bytes)
is_valid (Thin null) bytes = is_address null (number_of bytes)
is_valid (Wide null) bytes = is_address null (number_of (take 8 bytes))

-- the value that valid bytes are; of an integer, a truth value, a character and a length no provenance is left
abbrev pub scalar_of : ScalarKind → List ByteVal → Scalar
scalar_of (Int kind) bytes = IntValue (int_of kind (number_of bytes))
scalar_of BoolKind bytes = BoolValue (not (number_of bytes == 0))
scalar_of Char bytes = CharValue (number_of bytes)
scalar_of (Thin null) bytes = ThinValue (pointer_in bytes)
scalar_of (Wide null) bytes = WideValue (pointer_in (take 8 bytes)) (number_of (drop 8 bytes))

-- the first byte that has no value
abbrev pub first_uninit : List ByteVal → Option ℕ
first_uninit bytes = position (λ byte. not (is_init byte)) bytes

abbrev pub decoded_if : ScalarKind → List ByteVal → Option ℕ → Result Scalar ValueFault
decoded_if kind bytes (Some place) = Err (Uninit place)
decoded_if kind bytes None = cond (is_valid kind bytes) (Ok (scalar_of kind bytes)) (Err (Invalid 0))

-- the value that bytes are, or why they are none: a byte that is uninitialised is found first
abbrev pub decoded : ScalarKind → List ByteVal → Result Scalar ValueFault
decoded kind bytes = decoded_if kind bytes (first_uninit bytes)

-- the bytes of a value; all eight bytes of a pointer carry its provenance
abbrev pub encoded : ScalarKind → Scalar → List ByteVal
encoded (Int kind) (IntValue int) = number_bytes (int_bytes kind) (number_in kind int) None
encoded BoolKind (BoolValue truth) = number_bytes 1 (cond truth 1 0) None
encoded Char (CharValue character) = number_bytes 4 character None
encoded (Thin null) (ThinValue ptr) = number_bytes 8 ptr.addr ptr.prov
encoded (Wide null) (WideValue ptr length) = number_bytes 8 ptr.addr ptr.prov ++ number_bytes 8 length None
encoded kind scalar = []

-- the value is one of the kind
abbrev pub IsOf : ScalarKind → Scalar → Type 0
IsOf (Int kind) (IntValue int) = IsInt kind int
IsOf BoolKind (BoolValue truth) = ⊤
IsOf Char (CharValue character) = ⊤
IsOf (Thin null) (ThinValue ptr) = ⊤
IsOf (Wide null) (WideValue ptr length) = ⊤
IsOf kind scalar = ⊥

-- the byte with another provenance
abbrev pub with_prov : Option Prov → ByteVal → ByteVal
with_prov prov UninitByte = UninitByte
with_prov prov (Init value old) = Init value prov

-- the bytes of a value as a typed copy leaves them: with the provenance that the value keeps
abbrev pub cleaned : ScalarKind → List ByteVal → List ByteVal
cleaned (Int kind) bytes = map (with_prov None) bytes
cleaned BoolKind bytes = map (with_prov None) bytes
cleaned Char bytes = map (with_prov None) bytes
cleaned (Thin null) bytes = map (with_prov (common_prov bytes)) bytes
cleaned (Wide null) bytes = map (with_prov (common_prov (take 8 bytes))) (take 8 bytes) ++ map (with_prov None) (drop 8 bytes)
