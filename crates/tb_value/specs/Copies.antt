-- Typed copies. The bytes of a type are those of its leaves, one after another, with padding before, between and behind.
use Rattle.std.specs.Prelude.{ℕ, ◌+◌, ◌-◌, true, cond, ◌&&◌, List, [], ◌∷◌, ◌++◌, length, replicate, Option, Some, None, Result, Ok, Err}
use Rattle.std.specs.List.{list_all, slice_range}
use Rattle.std.specs.Option.{option_map, option_or}
use Rattle.tb_bytes.specs.declared.byte_val.ByteVal.{ByteVal}
use Rattle.tb_bytes.specs.declared.byte_val.ByteVal.TheVariants.{Uninit as UninitByte}
use Rattle.tb_bytes.specs.Bytes.{is_init}
use Rattle.tb_types.specs.declared.shape.Ty.{Ty}
use Rattle.tb_types.specs.Table.{TypeTable}
use Rattle.tb_layout.specs.declared.leaf.Leaf.{Leaf}
use Rattle.tb_layout.specs.Leaves.{leaves_of}
use Rattle.tb_value.specs.declared.kind.ScalarKind.{ScalarKind}
use Rattle.tb_value.specs.declared.fault.ValueFault.{ValueFault}
use Rattle.tb_value.specs.declared.fault.ValueFault.TheVariants.{Uninit, Invalid}
use Rattle.tb_value.specs.Kinds.{kind_of, width}
use Rattle.tb_value.specs.Scalars.{first_uninit, is_valid, cleaned}

-- how many bytes a leaf has, and where it ends
abbrev pub leaf_end : TypeTable → Leaf → ℕ
leaf_end types leaf = leaf.at + width (kind_of types leaf.shape)

-- the bytes of a leaf, among those of the type
abbrev pub leaf_bytes : TypeTable → List ByteVal → Leaf → List ByteVal
leaf_bytes types bytes leaf = slice_range bytes leaf.at (leaf_end types leaf)

-- the first byte of the leaves that is uninitialised
abbrev pub uninit_in : TypeTable → List ByteVal → List Leaf → Option ℕ
uninit_in types bytes [] = None
uninit_in types bytes (leaf ∷ leaves) = option_or (option_map (λ place. leaf.at + place) (first_uninit (leaf_bytes types bytes leaf))) (uninit_in types bytes leaves)

-- where the first leaf begins whose bytes are not valid
abbrev pub invalid_in : TypeTable → List ByteVal → List Leaf → Option ℕ
invalid_in types bytes [] = None
invalid_in types bytes (leaf ∷ leaves) = cond (is_valid (kind_of types leaf.shape) (leaf_bytes types bytes leaf)) (invalid_in types bytes leaves) (Some leaf.at)

-- why bytes are no value of the type: a byte that is uninitialised, anywhere, comes before a value that is not valid
abbrev pub fault_in : TypeTable → List ByteVal → List Leaf → Option ValueFault
fault_in types bytes leaves = option_or (option_map Uninit (uninit_in types bytes leaves)) (option_map Invalid (invalid_in types bytes leaves))

abbrev pub value_fault : TypeTable → Ty → List ByteVal → Option ValueFault
value_fault types ty bytes = fault_in types bytes (leaves_of true types ty)

-- a leaf's bytes in a copy; bytes that are no value stand as they are
abbrev pub copied_leaf : ScalarKind → List ByteVal → List ByteVal
copied_leaf kind bytes = cond (list_all (λ byte. is_init byte) bytes && is_valid kind bytes) (cleaned kind bytes) bytes

-- padding, of so many bytes
abbrev pub padding : ℕ → List ByteVal
padding n = replicate n UninitByte

-- the copies of leaves from a byte on, and the padding around them
abbrev pub copied : TypeTable → List ByteVal → ℕ → List Leaf → List ByteVal
copied types bytes at [] = padding (length bytes - at)
copied types bytes at (leaf ∷ leaves) =
    padding (leaf.at - at) ++ (copied_leaf (kind_of types leaf.shape) (leaf_bytes types bytes leaf) ++ copied types bytes (leaf_end types leaf) leaves)

-- the bytes that a typed copy writes: the padding is uninitialised
abbrev pub typed_copy : TypeTable → Ty → List ByteVal → List ByteVal
typed_copy types ty bytes = copied types bytes 0 (leaves_of true types ty)

abbrev pub copy_unless : List ByteVal → Option ValueFault → Result (List ByteVal) ValueFault
copy_unless copy None = Ok copy
copy_unless copy (Some fault) = Err fault

-- what a load of the bytes as a value of the type gives
abbrev pub copy_of : TypeTable → Ty → List ByteVal → Result (List ByteVal) ValueFault
copy_of types ty bytes = copy_unless (typed_copy types ty bytes) (value_fault types ty bytes)
