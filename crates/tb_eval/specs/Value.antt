-- The values of operands, places and right sides.
use Rattle.std.specs.Prelude.{ℤ, pos, negsuc, ◌+ℤ◌, ◌^◌, Bool, nat_lt, List, Option, Some, None, Result, Ok, Err, slice_get, if◌then◌else◌}
use Rattle.tb_perm.specs.declared.tag.Prov.{Prov}
use Rattle.tb_mir.specs.declared.operand.Constant.TheVariants as constant
use Rattle.tb_mir.specs.declared.operand.Operand.{Operand}
use Rattle.tb_mir.specs.declared.operand.Operand.TheVariants.{Temp, Const}
use Rattle.tb_mir.specs.declared.operand.Base.{Base}
use Rattle.tb_mir.specs.declared.operand.Base.TheVariants.{Variable, Deref}
use Rattle.tb_mir.specs.declared.operand.BinOp.TheVariants.{Add}
use Rattle.tb_mir.specs.declared.operand.Place.{Place}
use Rattle.tb_mir.specs.declared.operand.Rvalue.{Rvalue}
use Rattle.tb_mir.specs.declared.operand.Rvalue.TheVariants.{Ref, Use, Binary}
use Rattle.tb_heap.specs.declared.value.Value.{Value}
use Rattle.tb_heap.specs.declared.value.Value.TheVariants.{Unit as TheUnit, Int, Pointer}
use Rattle.tb_eval.specs.declared.value.Slot.{Slot}
use Rattle.tb_eval.specs.declared.value.Slot.TheVariants.{Dead, Live, Empty, Holds}
use Rattle.tb_heap.specs.declared.stop.Stop.{Stop as TheStop}
use Rattle.tb_heap.specs.declared.stop.Stop.TheVariants.{Uninit}
use Rattle.tb_eval.specs.declared.outcome.Panic.TheVariants.{Overflow}
use Rattle.tb_eval.specs.declared.outcome.EvalError.{EvalError}
use Rattle.tb_eval.specs.declared.outcome.EvalError.TheVariants.{Stop, Panic}

-- the value that a temporary has, if it is there
abbrev pub temp_value : Option Slot → Result Value TheStop
temp_value (Some (Holds value)) = Ok value
temp_value (Some Empty) = Err Uninit
temp_value (Some Dead) = Err Uninit
temp_value (Some (Live prov)) = Err Uninit
temp_value None = Err Uninit

abbrev pub operand_value : List Slot → Operand → Result Value TheStop
operand_value locals (Temp temp) = temp_value (slice_get locals temp)
operand_value locals (Const (constant.Int int)) = Ok (Int int)
operand_value locals (Const constant.Unit) = Ok TheUnit

-- the pointer that a value is; another value has no bytes of a pointer
abbrev pub pointer_in : Value → Result (Option Prov) TheStop
pointer_in (Pointer pointer) = Ok pointer
pointer_in (Int int) = Err Uninit
pointer_in TheUnit = Err Uninit

abbrev pub pointer_of : Result Value TheStop → Result (Option Prov) TheStop
pointer_of (Ok value) = pointer_in value
pointer_of (Err stop) = Err stop

-- where a variable lies, if it is there and live
abbrev pub variable_pointer : Option Slot → Option Prov
variable_pointer (Some (Live prov)) = Some prov
variable_pointer (Some Dead) = None
variable_pointer (Some Empty) = None
variable_pointer (Some (Holds value)) = None
variable_pointer None = None

abbrev pub base_pointer : List Slot → Base → Result (Option Prov) TheStop
base_pointer locals (Variable variable) = Ok (variable_pointer (slice_get locals variable))
base_pointer locals (Deref temp) = pointer_of (temp_value (slice_get locals temp))

-- the pointer to a place; a variable that is not live lies nowhere
abbrev pub place_pointer : List Slot → Place → Result (Option Prov) TheStop
place_pointer locals place = base_pointer locals place.base

-- the integer that a value is; another value has no bytes of an integer
abbrev pub integer_in : Value → Result ℤ TheStop
integer_in (Int int) = Ok int
integer_in TheUnit = Err Uninit
integer_in (Pointer pointer) = Err Uninit

abbrev pub integer_of : Result Value TheStop → Result ℤ TheStop
integer_of (Ok value) = integer_in value
integer_of (Err stop) = Err stop

-- the integer that an operand is
abbrev pub int_operand : List Slot → Operand → Result ℤ TheStop
int_operand locals operand = integer_of (operand_value locals operand)

-- it is at least -2^31, and less than 2^31
abbrev pub fits_i32 : ℤ → Bool
fits_i32 (pos n) = nat_lt n (2 ^ 31)
fits_i32 (negsuc n) = nat_lt n (2 ^ 31)

-- a sum that does not fit panics
abbrev pub fitting : ℤ → Result Value EvalError
fitting sum = if fits_i32 sum then Ok (Int sum) else Err (Panic Overflow)

-- the sum of two operands, the left one asked first
abbrev pub sum_of : Result ℤ TheStop → Result ℤ TheStop → Result Value EvalError
sum_of (Ok left) (Ok right) = fitting (left +ℤ right)
sum_of (Ok left) (Err stop) = Err (Stop stop)
sum_of (Err stop) right = Err (Stop stop)

abbrev pub used : Result Value TheStop → Result Value EvalError
used (Ok value) = Ok value
used (Err stop) = Err (Stop stop)

-- a pointer, as a value
abbrev pub pointed : Result (Option Prov) TheStop → Result Value EvalError
pointed (Ok pointer) = Ok (Pointer pointer)
pointed (Err stop) = Err (Stop stop)

abbrev pub rvalue_value : List Slot → Rvalue → Result Value EvalError
rvalue_value locals (Ref kind place) = pointed (place_pointer locals place)
rvalue_value locals (Use operand) = used (operand_value locals operand)
rvalue_value locals (Binary Add left right) = sum_of (int_operand locals left) (int_operand locals right)
