-- Which methods a receiver has.
use Rattle.std.specs.Prelude.{ℕ, Bool, false, if◌then◌else◌, nat_eq, List, codes, Option, Some, None}
use Rattle.std.specs.Str.{bytes_eq}
use Rattle.tb_types.specs.declared.shape.Ty.{Ty}
use Rattle.tb_types.specs.declared.builtin.Builtin.TheVariants as builtin
use Rattle.tb_types.specs.Table.{TypeTable}
use Rattle.tb_rules.specs.declared.scalars.Scalars.{Scalars}
use Rattle.tb_rules.specs.declared.type_kind.TypeKind.{TypeKind}
use Rattle.tb_rules.specs.declared.type_kind.TypeKind.TheVariants as kind
use Rattle.tb_rules.specs.Kinds.{kind_at, is_slice}
use Rattle.tb_calls.specs.declared.names.Method.{Method}
use Rattle.tb_calls.specs.declared.names.Method.TheVariants.{Length, Call}
use Rattle.tb_calls.specs.declared.names.Step.{Step}

abbrev pub cell_method : List ℕ → Option Method
cell_method name = if bytes_eq name (codes "get") then Some (Call builtin.CellGet) else (if bytes_eq name (codes "set") then Some (Call builtin.CellSet) else (if bytes_eq name (codes "as_ptr") then Some (Call builtin.CellAsPtr) else None))

abbrev pub unsafe_cell_method : List ℕ → Option Method
unsafe_cell_method name = if bytes_eq name (codes "get") then Some (Call builtin.UnsafeCellGet) else None

-- a raw pointer is moved
abbrev pub moving_method : List ℕ → Option Method
moving_method name = if bytes_eq name (codes "add") then Some (Call builtin.Add) else (if bytes_eq name (codes "sub") then Some (Call builtin.Sub) else (if bytes_eq name (codes "offset") then Some (Call builtin.Offset) else None))

-- it is looked at
abbrev pub looking_method : List ℕ → Option Method
looking_method name = if bytes_eq name (codes "cast") then Some (Call builtin.Cast) else (if bytes_eq name (codes "is_null") then Some (Call builtin.IsNull) else (if bytes_eq name (codes "addr") then Some (Call builtin.Addr) else None))

-- it is read, and written where it is `*mut`
abbrev pub access_method : Bool → List ℕ → Option Method
access_method mutable name = if bytes_eq name (codes "read") then Some (Call builtin.Read) else (if bytes_eq name (codes "write") then (if mutable then Some (Call builtin.Write) else None) else None)

abbrev pub or_method : Option Method → Option Method → Option Method
or_method None second = second
or_method (Some method) second = Some method

abbrev pub pointer_method : Bool → List ℕ → Option Method
pointer_method mutable name = or_method (moving_method name) (or_method (access_method mutable name) (looking_method name))

-- of an array or a slice
abbrev pub elements_method : List ℕ → Option Method
elements_method name = if bytes_eq name (codes "len") then Some Length else (if bytes_eq name (codes "as_ptr") then Some (Call builtin.SliceAsPtr) else (if bytes_eq name (codes "as_mut_ptr") then Some (Call builtin.SliceAsMutPtr) else None))

abbrev pub layout_method : List ℕ → Option Method
layout_method name = if bytes_eq name (codes "size") then Some (Call builtin.LayoutSize) else (if bytes_eq name (codes "align") then Some (Call builtin.LayoutAlign) else None)

abbrev pub step_by : Option Method → Ty → Bool → Option Step
step_by None content mutable = None
step_by (Some method) content mutable = Some (record { method = method; content = content; mutable = mutable })

-- The method of this name of a receiver of this kind: of cells, of raw pointers that do not lead to slices, of arrays and slices, and of `Layout`, which
-- is struct 0.
abbrev pub method_step : TypeTable → Scalars → TypeKind → List ℕ → Option Step
method_step types scalars (kind.Cell part) name = step_by (cell_method name) part false
method_step types scalars (kind.UnsafeCell part) name = step_by (unsafe_cell_method name) part false
method_step types scalars (kind.Raw mutable to) name = if is_slice (kind_at types to) then None else step_by (pointer_method mutable name) to mutable
method_step types scalars (kind.Array part n) name = step_by (elements_method name) part false
method_step types scalars (kind.Slice part) name = step_by (elements_method name) part false
method_step types scalars (kind.Struct item) name = if nat_eq item 0 then step_by (layout_method name) scalars.unit false else None
method_step types scalars receiver name = None
