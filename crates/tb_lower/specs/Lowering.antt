-- The lines that a source is lowered to. Each rule has the shape of what it brings in, and lines over the names of that shape.
use Rattle.std.specs.Prelude.{◌≡◌, ℕ, pos, Bool, true, false, if◌then◌else◌, List, [], ◌∷◌, ◌++◌, map, reverse, slice_index_or, codes}
use Rattle.tb_perm.specs.declared.span.Span.{Span}
use Rattle.tb_small.specs.Grammar.{right_value, spot_span}
use Rattle.tb_small.specs.declared.tree.SmallTree.{SmallTree}
use Rattle.tb_small.specs.declared.tree.Statement.{Statement}
use Rattle.tb_small.specs.declared.tree.Statement.TheVariants as statement
use Rattle.tb_small.specs.declared.tree.Inner.{Inner}
use Rattle.tb_small.specs.declared.tree.Inner.TheVariants as inner
use Rattle.tb_small.specs.declared.tree.Let.{Let}
use Rattle.tb_small.specs.declared.tree.Assign.{Assign}
use Rattle.tb_small.specs.declared.tree.Print.{Print}
use Rattle.tb_small.specs.declared.tree.UnsafeBlock.{UnsafeBlock}
use Rattle.tb_small.specs.declared.tree.Right.{Right}
use Rattle.tb_small.specs.declared.tree.Right.TheVariants as right
use Rattle.tb_small.specs.declared.tree.Value.{Value}
use Rattle.tb_small.specs.declared.tree.Value.TheVariants as value
use Rattle.tb_small.specs.declared.tree.Borrow.{Borrow}
use Rattle.tb_small.specs.declared.tree.RefKind as tree_kind
use Rattle.tb_small.specs.declared.tree.RefKind.TheVariants as written
use Rattle.tb_small.specs.declared.tree.Ty as tree_ty
use Rattle.tb_small.specs.declared.tree.Ty.TheVariants as known
use Rattle.tb_small.specs.declared.tree.Spot.{Spot}
use Rattle.tb_small.specs.declared.tree.Spot.TheVariants as spot
use Rattle.tb_small.specs.declared.tree.Atom.{Atom}
use Rattle.tb_small.specs.declared.tree.Atom.TheVariants as atom
use Rattle.tb_small.specs.declared.tree.Sum.{Sum}
use Rattle.tb_mir.specs.Retags.{without_retags}
use Rattle.tb_mir.specs.declared.line.Line.{Line}
use Rattle.tb_mir.specs.declared.line.Line.TheVariants as line
use Rattle.tb_mir.specs.declared.line.MirLine.{MirLine}
use Rattle.tb_mir.specs.declared.mir.Mir.{Mir}
use Rattle.tb_mir.specs.declared.mir.Local.{Local}
use Rattle.tb_mir.specs.declared.mir.Func.{Func}
use Rattle.tb_mir.specs.declared.mir.LocalKind.TheVariants as kept
use Rattle.tb_mir.specs.declared.mir.Ty.{Ty}
use Rattle.tb_mir.specs.declared.mir.Ty.TheVariants as ty
use Rattle.tb_mir.specs.declared.operand.Base.TheVariants as base
use Rattle.tb_mir.specs.declared.operand.BinOp.TheVariants as op
use Rattle.tb_mir.specs.declared.operand.Constant.TheVariants as constant
use Rattle.tb_mir.specs.declared.operand.Operand.{Operand}
use Rattle.tb_mir.specs.declared.operand.Operand.TheVariants.{Temp, Const}
use Rattle.tb_mir.specs.declared.operand.Place.{Place}
use Rattle.tb_mir.specs.declared.operand.RefKind.{RefKind}
use Rattle.tb_mir.specs.declared.operand.RefKind.TheVariants.{Shared, Mut, RawConst, RawMut}
use Rattle.tb_mir.specs.declared.operand.Rvalue.TheVariants.{Ref, Use, Binary}
use Rattle.tb_lower.specs.declared.lowering.Declared.{Declared}
use Rattle.tb_lower.specs.Ways.{Shape, End, Own, Part, Naming, under, own, number, brings, ways}

abbrev pub put : Line → Span → MirLine
put it span = record { line = it; span = span }

-- Types and locals.

abbrev pub kind_of : tree_kind.RefKind → RefKind
kind_of written.Shared = Shared
kind_of written.Mut = Mut
kind_of written.RawConst = RawConst
kind_of written.RawMut = RawMut

abbrev pub ty_of : tree_ty.Ty → Ty
ty_of known.Int32 = ty.Int32
ty_of (known.Pointer kind) = ty.Pointer (kind_of kind)

abbrev pub temp : Ty → Local
temp ty = record { kind = kept.Temp; ty = ty }

-- a temporary for the pointer of a place
abbrev pub place_temp : Ty → Local
place_temp ty = record { kind = kept.PlaceTemp; ty = ty }

abbrev pub variable : Ty → Local
variable ty = record { kind = kept.Variable; ty = ty }

abbrev pub types_of : List Declared → List Ty
types_of variables = map (λ variable. variable.ty) variables

abbrev pub local_at : List Declared → ℕ → ℕ
local_at variables n = slice_index_or (map (λ variable. variable.local) variables) n 0

abbrev pub type_at : List Ty → ℕ → Ty
type_at types n = slice_index_or types n ty.Int32

-- the memory of a variable
abbrev pub variable_place : ℕ → Place
variable_place local = record { base = base.Variable local }

-- what the pointer in a temporary points to
abbrev pub deref_place : ℕ → Place
deref_place temp = record { base = base.Deref temp }

-- Places. The pointer of `*x` is loaded into a temporary for the place.

abbrev pub spot_shape : List Ty → Spot → Shape
spot_shape types (spot.Variable variable) = End
spot_shape types (spot.Deref deref) = Own (place_temp (type_at types deref.variable.number)) End

abbrev pub spot_lines : Naming → List Declared → Spot → List MirLine
spot_lines at variables (spot.Variable variable) = []
spot_lines at variables (spot.Deref deref) =
    put (line.Load (own at 0) (variable_place (local_at variables deref.variable.number))) deref.span ∷ []

abbrev pub spot_place : Naming → List Declared → Spot → Place
spot_place at variables (spot.Variable variable) = variable_place (local_at variables variable.number)
spot_place at variables (spot.Deref deref) = deref_place (own at 0)

-- A place that is read: what it holds, of this type, is loaded into a temporary.

abbrev pub load_shape : List Ty → Ty → Spot → Shape
load_shape types ty spot = Part (spot_shape types spot) (Own (temp ty) End)

abbrev pub load_lines : Naming → List Declared → Spot → List MirLine
load_lines at variables spot =
    spot_lines (under at 0) variables spot
    ++ put (line.Load (own at 1) (spot_place (under at 0) variables spot)) (spot_span spot) ∷ []

-- Atoms. A literal is a constant, and brings in nothing.

abbrev pub atom_span : Atom → Span
atom_span (atom.Int int) = int.span
atom_span (atom.Variable variable) = variable.span
atom_span (atom.Deref deref) = deref.span

-- from the first byte of one atom to the last of another
abbrev pub from_to : Atom → Atom → Span
from_to first last = record { lo = (atom_span first).lo; hi = (atom_span last).hi }

abbrev pub atom_shape : List Ty → Atom → Shape
atom_shape types (atom.Int int) = End
atom_shape types (atom.Variable variable) = load_shape types ty.Int32 (spot.Variable variable)
atom_shape types (atom.Deref deref) = load_shape types ty.Int32 (spot.Deref deref)

abbrev pub atom_lines : Naming → List Declared → Atom → List MirLine
atom_lines at variables (atom.Int int) = []
atom_lines at variables (atom.Variable variable) = load_lines at variables (spot.Variable variable)
atom_lines at variables (atom.Deref deref) = load_lines at variables (spot.Deref deref)

abbrev pub atom_operand : Naming → Atom → Operand
atom_operand at (atom.Int int) = Const (constant.Int (pos int.value))
atom_operand at (atom.Variable variable) = Temp (own at 1)
atom_operand at (atom.Deref deref) = Temp (own at 1)

-- Sums. Each further atom, and its sum with what stands to the left of it.

abbrev pub more_shape : List Ty → List Atom → Shape
more_shape types [] = End
more_shape types (atom ∷ atoms) = Part (atom_shape types atom) (Own (temp ty.Int32) (Part (more_shape types atoms) End))

abbrev pub more_lines : Naming → List Declared → Atom → Operand → List Atom → List MirLine
more_lines at variables first left [] = []
more_lines at variables first left (atom ∷ atoms) =
    atom_lines (under at 0) variables atom
    ++ (put (line.Set (own at 1) (Binary op.Add left (atom_operand (under at 0) atom))) (from_to first atom)
    ∷ more_lines (under at 2) variables first (Temp (own at 1)) atoms)

abbrev pub more_operand : Naming → Operand → List Atom → Operand
more_operand at left [] = left
more_operand at left (atom ∷ atoms) = more_operand (under at 2) (Temp (own at 1)) atoms

-- from left to right
abbrev pub sum_shape : List Ty → Sum → Shape
sum_shape types sum = Part (atom_shape types sum.first) (Part (more_shape types sum.rest) End)

abbrev pub sum_lines : Naming → List Declared → Sum → List MirLine
sum_lines at variables sum =
    atom_lines (under at 0) variables sum.first
    ++ more_lines (under at 1) variables sum.first (atom_operand (under at 0) sum.first) sum.rest

abbrev pub sum_operand : Naming → Sum → Operand
sum_operand at sum = more_operand (under at 1) (atom_operand (under at 0) sum.first) sum.rest

abbrev pub last_atom : Atom → List Atom → Atom
last_atom first [] = first
last_atom first (atom ∷ atoms) = last_atom atom atoms

abbrev pub sum_span : Sum → Span
sum_span sum = from_to sum.first (last_atom sum.first sum.rest)

-- The arguments of a print, from left to right.

abbrev pub sums_shape : List Ty → List Sum → Shape
sums_shape types [] = End
sums_shape types (sum ∷ sums) = Part (sum_shape types sum) (Part (sums_shape types sums) End)

abbrev pub sums_lines : Naming → List Declared → List Sum → List MirLine
sums_lines at variables [] = []
sums_lines at variables (sum ∷ sums) = sum_lines (under at 0) variables sum ++ sums_lines (under at 1) variables sums

abbrev pub sums_operands : Naming → List Sum → List Operand
sums_operands at [] = []
sums_operands at (sum ∷ sums) = sum_operand (under at 0) sum ∷ sums_operands (under at 1) sums

-- Values. A borrow makes a pointer to its place; a raw pointer is copied by a load of its variable.

abbrev pub borrow_shape : List Ty → Borrow → Shape
borrow_shape types borrow = Part (spot_shape types borrow.operand) (Own (temp (ty.Pointer (kind_of borrow.kind))) End)

abbrev pub borrow_lines : Naming → List Declared → Borrow → List MirLine
borrow_lines at variables borrow =
    spot_lines (under at 0) variables borrow.operand
    ++ put (line.Set (own at 1) (Ref (kind_of borrow.kind) (spot_place (under at 0) variables borrow.operand))) borrow.span ∷ []

abbrev pub value_shape : List Ty → Value → Shape
value_shape types (value.Sum sum) = sum_shape types sum
value_shape types (value.Borrow borrow) = borrow_shape types borrow
value_shape types (value.Pointer variable) = load_shape types (type_at types variable.number) (spot.Variable variable)

abbrev pub value_lines : Naming → List Declared → Value → List MirLine
value_lines at variables (value.Sum sum) = sum_lines at variables sum
value_lines at variables (value.Borrow borrow) = borrow_lines at variables borrow
value_lines at variables (value.Pointer variable) = load_lines at variables (spot.Variable variable)

abbrev pub value_operand : Naming → Value → Operand
value_operand at (value.Sum sum) = sum_operand at sum
value_operand at (value.Borrow borrow) = Temp (own at 1)
value_operand at (value.Pointer variable) = Temp (own at 1)

abbrev pub value_span : Value → Span
value_span (value.Sum sum) = sum_span sum
value_span (value.Borrow borrow) = borrow.span
value_span (value.Pointer variable) = variable.span

-- A right side. `unsafe { .. }` adds no lines to those of its value.

abbrev pub right_shape : List Ty → Right → Shape
right_shape types right = value_shape types (right_value right)

abbrev pub right_lines : Naming → List Declared → Right → List MirLine
right_lines at variables right = value_lines at variables (right_value right)

abbrev pub right_operand : Naming → Right → Operand
right_operand at right = value_operand at (right_value right)

abbrev pub right_span : Right → Span
right_span (right.Plain value) = value_span value
right_span (right.Unsafe block) = block.span

-- Statements. One that brings in temporaries takes their values away at its end.

abbrev pub clear_lines : Span → List ℕ → List MirLine
clear_lines span [] = []
clear_lines span (temp ∷ temps) = put (line.Clear (temp ∷ temps)) span ∷ []

abbrev pub clears : Naming → Span → Shape → List MirLine
clears at span shape = clear_lines span (map at (ways shape))

-- a `let` computes its value, and then its variable begins to live and takes it
abbrev pub let_shape : List Ty → Let → Shape
let_shape types binding = Part (right_shape types binding.value) (Own (variable (ty_of binding.ty)) End)

abbrev pub let_lines : Naming → List Declared → Let → List MirLine
let_lines at variables binding =
    right_lines (under at 0) variables binding.value
    ++ (put (line.Live (own at 1)) binding.span
    ∷ put (line.Store (variable_place (own at 1)) (right_operand (under at 0) binding.value)) binding.span
    ∷ clears (under at 0) binding.span (right_shape (types_of variables) binding.value))

-- an assignment computes its value and then its place, and stores the value
abbrev pub assign_shape : List Ty → Assign → Shape
assign_shape types assign = Part (right_shape types assign.value) (Part (spot_shape types assign.target) End)

-- an assignment without its semicolon
abbrev pub assign_span : Assign → Span
assign_span assign = record { lo = (spot_span assign.target).lo; hi = (right_span assign.value).hi }

abbrev pub assign_lines : Naming → List Declared → Assign → List MirLine
assign_lines at variables assign =
    right_lines (under at 0) variables assign.value
    ++ (spot_lines (under at 1) variables assign.target
    ++ (put (line.Store (spot_place (under at 1) variables assign.target) (right_operand (under at 0) assign.value)) (assign_span assign)
    ∷ clears at assign.span (assign_shape (types_of variables) assign)))

-- a print computes its arguments
abbrev pub print_shape : List Ty → Print → Shape
print_shape types print = sums_shape types print.arguments

abbrev pub print_lines : Naming → List Declared → Print → List MirLine
print_lines at variables print =
    sums_lines at variables print.arguments
    ++ (put (line.Print print.newline print.text.source (sums_operands at print.arguments)) print.call
    ∷ clears at print.span (print_shape (types_of variables) print))

-- the statements of an `unsafe` block
abbrev pub inner_shape : List Ty → Inner → Shape
inner_shape types (inner.Assign assign) = assign_shape types assign
inner_shape types (inner.Print print) = print_shape types print

abbrev pub inner_lines : Naming → List Declared → Inner → List MirLine
inner_lines at variables (inner.Assign assign) = assign_lines at variables assign
inner_lines at variables (inner.Print print) = print_lines at variables print

abbrev pub inners_shape : List Ty → List Inner → Shape
inners_shape types [] = End
inners_shape types (inner ∷ inners) = Part (inner_shape types inner) (Part (inners_shape types inners) End)

abbrev pub inners_lines : Naming → List Declared → List Inner → List MirLine
inners_lines at variables [] = []
inners_lines at variables (inner ∷ inners) = inner_lines (under at 0) variables inner ++ inners_lines (under at 1) variables inners

-- An `unsafe` block as a statement takes the values of all its temporaries away once more at its end. As the last of a body
-- it is the body's value, and does not.
abbrev pub unsafe_lines : Naming → List Declared → Bool → UnsafeBlock → List MirLine
unsafe_lines at variables is_last block =
    inners_lines at variables block.statements
    ++ (if is_last then [] else clears at block.span (inners_shape (types_of variables) block.statements))

abbrev pub statement_shape : List Ty → Statement → Shape
statement_shape types (statement.Let binding) = let_shape types binding
statement_shape types (statement.Assign assign) = assign_shape types assign
statement_shape types (statement.Print print) = print_shape types print
statement_shape types (statement.Unsafe block) = inners_shape types block.statements

-- behind these variables; whether it is the last of the body
abbrev pub statement_lines : Naming → List Declared → Bool → Statement → List MirLine
statement_lines at variables is_last (statement.Let binding) = let_lines at variables binding
statement_lines at variables is_last (statement.Assign assign) = assign_lines at variables assign
statement_lines at variables is_last (statement.Print print) = print_lines at variables print
statement_lines at variables is_last (statement.Unsafe block) = unsafe_lines at variables is_last block

-- the types of the variables that a statement declares
abbrev pub declared_types : Statement → List Ty
declared_types (statement.Let binding) = ty_of binding.ty ∷ []
declared_types (statement.Assign assign) = []
declared_types (statement.Print print) = []
declared_types (statement.Unsafe block) = []

-- and these variables
abbrev pub declared : Naming → Statement → List Declared
declared at (statement.Let binding) = record { local = own at 1; ty = ty_of binding.ty } ∷ []
declared at (statement.Assign assign) = []
declared at (statement.Print print) = []
declared at (statement.Unsafe block) = []

abbrev pub is_none : List Statement → Bool
is_none [] = true
is_none (statement ∷ statements) = false

abbrev pub statements_shape : List Ty → List Statement → Shape
statements_shape types [] = End
statements_shape types (statement ∷ statements) =
    Part (statement_shape types statement) (Part (statements_shape (types ++ declared_types statement) statements) End)

abbrev pub statements_lines : Naming → List Declared → List Statement → List MirLine
statements_lines at variables [] = []
statements_lines at variables (statement ∷ statements) =
    statement_lines (under at 0) variables (is_none statements) statement
    ++ statements_lines (under at 1) (variables ++ declared (under at 0) statement) statements

abbrev pub all_declared : Naming → List Declared → List Statement → List Declared
all_declared at variables [] = variables
all_declared at variables (statement ∷ statements) =
    all_declared (under at 1) (variables ++ declared (under at 0) statement) statements

-- The function `main`.

-- at the end of a block its variables end in reverse order
abbrev pub scope_end : Span → List Declared → List MirLine
scope_end span variables = map (λ variable. put (line.Dead variable.local) span) (reverse variables)

-- the result, and then what the body brings in
abbrev pub main_shape : SmallTree → Shape
main_shape tree = Own (temp ty.Unit) (Part (statements_shape [] tree.body.statements) End)

-- the body, the end of its block, the result `()`, and the return
abbrev pub main_lines : Naming → SmallTree → List MirLine
main_lines at tree =
    statements_lines (under at 1) [] tree.body.statements
    ++ (scope_end tree.body.span (all_declared (under at 1) [] tree.body.statements)
    ++ (put (line.Set (own at 0) (Use (Const constant.Unit))) tree.function ∷ put line.Return tree.function ∷ []))

abbrev pub main_of : SmallTree → Func
main_of tree =
    record {
      name = codes "main";
      params = [];
      locals = brings (main_shape tree);
      blocks = record { lines = main_lines (number 0 (main_shape tree)) tree } ∷ [];
    }

-- the program that a source is lowered to
abbrev pub lowered : SmallTree → Mir
lowered tree = record { funcs = main_of tree ∷ [] }

-- but for its retags, the middle representation is what the source is lowered to
abbrev pub Realises : SmallTree → Mir → Type 0
Realises tree mir = without_retags mir ≡ lowered tree
