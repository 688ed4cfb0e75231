-- How many locals a source brings in.
use Rattle.std.proofs.Common.{◌≡◌, ◌≤◌, ◌+◌, List, [], ◌∷◌, ◌++◌, sum_by, refl, arith}
use Rattle.std.proofs.lemmas.List.Sums.{sum_by-cons}
use Rattle.tb_small.specs.Grammar.{atom_locals, sum_locals, spot_locals, value_locals, right_value, inner_locals, statement_locals, locals}
use Rattle.tb_small.specs.declared.tree.SmallTree.{SmallTree}
use Rattle.tb_small.specs.declared.tree.Spot.{Spot}
use Rattle.tb_small.specs.declared.tree.Spot.TheVariants as spot
use Rattle.tb_small.specs.declared.tree.Atom.{Atom}
use Rattle.tb_small.specs.declared.tree.Atom.TheVariants as atom
use Rattle.tb_small.specs.declared.tree.Sum.{Sum}
use Rattle.tb_small.specs.declared.tree.Value.{Value}
use Rattle.tb_small.specs.declared.tree.Value.TheVariants as value
use Rattle.tb_small.specs.declared.tree.Inner.{Inner}
use Rattle.tb_small.specs.declared.tree.Inner.TheVariants as inner
use Rattle.tb_small.specs.declared.tree.Statement.{Statement}
use Rattle.tb_small.specs.declared.tree.Statement.TheVariants as statement
use Rattle.tb_mir.specs.declared.mir.Ty.{Ty}
use Rattle.tb_lower.specs.Lowering.{declared_types, spot_shape, atom_shape, more_shape, sum_shape, sums_shape, value_shape, inner_shape, inners_shape, statement_shape, statements_shape, main_shape}
use Rattle.tb_lower.specs.Ways.{count}

spot_count : (types : List Ty) (s : Spot) → count (spot_shape types s) ≡ spot_locals s
spot_count types (spot.Variable variable) = refl
spot_count types (spot.Deref deref) = refl

atom_count : (types : List Ty) (a : Atom) → count (atom_shape types a) ≡ atom_locals a
atom_count types (atom.Int int) = refl
atom_count types (atom.Variable variable) = refl
atom_count types (atom.Deref deref) = refl

more_count : (types : List Ty) (atoms : List Atom) → count (more_shape types atoms) ≡ sum_by (λ a. atom_locals a + 1) atoms
more_count types [] = refl
more_count types (a ∷ atoms) =
    let first = atom_count types a in
    let more = more_count types atoms in
    let whole = sum_by-cons (λ x. atom_locals x + 1) a atoms in
    omega arith

sum_count : (types : List Ty) (sum : Sum) → count (sum_shape types sum) ≡ sum_locals sum
sum_count types sum =
    let first = atom_count types sum.first in
    let more = more_count types sum.rest in
    omega arith

sums_count : (types : List Ty) (sums : List Sum) → count (sums_shape types sums) ≡ sum_by sum_locals sums
sums_count types [] = refl
sums_count types (sum ∷ sums) =
    let first = sum_count types sum in
    let more = sums_count types sums in
    let whole = sum_by-cons sum_locals sum sums in
    omega arith

value_count : (types : List Ty) (v : Value) → count (value_shape types v) ≡ value_locals v
value_count types (value.Sum sum) = sum_count types sum
value_count types (value.Borrow borrow) = let place = spot_count types borrow.operand in omega arith
value_count types (value.Pointer variable) = refl

inner_count : (types : List Ty) (i : Inner) → count (inner_shape types i) ≡ inner_locals i
inner_count types (inner.Assign assign) =
    let value = value_count types (right_value assign.value) in
    let target = spot_count types assign.target in
    omega arith
inner_count types (inner.Print print) = sums_count types print.arguments

inners_count : (types : List Ty) (inners : List Inner) → count (inners_shape types inners) ≡ sum_by inner_locals inners
inners_count types [] = refl
inners_count types (i ∷ inners) =
    let first = inner_count types i in
    let more = inners_count types inners in
    let whole = sum_by-cons inner_locals i inners in
    omega arith

statement_count : (types : List Ty) (s : Statement) → count (statement_shape types s) ≡ statement_locals s
statement_count types (statement.Let binding) = let value = value_count types (right_value binding.value) in omega arith
statement_count types (statement.Assign assign) = inner_count types (inner.Assign assign)
statement_count types (statement.Print print) = sums_count types print.arguments
statement_count types (statement.Unsafe block) = inners_count types block.statements

statements_count : (types : List Ty) (list : List Statement) → count (statements_shape types list) ≡ sum_by statement_locals list
statements_count types [] = refl
statements_count types (s ∷ list) =
    let first = statement_count types s in
    let more = statements_count (types ++ declared_types s) list in
    let whole = sum_by-cons statement_locals s list in
    omega arith

-- there is room for them
pub has_room : (tree : SmallTree) → locals tree.body.statements ≤ 4096 → count (main_shape tree) ≤ 4096
has_room tree few = let all = statements_count [] tree.body.statements in omega arith
