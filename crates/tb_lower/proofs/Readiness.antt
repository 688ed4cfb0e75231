-- A source within the limits, whose names have a meaning, is ready.
use Rattle.std.proofs.Common.{Bool, true, false, List, [], ◌∷◌, ◌++◌, length, subst, length-append}
use Rattle.std.specs.List.{AllByRecursion, flat_map}
use Rattle.tb_small.specs.Grammar.{bindings, IsSpot, IsTarget, IsAtom, IsSum, IsValue, IsRight, IsAssign, IsInner, IsStatement, AreStatements, IsAtomWithin, IsSumWithin, right_value, value_sums, inner_sums, sums}
use Rattle.tb_small.specs.Scope.{Binding}
use Rattle.tb_small.specs.declared.tree.Spot.{Spot}
use Rattle.tb_small.specs.declared.tree.Spot.TheVariants as spot
use Rattle.tb_small.specs.declared.tree.Atom.{Atom}
use Rattle.tb_small.specs.declared.tree.Atom.TheVariants as atom
use Rattle.tb_small.specs.declared.tree.Sum.{Sum}
use Rattle.tb_small.specs.declared.tree.Value.{Value}
use Rattle.tb_small.specs.declared.tree.Value.TheVariants as value
use Rattle.tb_small.specs.declared.tree.Right.{Right}
use Rattle.tb_small.specs.declared.tree.Right.TheVariants as right
use Rattle.tb_small.specs.declared.tree.Assign.{Assign}
use Rattle.tb_small.specs.declared.tree.Inner.{Inner}
use Rattle.tb_small.specs.declared.tree.Inner.TheVariants as inner
use Rattle.tb_small.specs.declared.tree.Statement.{Statement}
use Rattle.tb_small.specs.declared.tree.Statement.TheVariants as statement
use Rattle.tb_lower.specs.Ready.{IsSpotReady, IsAtomReady, IsSumReady, IsValueReady, IsRightReady, IsAssignReady, IsInnerReady, IsStatementReady, AreReady}

operand_ready : (scope : List Binding) (inside : Bool) (s : Spot) → IsSpot scope inside s → IsSpotReady (length scope) s
operand_ready scope inside (spot.Variable variable) is = is.0.is_there
operand_ready scope inside (spot.Deref deref) is = is.1.is_there

target_ready : (scope : List Binding) (inside : Bool) (s : Spot) → IsTarget scope inside s → IsSpotReady (length scope) s
target_ready scope inside (spot.Variable variable) is = is.0.is_there
target_ready scope inside (spot.Deref deref) is = is.0.1.is_there

atom_ready : (scope : List Binding) (inside : Bool) (a : Atom) → IsAtom scope inside a → IsAtomWithin a → IsAtomReady (length scope) a
atom_ready scope inside (atom.Int int) is within = within
atom_ready scope inside (atom.Variable variable) is within = is.0.is_there
atom_ready scope inside (atom.Deref deref) is within = is.1.is_there

atoms_ready : (scope : List Binding) (inside : Bool) (more : List Atom) → AllByRecursion (IsAtom scope inside) more → AllByRecursion IsAtomWithin more → AllByRecursion (IsAtomReady (length scope)) more
atoms_ready scope inside [] is within = tt
atoms_ready scope inside (a ∷ more) is within = (atom_ready scope inside a is.0 within.0, atoms_ready scope inside more is.1 within.1)

sum_ready : (scope : List Binding) (inside : Bool) (sum : Sum) → IsSum scope inside sum → IsSumWithin sum → IsSumReady (length scope) sum
sum_ready scope inside sum is within = (atom_ready scope inside sum.first is.0 within.1.0, atoms_ready scope inside sum.rest is.1 within.1.1)

sums_ready : (scope : List Binding) (inside : Bool) (list : List Sum) → AllByRecursion (IsSum scope inside) list → AllByRecursion IsSumWithin list → AllByRecursion (IsSumReady (length scope)) list
sums_ready scope inside [] is within = tt
sums_ready scope inside (sum ∷ list) is within = (sum_ready scope inside sum is.0 within.0, sums_ready scope inside list is.1 within.1)

value_ready : (scope : List Binding) (inside : Bool) (v : Value) → IsValue scope inside v → AllByRecursion IsSumWithin (value_sums v) → IsValueReady (length scope) v
value_ready scope inside (value.Sum sum) is within = sum_ready scope inside sum is within.0
value_ready scope inside (value.Borrow borrow) is within = operand_ready scope inside borrow.operand is.1
value_ready scope inside (value.Pointer variable) is within = is.0.is_there

right_ready : (scope : List Binding) (inside : Bool) (r : Right) → IsRight scope inside r → AllByRecursion IsSumWithin (value_sums (right_value r)) → IsRightReady (length scope) r
right_ready scope inside (right.Plain value) is within = value_ready scope inside value is within
right_ready scope inside (right.Unsafe block) is within = value_ready scope true block.value is within

assign_ready : (scope : List Binding) (inside : Bool) (a : Assign) → IsAssign scope inside a → AllByRecursion IsSumWithin (value_sums (right_value a.value)) → IsAssignReady (length scope) a
assign_ready scope inside a is within = (target_ready scope inside a.target is.1, right_ready scope inside a.value is.2 within)

inner_ready : (scope : List Binding) (i : Inner) → IsInner scope i → AllByRecursion IsSumWithin (inner_sums i) → IsInnerReady (length scope) i
inner_ready scope (inner.Assign assign) is within = assign_ready scope true assign is within
inner_ready scope (inner.Print print) is within = sums_ready scope true print.arguments is.2 within

-- what holds of two lists together holds of each
first_of_both : (a b : List Sum) → AllByRecursion IsSumWithin (a ++ b) → AllByRecursion IsSumWithin a
first_of_both [] b within = tt
first_of_both (sum ∷ a) b within = (within.0, first_of_both a b within.1)

second_of_both : (a b : List Sum) → AllByRecursion IsSumWithin (a ++ b) → AllByRecursion IsSumWithin b
second_of_both [] b within = within
second_of_both (sum ∷ a) b within = second_of_both a b within.1

inners_ready : (scope : List Binding) (list : List Inner) → AllByRecursion (IsInner scope) list → AllByRecursion IsSumWithin (flat_map inner_sums list) → AllByRecursion (IsInnerReady (length scope)) list
inners_ready scope [] is within = tt
inners_ready scope (i ∷ list) is within = (
  inner_ready scope i is.0 (first_of_both (inner_sums i) (flat_map inner_sums list) within),
  inners_ready scope list is.1 (second_of_both (inner_sums i) (flat_map inner_sums list) within),
)

statement_ready : (scope : List Binding) (s : Statement) → IsStatement scope s → AllByRecursion IsSumWithin (sums s) → IsStatementReady (length scope) s
statement_ready scope (statement.Let binding) is within = right_ready scope false binding.value is.1 within
statement_ready scope (statement.Assign assign) is within = assign_ready scope false assign is within
statement_ready scope (statement.Print print) is within = sums_ready scope false print.arguments is.2 within
statement_ready scope (statement.Unsafe block) is within = inners_ready scope block.statements is within

pub are_ready : (scope : List Binding) (list : List Statement) → AreStatements scope list → AllByRecursion (λ s. AllByRecursion IsSumWithin (sums s)) list → AreReady (length scope) list
are_ready scope [] are within = tt
are_ready scope (s ∷ list) are within =
    (statement_ready scope s are.0 within.0, subst (λ n. AreReady n list) (length-append scope (bindings s)) (are_ready (scope ++ bindings s) list are.1 within.1))
