-- What the lowering asks of a source: each mention is of a variable that is there, and each literal fits.
use Rattle.std.specs.Prelude.{ℕ, ◌+◌, ◌<◌, ◌≤◌, List, [], ◌∷◌, length, ⊤}
use Rattle.std.specs.List.{AllByRecursion}
use Rattle.tb_small.specs.Grammar.{bindings, right_value}
use Rattle.tb_small.specs.declared.tree.Atom.{Atom}
use Rattle.tb_small.specs.declared.tree.Atom.TheVariants as atom
use Rattle.tb_small.specs.declared.tree.Spot.{Spot}
use Rattle.tb_small.specs.declared.tree.Spot.TheVariants as spot
use Rattle.tb_small.specs.declared.tree.Sum.{Sum}
use Rattle.tb_small.specs.declared.tree.Value.{Value}
use Rattle.tb_small.specs.declared.tree.Value.TheVariants as value
use Rattle.tb_small.specs.declared.tree.Right.{Right}
use Rattle.tb_small.specs.declared.tree.Assign.{Assign}
use Rattle.tb_small.specs.declared.tree.Print.{Print}
use Rattle.tb_small.specs.declared.tree.Inner.{Inner}
use Rattle.tb_small.specs.declared.tree.Inner.TheVariants as inner
use Rattle.tb_small.specs.declared.tree.Statement.{Statement}
use Rattle.tb_small.specs.declared.tree.Statement.TheVariants as statement

-- behind this many lets
abbrev pub IsSpotReady : ℕ → Spot → Type 0
IsSpotReady lets (spot.Variable variable) = variable.number < lets
IsSpotReady lets (spot.Deref deref) = deref.variable.number < lets

abbrev pub IsAtomReady : ℕ → Atom → Type 0
IsAtomReady lets (atom.Int int) = int.value ≤ 2147483647
IsAtomReady lets (atom.Variable variable) = variable.number < lets
IsAtomReady lets (atom.Deref deref) = deref.variable.number < lets

abbrev pub IsSumReady : ℕ → Sum → Type 0
IsSumReady lets sum = IsAtomReady lets sum.first × AllByRecursion (IsAtomReady lets) sum.rest

abbrev pub IsValueReady : ℕ → Value → Type 0
IsValueReady lets (value.Sum sum) = IsSumReady lets sum
IsValueReady lets (value.Borrow borrow) = IsSpotReady lets borrow.operand
IsValueReady lets (value.Pointer variable) = variable.number < lets

abbrev pub IsRightReady : ℕ → Right → Type 0
IsRightReady lets right = IsValueReady lets (right_value right)

abbrev pub IsAssignReady : ℕ → Assign → Type 0
IsAssignReady lets assign = IsSpotReady lets assign.target × IsRightReady lets assign.value

abbrev pub IsPrintReady : ℕ → Print → Type 0
IsPrintReady lets print = AllByRecursion (IsSumReady lets) print.arguments

abbrev pub IsInnerReady : ℕ → Inner → Type 0
IsInnerReady lets (inner.Assign assign) = IsAssignReady lets assign
IsInnerReady lets (inner.Print print) = IsPrintReady lets print

abbrev pub IsStatementReady : ℕ → Statement → Type 0
IsStatementReady lets (statement.Let binding) = IsRightReady lets binding.value
IsStatementReady lets (statement.Assign assign) = IsAssignReady lets assign
IsStatementReady lets (statement.Print print) = IsPrintReady lets print
IsStatementReady lets (statement.Unsafe block) = AllByRecursion (IsInnerReady lets) block.statements

abbrev pub AreReady : ℕ → List Statement → Type 0
AreReady lets [] = ⊤
AreReady lets (statement ∷ statements) = IsStatementReady lets statement × AreReady (lets + length (bindings statement)) statements
