-- The lines that a source is lowered to have no retags.
use Rattle.std.proofs.Common.{◌≡◌, Bool, true, false, if◌then◌else◌, ℕ, List, [], ◌∷◌, ◌++◌, map, reverse, codes, refl, ap, ◌∙◌}
use Rattle.std.specs.List.{AllByRecursion}
use Rattle.tb_perm.specs.declared.span.Span.{Span}
use Rattle.tb_small.specs.declared.tree.SmallTree.{SmallTree}
use Rattle.tb_small.specs.declared.tree.Spot.{Spot}
use Rattle.tb_small.specs.declared.tree.Spot.TheVariants as spot
use Rattle.tb_small.specs.declared.tree.Atom.{Atom}
use Rattle.tb_small.specs.declared.tree.Atom.TheVariants as atom
use Rattle.tb_small.specs.declared.tree.Sum.{Sum}
use Rattle.tb_small.specs.declared.tree.Value.{Value}
use Rattle.tb_small.specs.declared.tree.Value.TheVariants as value
use Rattle.tb_small.specs.declared.tree.Let.{Let}
use Rattle.tb_small.specs.declared.tree.Assign.{Assign}
use Rattle.tb_small.specs.declared.tree.Print.{Print}
use Rattle.tb_small.specs.declared.tree.UnsafeBlock.{UnsafeBlock}
use Rattle.tb_small.specs.declared.tree.Inner.{Inner}
use Rattle.tb_small.specs.declared.tree.Inner.TheVariants as inner
use Rattle.tb_small.specs.declared.tree.Statement.{Statement}
use Rattle.tb_small.specs.declared.tree.Statement.TheVariants as statement
use Rattle.tb_small.specs.Grammar.{right_value}
use Rattle.tb_mir.specs.Retags.{is_retag, bare_lines, without_retags}
use Rattle.tb_mir.specs.declared.line.Line.TheVariants.{Dead}
use Rattle.tb_mir.specs.declared.line.MirLine.{MirLine}
use Rattle.tb_mir.specs.declared.operand.Operand.{Operand}
use Rattle.tb_mir.specs.declared.operand.Operand.TheVariants.{Temp}
use Rattle.tb_lower.specs.declared.lowering.Declared.{Declared}
use Rattle.tb_lower.specs.Lowering.{put, spot_lines, load_lines, atom_lines, atom_operand, more_lines, sum_lines, sums_lines, value_lines, clear_lines, let_lines, assign_lines, print_lines, inner_lines, inners_lines, unsafe_lines, statement_lines, statements_lines, is_none, declared, all_declared, main_shape, main_lines, lowered}
use Rattle.tb_lower.specs.Ways.{Naming, under, own, number, brings}

-- no retag is among the lines
pub record Bare (lines : List MirLine) : Type 0 where
  pub none : AllByRecursion (λ it. is_retag it.line ≡ false) lines

empty : Bare []
empty = record { none = tt }

-- a line, and others
next : {it : MirLine} {rest : List MirLine} → is_retag it.line ≡ false → Bare rest → Bare (it ∷ rest)
next it rest = record { none = (it, rest.none) }

all_both : (a b : List MirLine) → AllByRecursion (λ it. is_retag it.line ≡ false) a → AllByRecursion (λ it. is_retag it.line ≡ false) b → AllByRecursion (λ it. is_retag it.line ≡ false) (a ++ b)
all_both [] b here there = there
all_both (it ∷ a) b here there = (here.0, all_both a b here.1 there)

both : {a b : List MirLine} → Bare a → Bare b → Bare (a ++ b)
both {a = a} {b = b} here there = record { none = all_both a b here.none there.none }

-- such lines are as they are without retags
all_same : (lines : List MirLine) → AllByRecursion (λ it. is_retag it.line ≡ false) lines → bare_lines lines ≡ lines
all_same [] none = refl
all_same (it ∷ lines) none = ap (λ b. if b then bare_lines lines else it ∷ bare_lines lines) none.0 ∙ ap (λ l. it ∷ l) (all_same lines none.1)

spot_bare : (at : Naming) (variables : List Declared) (s : Spot) → Bare (spot_lines at variables s)
spot_bare at variables (spot.Variable variable) = empty
spot_bare at variables (spot.Deref deref) = next refl empty

load_bare : (at : Naming) (variables : List Declared) (s : Spot) → Bare (load_lines at variables s)
load_bare at variables s = both (spot_bare (under at 0) variables s) (next refl empty)

atom_bare : (at : Naming) (variables : List Declared) (a : Atom) → Bare (atom_lines at variables a)
atom_bare at variables (atom.Int int) = empty
atom_bare at variables (atom.Variable variable) = load_bare at variables (spot.Variable variable)
atom_bare at variables (atom.Deref deref) = load_bare at variables (spot.Deref deref)

more_bare : (at : Naming) (variables : List Declared) (first : Atom) (left : Operand) (atoms : List Atom) → Bare (more_lines at variables first left atoms)
more_bare at variables first left [] = empty
more_bare at variables first left (a ∷ atoms) =
    both (atom_bare (under at 0) variables a) (next refl (more_bare (under at 2) variables first (Temp (own at 1)) atoms))

sum_bare : (at : Naming) (variables : List Declared) (sum : Sum) → Bare (sum_lines at variables sum)
sum_bare at variables sum =
    both (atom_bare (under at 0) variables sum.first) (more_bare (under at 1) variables sum.first (atom_operand (under at 0) sum.first) sum.rest)

sums_bare : (at : Naming) (variables : List Declared) (sums : List Sum) → Bare (sums_lines at variables sums)
sums_bare at variables [] = empty
sums_bare at variables (sum ∷ sums) = both (sum_bare (under at 0) variables sum) (sums_bare (under at 1) variables sums)

value_bare : (at : Naming) (variables : List Declared) (v : Value) → Bare (value_lines at variables v)
value_bare at variables (value.Sum sum) = sum_bare at variables sum
value_bare at variables (value.Borrow borrow) = both (spot_bare (under at 0) variables borrow.operand) (next refl empty)
value_bare at variables (value.Pointer variable) = load_bare at variables (spot.Variable variable)

clear_bare : (span : Span) (temps : List ℕ) → Bare (clear_lines span temps)
clear_bare span [] = empty
clear_bare span (temp ∷ temps) = next refl empty

let_bare : (at : Naming) (variables : List Declared) (binding : Let) → Bare (let_lines at variables binding)
let_bare at variables binding =
    both (value_bare (under at 0) variables (right_value binding.value)) (next refl (next refl (clear_bare binding.span _)))

assign_bare : (at : Naming) (variables : List Declared) (assign : Assign) → Bare (assign_lines at variables assign)
assign_bare at variables assign =
    both (value_bare (under at 0) variables (right_value assign.value))
    (both (spot_bare (under at 1) variables assign.target) (next refl (clear_bare assign.span _)))

print_bare : (at : Naming) (variables : List Declared) (print : Print) → Bare (print_lines at variables print)
print_bare at variables print = both (sums_bare at variables print.arguments) (next refl (clear_bare print.span _))

inner_bare : (at : Naming) (variables : List Declared) (i : Inner) → Bare (inner_lines at variables i)
inner_bare at variables (inner.Assign assign) = assign_bare at variables assign
inner_bare at variables (inner.Print print) = print_bare at variables print

inners_bare : (at : Naming) (variables : List Declared) (inners : List Inner) → Bare (inners_lines at variables inners)
inners_bare at variables [] = empty
inners_bare at variables (i ∷ inners) = both (inner_bare (under at 0) variables i) (inners_bare (under at 1) variables inners)

unsafe_bare : (at : Naming) (variables : List Declared) (is_last : Bool) (block : UnsafeBlock) → Bare (unsafe_lines at variables is_last block)
unsafe_bare at variables true block = both (inners_bare at variables block.statements) empty
unsafe_bare at variables false block = both (inners_bare at variables block.statements) (clear_bare block.span _)

statement_bare : (at : Naming) (variables : List Declared) (is_last : Bool) (s : Statement) → Bare (statement_lines at variables is_last s)
statement_bare at variables is_last (statement.Let binding) = let_bare at variables binding
statement_bare at variables is_last (statement.Assign assign) = assign_bare at variables assign
statement_bare at variables is_last (statement.Print print) = print_bare at variables print
statement_bare at variables is_last (statement.Unsafe block) = unsafe_bare at variables is_last block

statements_bare : (at : Naming) (variables : List Declared) (list : List Statement) → Bare (statements_lines at variables list)
statements_bare at variables [] = empty
statements_bare at variables (s ∷ list) =
    both (statement_bare (under at 0) variables (is_none list) s) (statements_bare (under at 1) (variables ++ declared (under at 0) s) list)

ends_bare : (span : Span) (variables : List Declared) → Bare (map (λ variable. put (Dead variable.local) span) variables)
ends_bare span [] = empty
ends_bare span (variable ∷ variables) = next refl (ends_bare span variables)

main_bare : (at : Naming) (tree : SmallTree) → Bare (main_lines at tree)
main_bare at tree =
    both (statements_bare (under at 1) [] tree.body.statements)
    (both (ends_bare tree.body.span (reverse (all_declared (under at 1) [] tree.body.statements))) (next refl (next refl empty)))

-- a source is lowered to a program without retags
pub lowered_bare : (tree : SmallTree) → without_retags (lowered tree) ≡ lowered tree
lowered_bare tree =
    let lines = main_lines (number 0 (main_shape tree)) tree in
    ap (λ l. record { funcs = record { name = codes "main"; params = []; locals = brings (main_shape tree); blocks = record { lines = l } ∷ [] } ∷ [] })
    (all_same lines (main_bare (number 0 (main_shape tree)) tree).none)
