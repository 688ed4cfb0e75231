use Rattle.std.proofs.Common.{arith, ◌≡◌, ℕ}
use Rattle.tb_lex.specs.declared.punctuation.Punctuation.{Punctuation}
use Rattle.tb_lex.specs.declared.punctuation.Punctuation.TheVariants as punct_of
use Rattle.tb_ast.specs.declared.leaf.Mark.{Mark}
use Rattle.tb_syntax.specs.State.{State}
use Rattle.tb_forms.specs.Levels.{binary_of, assign_of}
use Rattle.tb_forms.specs.Steps.{operator_step, marked_step}
use Rattle.tb_forms.proofs.continuation.marked_step.Goals as goal

-- a mark that is no dot, no bracket and no `=` is an operator's or nothing
other_step : (depth : ℕ) (mark : Punctuation) (at : Mark) (rest : State) → (mark ≡ punct_of.Dot → ⊥) → (mark ≡ punct_of.OpenBracket → ⊥) → (mark ≡ punct_of.Eq → ⊥) → operator_step (binary_of mark) (assign_of mark) at rest ≡ marked_step depth mark at rest
other_step depth mark at rest dot bracket equals = grind (arith)

-- src/continuation.rt:105:1
pub returns-in_default : goal.returns-in_default
returns-in_default c =
    let e = other_step c.args.depth c.args.mark c.args.at c.args.rest c.in_default.not-Dot c.in_default.not-OpenBracket c.in_default.not-Eq in
    rw (← e) (rw (← c.binary_of.ensures, ← c.assign_of.ensures) c.operator_step.ensures)
