-- What the reader of conditions promises, from what it gives.
use Rattle.std.proofs.Common.{◌≡◌, ℕ, ◌<◌, ◌≤◌, Some, Result, arith}
use Rattle.std.specs.Prelude.{IfOk, IsErrOf}
use Rattle.tb_ast.specs.declared.expression.Expr.{Expr}
use Rattle.tb_ast.specs.Depth.{expr_depth}
use Rattle.tb_syntax.specs.declared.error.ReadError.{ReadError}
use Rattle.tb_syntax.specs.declared.error.ReadError.TheVariants as errors
use Rattle.tb_syntax.specs.Reading.{Gives}
use Rattle.tb_syntax.specs.State.{State}
use Rattle.tb_forms.specs.declared.place.Where.TheVariants.{Condition}
use Rattle.tb_forms.specs.Levels.{loosest_level}
use Rattle.tb_expr.specs.Exprs.{expr_at}
use Rattle.tb_expr.specs.Grammar.{IsWholeAt}
use Rattle.tb_expr.proofs.CompleteAll.{whole-complete}
use Rattle.tb_expr.proofs.SoundAll.{expr-sound}
use Rattle.tb_expr.proofs.Ways.{is_read, is_refused}

abbrev same : {X : Type 0} → X → X
same x = x

complete : (depth : ℕ) (state : State) (e : Expr) (rest : State) → IsWholeAt Condition loosest_level state e rest → expr_depth e ≤ depth → expr_at depth Condition loosest_level state ≡ Some (e, rest)
complete depth state e rest is within = whole-complete Condition loosest_level state e rest is depth within (omega arith)

taken : (depth : ℕ) (state : State) (e : Expr) (rest : State) → expr_at depth Condition loosest_level state ≡ Some (e, rest) → IsWholeAt Condition loosest_level state e rest
taken depth state e rest h = expr-sound depth Condition loosest_level state e rest (omega arith) h

pub condition-read : (depth : ℕ) (state : State) (r : Result (Expr × State) ReadError) → Gives same r (expr_at depth Condition loosest_level state) → IfOk r (λ y. IsWholeAt Condition loosest_level state y.0 y.1)
condition-read depth state = is_read (expr_at depth Condition loosest_level state) (IsWholeAt Condition loosest_level state) expr_depth depth (taken depth state)

pub condition-refused : (depth : ℕ) (state : State) (r : Result (Expr × State) ReadError) → Gives same r (expr_at depth Condition loosest_level state) → IsErrOf r errors.Unexpected → (e : Expr) (rest : State) → IsWholeAt Condition loosest_level state e rest → depth < expr_depth e
condition-refused depth state = is_refused (expr_at depth Condition loosest_level state) (IsWholeAt Condition loosest_level state) expr_depth depth (complete depth state)
