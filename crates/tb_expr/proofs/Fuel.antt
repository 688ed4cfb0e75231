-- Reading expressions takes one step of its depth.
use Rattle.std.proofs.Common.{◌≡◌, ◌≢◌, ℕ, suc, ◌-◌, Option, None, refl, sym, ap, ◌∙◌, arith}
use Rattle.tb_ast.specs.declared.expression.Expr.{Expr}
use Rattle.tb_syntax.specs.Reading.{◌>>=◌}
use Rattle.tb_syntax.specs.State.{State}
use Rattle.tb_forms.specs.declared.place.Where.{Where}
use Rattle.tb_expr.specs.Exprs.{operand_at, longest_at, expr_at}

pub expr_suc : (depth : ℕ) (place : Where) (most : ℕ) (state : State) → expr_at (suc depth) place most state ≡ (operand_at depth (expr_at depth) place state >>= λ x. longest_at depth (expr_at depth) place most (suc depth) x.0 x.1)
unfolding expr_at
expr_suc depth place most state = refl

pub expr_none : (depth : ℕ) (place : Where) (most : ℕ) (state : State) → depth ≡ 0 → expr_at depth place most state ≡ None
unfolding expr_at
expr_none depth place most state e = rw e refl

abbrev pub read_with : ℕ → ℕ → Where → ℕ → State → Option (Expr × State)
read_with inner steps place most state = operand_at inner (expr_at inner) place state >>= λ x. longest_at inner (expr_at inner) place most steps x.0 x.1

pub expr_some : (depth : ℕ) (place : Where) (most : ℕ) (state : State) → depth ≢ 0
    → expr_at depth place most state ≡ (operand_at (depth - 1) (expr_at (depth - 1)) place state >>= λ x. longest_at (depth - 1) (expr_at (depth - 1)) place most depth x.0 x.1)
expr_some depth place most state e =
    let fuel : depth ≡ suc (depth - 1) = omega arith in
    ap (λ n. expr_at n place most state) fuel ∙ expr_suc (depth - 1) place most state ∙ ap (λ n. read_with (depth - 1) n place most state) (sym fuel)

pub ruleset expressions = (expr_none, expr_some)
