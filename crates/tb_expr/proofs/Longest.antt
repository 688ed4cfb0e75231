-- The rounds of the loop that goes on behind an operand.
use Rattle.std.proofs.Common.{◌≡◌, ℕ, suc, ◌+◌, ◌-◌, ◌<◌, ◌≤◌, true, false, Option, Some, None, refl, sym, ap, ◌∙◌, arith}
use Rattle.tb_ast.specs.declared.expression.Expr.{Expr}
use Rattle.tb_syntax.specs.declared.error.ReadError.{ReadError}
use Rattle.tb_syntax.specs.declared.error.ReadError.TheVariants as errors
use Rattle.tb_syntax.specs.Reading.{◌>>=◌, Fails}
use Rattle.tb_syntax.specs.State.{State}
use Rattle.tb_forms.specs.declared.place.Where.{Where}
use Rattle.tb_forms.specs.Levels.{level_of, goes_on}
use Rattle.tb_expr.specs.Exprs.{Reader, further_at, longest_at}

module _ (depth : ℕ) (one : Reader) (place : Where) (most : ℕ) where
  pub longest-zero : (e : Expr) (state : State) → longest_at depth one place most 0 e state ≡ None
  unfolding longest_at
  longest-zero e state = refl

  pub longest-ends : (fuel : ℕ) (e : Expr) (state : State) → goes_on (level_of e) most state ≡ false → longest_at depth one place most (suc fuel) e state ≡ Some (e, state)
  unfolding longest_at
  longest-ends fuel e state h = rw h refl

  pub longest-one : (fuel : ℕ) (e : Expr) (state : State) → goes_on (level_of e) most state ≡ true
      → longest_at depth one place most (suc fuel) e state ≡ (further_at depth one place e state >>= λ x. longest_at depth one place most fuel x.0 x.1)
  unfolding longest_at
  longest-one fuel e state h = rw h refl

  -- the loop has gone one step further
  pub one_step : (count i : ℕ) (e : Expr) (state : State) (longer : Expr) (after : State) (total : Option (Expr × State))
      → i < count → goes_on (level_of e) most state ≡ true → further_at depth one place e state ≡ Some (longer, after)
      → longest_at depth one place most (count - i) e state ≡ total → longest_at depth one place most (count - (i + 1)) longer after ≡ total
  one_step count i e state longer after total below go read so_far =
      let fuel : count - i ≡ suc (count - (i + 1)) = omega arith in
      let step : longest_at depth one place most (count - i) e state ≡ longest_at depth one place most (count - (i + 1)) longer after =
      ap (λ n. longest_at depth one place most n e state) fuel ∙ longest-one (count - (i + 1)) e state go ∙ rw read refl in
      sym step ∙ so_far

  -- the loop has come to where nothing goes on
  pub all_taken : (count i : ℕ) (e : Expr) (state : State) (total : Option (Expr × State))
      → i < count → goes_on (level_of e) most state ≡ false → longest_at depth one place most (count - i) e state ≡ total → total ≡ Some (e, state)
  all_taken count i e state total below stop so_far =
      let fuel : count - i ≡ suc (count - (i + 1)) = omega arith in
      sym so_far ∙ ap (λ n. longest_at depth one place most n e state) fuel ∙ longest-ends (count - (i + 1)) e state stop

  -- the loop could not go on
  pub no_step : (fault : ReadError) (count i : ℕ) (e : Expr) (state : State) (total : Option (Expr × State))
      → i < count → goes_on (level_of e) most state ≡ true → Fails fault (further_at depth one place e state)
      → longest_at depth one place most (count - i) e state ≡ total → Fails fault total
  no_step errors.Memory count i e state total below go read so_far = tt
  no_step errors.Unexpected count i e state total below go read so_far =
      let fuel : count - i ≡ suc (count - (i + 1)) = omega arith in
      let none : longest_at depth one place most (suc (count - (i + 1))) e state ≡ None = longest-one (count - (i + 1)) e state go ∙ rw read refl in
      sym so_far ∙ ap (λ n. longest_at depth one place most n e state) fuel ∙ none

  -- the loop has used up its fuel
  pub steps_out : (count i : ℕ) (e : Expr) (state : State) (total : Option (Expr × State))
      → count ≤ i → longest_at depth one place most (count - i) e state ≡ total → total ≡ None
  steps_out count i e state total past so_far =
      let fuel : count - i ≡ 0 = omega arith in
      sym so_far ∙ ap (λ n. longest_at depth one place most n e state) fuel ∙ longest-zero e state

pub ruleset steps = (one_step, all_taken, no_step, steps_out)
