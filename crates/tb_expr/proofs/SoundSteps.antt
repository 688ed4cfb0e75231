-- What is read stands there: how an expression goes on behind an operand.
use Rattle.std.proofs.Common.{◌≡◌, ℕ, zero, suc, ◌≤◌, Bool, true, false, ◌&&◌, Some, refl, sym, subst, ap, ◌∙◌, inl, inr, rules, arith}
use Rattle.std.specs.Prelude.{nat_le}
use Rattle.std.proofs.lemmas.Bool.{leb-true}
use Rattle.tb_lex.specs.declared.punctuation.Punctuation.TheVariants.{CloseParen, CloseBracket}
use Rattle.tb_ast.specs.declared.operator.BinaryOp.{BinaryOp}
use Rattle.tb_ast.specs.declared.expression.Expr.{Expr, roll-Expr}
use Rattle.tb_syntax.specs.State.{State}
use Rattle.tb_syntax.specs.Marks.{punct_at}
use Rattle.tb_syntax.proofs.Options.{bind_some, chosen, some_is}
use Rattle.tb_syntax.proofs.Marks.{punct-sound}
use Rattle.tb_forms.specs.declared.place.Where.{Where}
use Rattle.tb_forms.specs.declared.step.Step.{Step}
use Rattle.tb_forms.specs.declared.step.Step.TheVariants as step
use Rattle.tb_forms.specs.Levels.{operand_alone, prefix_level, loosest_level, right_level, level_in, level_of, level_at, loosest_left, takes_on, goes_on}
use Rattle.tb_forms.specs.Trees.{field_of, tuple_field_of, method_call, index_of, cast_to, binary_with, assign_to, compute_to}
use Rattle.tb_forms.specs.Steps.{step_at, step_level, operand_level, IsStepAt}
use Rattle.tb_forms.specs.Closings.{method_call_at, index_at}
use Rattle.tb_forms.specs.declared.wanted.Got.{Got}
use Rattle.tb_forms.specs.Wants.{step_wants, step_finished_at}
use Rattle.tb_expr.specs.Exprs.{Reader, got_at, further_at, longest_at}
use Rattle.tb_expr.specs.Grammar.{IsExprAt, AField, ATupleField, AMethod, AnIndex, ACast, ABinary, AnAssign, AnAssignOp, IsWholeAt, AWhole}
use Rattle.tb_forms.proofs.StepSound.{step-sound}
use Rattle.tb_forms.proofs.Begins.{step-levels, step-operands, goes-nowhere}
use Rattle.tb_expr.proofs.Got.{IsGot, GotNothing, GotOne, GotValues, got-is}
use Rattle.tb_expr.proofs.Sound.{Sound, prefix-loosest, value-sound, exprs-take}
use Rattle.tb_expr.proofs.SoundOperands.{Form, level-roll}

-- the right operand of an operator may be a prefix
right-prefix : (operator : BinaryOp) → prefix_level ≤ right_level operator
right-prefix operator = search (rules, arith)

-- one step further, from where the left operand begins
pub record IsFurther (place : Where) (start : State) (s : Step) (y : Expr × State) : Type 0 where
  pub is : IsExprAt place start y.0 y.1
  pub level : level_of y.0 ≡ step_level s

-- by the form of the expression
stepped : (place : Where) (start : State) (s : Step) (row : Form) (rest : State) → level_in row ≡ step_level s → IsExprAt place start (roll-Expr row) rest → IsFurther place start s (roll-Expr row, rest)
stepped place start s row rest l is = record { is = is; level = level-roll row ∙ l }

-- both tests passed
both_true : (a b : Bool) → (a && b) ≡ true → (a ≡ true) × (b ≡ true)
both_true true true e = (refl, refl)
both_true true false e = absurd cc
both_true false b e = absurd cc

-- what goes on up to a level is of that level, and takes the operand before it
goes-within : (level most next : ℕ) (state : State) → level_at state ≡ Some next → goes_on level most state ≡ true → (next ≤ most) × (level ≤ loosest_left next)
unfolding goes_on
goes-within level most next state e go =
    let b = both_true (nat_le next most) (nat_le level (loosest_left next)) (sym (ap (takes_on level most) e) ∙ go) in
    (leb-true next most b.0, leb-true level (loosest_left next) b.1)

module _ (depth : ℕ) (one : Reader) (h : Sound one) (place : Where) (start : State) where
  abbrev Goal : Step → Expr × State → Type 0
  Goal s y = IsFurther place start s y

  -- each step
  behind-step-sound : (left : Expr) (s : Step) (behind state : State) (g : Got) (middle : State) (y : Expr × State) → IsExprAt place start left behind → level_of left ≤ operand_level s
      → IsStepAt depth behind s state → IsGot depth one (step_wants place s) state g middle → step_finished_at left s g middle ≡ Some y → Goal s y
  unfolding step_wants step_finished_at method_call_at index_at
  behind-step-sound left (step.Field dot name) behind state g middle y is l s GotNothing e =
      subst (Goal (step.Field dot name)) (some_is (field_of left dot name, state) y e) (stepped place start (step.Field dot name) _ state refl (AField left dot name behind is l s))
  behind-step-sound left (step.TupleField dot index) behind state g middle y is l s GotNothing e =
      subst (Goal (step.TupleField dot index)) (some_is (tuple_field_of left dot index, state) y e)
      (stepped place start (step.TupleField dot index) _ state refl (ATupleField left dot index behind is l s))
  behind-step-sound left (step.MethodCall dot name turbofish opening) behind state g middle y is l s (GotValues arguments commas read) e =
      let closing = bind_some (punct_at CloseParen middle) _ y e in
      subst (Goal (step.MethodCall dot name turbofish opening)) (some_is (method_call left dot name turbofish opening arguments commas closing.0.0, closing.0.1) y closing.2)
      (stepped place start (step.MethodCall dot name turbofish opening) _ closing.0.1 refl
      (AMethod left depth dot name turbofish opening arguments commas closing.0.0 behind state middle is l s
      (exprs-take depth one h CloseParen state ((arguments, commas), middle) read) (punct-sound CloseParen middle closing.0.0 closing.0.1 closing.1)))
  behind-step-sound left (step.Index opening) behind state g middle y is l s (GotOne index read) e =
      let closing = bind_some (punct_at CloseBracket middle) _ y e in
      subst (Goal (step.Index opening)) (some_is (index_of left opening index closing.0.0, closing.0.1) y closing.2)
      (stepped place start (step.Index opening) _ closing.0.1 refl
      (AnIndex left opening index closing.0.0 behind state middle is l s (value-sound depth one h state (index, middle) read) (punct-sound CloseBracket middle closing.0.0 closing.0.1 closing.1)))
  behind-step-sound left (step.Cast at ty) behind state g middle y is l s GotNothing e =
      subst (Goal (step.Cast at ty)) (some_is (cast_to left at ty, state) y e) (stepped place start (step.Cast at ty) _ state refl (ACast left depth at ty behind is l s))
  behind-step-sound left (step.Binary operator at) behind state g middle y is l s (GotOne right read) e =
      subst (Goal (step.Binary operator at)) (some_is (binary_with left operator at right, middle) y e)
      (stepped place start (step.Binary operator at) _ middle refl
      (ABinary left operator at right behind state is l s (h.whole place (right_level operator) state (right, middle) (right-prefix operator) read)))
  behind-step-sound left (step.Assign equals) behind state g middle y is l s (GotOne value read) e =
      subst (Goal (step.Assign equals)) (some_is (assign_to left equals value, middle) y e)
      (stepped place start (step.Assign equals) _ middle refl (AnAssign left equals value behind state is l s (h.whole place loosest_level state (value, middle) prefix-loosest read)))
  behind-step-sound left (step.AssignOp operator at) behind state g middle y is l s (GotOne value read) e =
      subst (Goal (step.AssignOp operator at)) (some_is (compute_to left operator at value, middle) y e)
      (stepped place start (step.AssignOp operator at) _ middle refl (AnAssignOp left operator at value behind state is l s (h.whole place loosest_level state (value, middle) prefix-loosest read)))

  -- a step of the level that comes next
  further-sound : (most : ℕ) (left : Expr) (behind : State) (y : Expr × State) → IsExprAt place start left behind → goes_on (level_of left) most behind ≡ true
      → further_at depth one place left behind ≡ Some y → (s : Step) × (step_level s ≤ most) × Goal s y
  unfolding further_at
  further-sound most left behind y is go e =
      let x = bind_some (step_at depth behind) _ y e in
      let g = bind_some (got_at depth one (step_wants place x.0.0) x.0.1) _ y x.2 in
      let s = step-sound depth behind x.0.0 x.0.1 x.1 in
      let within = goes-within (level_of left) most (step_level x.0.0) behind (step-levels depth behind x.0.0 x.0.1 s) go in
      let tight : level_of left ≤ operand_level x.0.0 = subst (λ n. level_of left ≤ n) (sym (step-operands x.0.0)) within.1 in
      (x.0.0, within.0, behind-step-sound left x.0.0 behind x.0.1 g.0.0 g.0.1 y is tight s (got-is depth one (step_wants place x.0.0) x.0.1 g.0 g.1) g.2)

  -- as far as it goes on
  pub longest-sound : (most fuel : ℕ) (left : Expr) (state : State) (y : Expr × State) → IsExprAt place start left state → level_of left ≤ most
      → longest_at depth one place most fuel left state ≡ Some y → IsWholeAt place most start y.0 y.1
  unfolding longest_at
  longest-sound most zero left state y is l e = absurd cc
  longest-sound most (suc fuel) left state y is l e =
      elim (chosen (goes_on (level_of left) most state) _ _ y e) [
        | inl k ↦
            let x = bind_some (further_at depth one place left state) _ y k.1 in
            let further = further-sound most left state x.0 is k.0 x.1 in
            longest-sound most fuel x.0.0 x.0.1 y further.2.is (subst (λ n. n ≤ most) (sym further.2.level) further.1) x.2
        | inr k ↦ subst (λ z. IsWholeAt place most start z.0 z.1) (some_is (left, state) y k.1) (AWhole left is l k.0)
      ]

  -- up to level 0 it does not go on
  pub alone : (fuel : ℕ) (left : Expr) (state : State) (y : Expr × State) → longest_at depth one place operand_alone fuel left state ≡ Some y → (left, state) ≡ y
  unfolding longest_at
  alone zero left state y e = absurd cc
  alone (suc fuel) left state y e =
      elim (chosen (goes_on (level_of left) operand_alone state) _ _ y e) [
        | inl k ↦ let nothing = goes-nowhere (level_of left) state in let some = k.0 in absurd cc
        | inr k ↦ some_is (left, state) y k.1
      ]
