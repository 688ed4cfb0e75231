-- How an expression that stands there is read on, step by step, as far as it goes.
use Rattle.std.proofs.Common.{◌≡◌, ℕ, zero, suc, ◌+◌, ◌≤◌, true, false, List, ◌∷◌, map, Option, Some, refl, subst, ap, ◌∙◌, arith}
use Rattle.std.specs.Prelude.{max}
use Rattle.std.proofs.lemmas.Bool.{le-leb}
use Rattle.tb_perm.specs.declared.span.Span.{Span}
use Rattle.tb_lex.specs.declared.punctuation.Punctuation.TheVariants.{OpenBracket, CloseParen, CloseBracket, Eq}
use Rattle.tb_ast.specs.declared.leaf.Mark.{Mark}
use Rattle.tb_ast.specs.declared.leaf.Ident.{Ident}
use Rattle.tb_ast.specs.declared.leaf.IntLiteral.{IntLiteral}
use Rattle.tb_ast.specs.declared.operator.BinaryOp.{BinaryOp}
use Rattle.tb_ast.specs.declared.operator.BinaryOp.TheVariants as binary
use Rattle.tb_ast.specs.declared.operator.AssignOp.{AssignOp}
use Rattle.tb_ast.specs.declared.written.TypeExpr.{TypeExpr}
use Rattle.tb_ast.specs.declared.written.Turbofish.{Turbofish}
use Rattle.tb_ast.specs.declared.expression.Expr.{Expr}
use Rattle.tb_ast.specs.Pieces.{punct, mark}
use Rattle.tb_ast.specs.Expressions.{binary_mark, assign_mark}
use Rattle.tb_ast.specs.Depth.{deepest, expr_depth, type_depth, turbofish_depth}
use Rattle.tb_syntax.specs.Reading.{◌>>=◌}
use Rattle.tb_syntax.specs.State.{State, Begins}
use Rattle.tb_syntax.proofs.Marks.{punct-complete}
use Rattle.tb_forms.specs.declared.place.Where.{Where}
use Rattle.tb_forms.specs.declared.place.Where.TheVariants.{Anywhere}
use Rattle.tb_forms.specs.declared.step.Step.{Step}
use Rattle.tb_forms.specs.declared.step.Step.TheVariants as step
use Rattle.tb_forms.specs.Levels.{operand_alone, tightest_level, cast_level, target_level, loosest_level, binary_level, left_level, right_level, level_of, loosest_left, takes_on, goes_on}
use Rattle.tb_forms.specs.Trees.{field_of, tuple_field_of, method_call, index_of, cast_to, binary_with, assign_to, compute_to}
use Rattle.tb_forms.specs.Steps.{step_level, operand_level, IsStepAt}
use Rattle.tb_forms.specs.Closings.{method_call_at, index_at}
use Rattle.tb_forms.specs.Wants.{step_wants, step_finished_at}
use Rattle.tb_expr.specs.Exprs.{got_at, operand_at, further_at, longest_at, expr_at}
use Rattle.tb_forms.proofs.StepComplete.{step-complete}
use Rattle.tb_forms.proofs.Begins.{step-levels, step-operands, goes-nowhere, begins-no-paren}
use Rattle.tb_expr.proofs.Within.{step-within}
use Rattle.tb_expr.proofs.CompleteDepths.{expr-roll, expr-some, level-roll}
use Rattle.tb_expr.proofs.CompleteReads.{Whole, Reaches, Operand, Blocky, Exprs}
use Rattle.tb_expr.proofs.CompleteLists.{exprs-listed}

-- One round.

further-read : (depth : ℕ) (place : Where) (left : Expr) (a : State) (s : Step) (b : State) (y : Option (Expr × State)) → IsStepAt depth a s b
    → (got_at depth (expr_at depth) (step_wants place s) b >>= λ x. step_finished_at left s x.0 x.1) ≡ y → further_at depth (expr_at depth) place left a ≡ y
unfolding further_at
further-read depth place left a s b y h e = rw (step-complete depth a s b h) e

goes-on : (depth : ℕ) (level most : ℕ) (a : State) (s : Step) (b : State) → IsStepAt depth a s b → step_level s ≤ most → level ≤ operand_level s → goes_on level most a ≡ true
unfolding goes_on
goes-on depth level most a s b h fits tight =
    let taken : level ≤ loosest_left (step_level s) = subst (λ n. level ≤ n) (step-operands s) tight in
    ap (takes_on level most) (step-levels depth a s b h) ∙ rw (le-leb (step_level s) most fits, le-leb level (loosest_left (step_level s)) taken) refl

longest-more : (depth : ℕ) (place : Where) (most fuel : ℕ) (left : Expr) (a : State) (e : Expr) (rest : State) → goes_on (level_of left) most a ≡ true → further_at depth (expr_at depth) place left a ≡ Some (e, rest)
    → longest_at depth (expr_at depth) place most (suc fuel) left a ≡ longest_at depth (expr_at depth) place most fuel e rest
unfolding longest_at
longest-more depth place most fuel left a e rest on read = rw on (rw read refl)

longest-stops : (depth : ℕ) (place : Where) (most fuel : ℕ) (left : Expr) (a : State) → goes_on (level_of left) most a ≡ false → longest_at depth (expr_at depth) place most (suc fuel) left a ≡ Some (left, a)
unfolding longest_at
longest-stops depth place most fuel left a stop = rw stop refl

-- From an operand on, and up to where it stops.

operand-first : (depth : ℕ) (place : Where) (most : ℕ) (state : State) (e : Expr) (rest : State) → operand_at depth (expr_at depth) place state ≡ Some (e, rest)
    → expr_at (suc depth) place most state ≡ longest_at depth (expr_at depth) place most (suc depth) e rest
unfolding expr_at
operand-first depth place most state e rest read = rw read refl

pub operand-reaches : (place : Where) (state : State) (e : Expr) (rest : State) → Operand place state e rest → Reaches place state e rest
operand-reaches place state e rest operand depth bound most fits =
    let some = expr-some e in
    (suc depth, omega arith, operand-first depth place most state e rest (operand depth bound))

pub whole-reached : (place : Where) (most : ℕ) (state : State) (e : Expr) (rest : State) → level_of e ≤ most → goes_on (level_of e) most rest ≡ false → Reaches place state e rest → Whole place most state e rest
whole-reached place most state e rest fits stop reaches zero bound = let some = expr-some e in absurd (omega arith)
whole-reached place most state e rest fits stop reaches (suc depth) bound = let there = reaches depth bound most fits in from there.0 there.1 there.2 where
  from : (fuel : ℕ) → suc (suc depth) ≤ fuel + expr_depth e → expr_at (suc depth) place most state ≡ longest_at depth (expr_at depth) place most fuel e rest → expr_at (suc depth) place most state ≡ Some (e, rest)
  from zero few read = absurd (omega arith)
  from (suc fuel) few read = read ∙ longest-stops depth place most fuel e rest stop

-- an operand alone
pub blocky-whole : (state : State) (e : Expr) (rest : State) → Blocky state e rest → Whole Anywhere operand_alone state e rest
blocky-whole state e rest blocky zero bound = let some = expr-some e in absurd (omega arith)
blocky-whole state e rest blocky (suc depth) bound =
    operand-first depth Anywhere operand_alone state e rest (blocky Anywhere depth bound) ∙ longest-stops depth Anywhere operand_alone depth e rest (goes-nowhere (level_of e) rest)

-- one step further
step-reaches : (place : Where) (state : State) (left : Expr) (a : State) (s : Step) (b : State) (e : Expr) (rest : State)
    → level_of left ≤ operand_level s → operand_level s ≤ step_level s → level_of e ≡ step_level s → suc (expr_depth left) ≤ expr_depth e → Reaches place state left a
    → ((depth : ℕ) → expr_depth e ≤ suc depth → IsStepAt depth a s b × ((got_at depth (expr_at depth) (step_wants place s) b >>= λ x. step_finished_at left s x.0 x.1) ≡ Some (e, rest)))
    → Reaches place state e rest
step-reaches place state left a s b e rest tight looser level deeper reaches next depth bound most fits =
    let there = reaches depth (omega arith) most (omega arith) in
    from there.0 there.1 there.2 where
      from : (fuel : ℕ) → suc (suc depth) ≤ fuel + expr_depth left → expr_at (suc depth) place most state ≡ longest_at depth (expr_at depth) place most fuel left a
          → (more : ℕ) × (suc (suc depth) ≤ more + expr_depth e) × (expr_at (suc depth) place most state ≡ longest_at depth (expr_at depth) place most more e rest)
      from zero few read = absurd (omega arith)
      from (suc fuel) few read =
          let go = next depth bound in
          let further = further-read depth place left a s b _ go.0 go.1 in
          let on = goes-on depth (level_of left) most a s b go.0 (omega arith) tight in
          (fuel, omega arith, read ∙ longest-more depth place most fuel left a e rest on further)

-- The steps.

pub field-reaches : (place : Where) (state : State) (base : Expr) (dot : Span) (name : Ident) (a rest : State) → level_of base ≤ tightest_level → IsStepAt 0 a (step.Field dot name) rest
    → Reaches place state base a → Reaches place state (field_of base dot name) rest
unfolding got_at step_wants step_finished_at
field-reaches place state base dot name a rest tight h reaches =
    let same : expr_depth (field_of base dot name) ≡ expr_depth base + 1 = expr-roll _ in
    step-reaches place state base a (step.Field dot name) rest (field_of base dot name) rest tight (omega arith) (level-roll _) (omega arith) reaches (λ depth bound. (h, refl))

pub tuple-field-reaches : (place : Where) (state : State) (base : Expr) (dot : Span) (index : IntLiteral) (a rest : State) → level_of base ≤ tightest_level → IsStepAt 0 a (step.TupleField dot index) rest
    → Reaches place state base a → Reaches place state (tuple_field_of base dot index) rest
unfolding got_at step_wants step_finished_at
tuple-field-reaches place state base dot index a rest tight h reaches =
    let same : expr_depth (tuple_field_of base dot index) ≡ expr_depth base + 1 = expr-roll _ in
    step-reaches place state base a (step.TupleField dot index) rest (tuple_field_of base dot index) rest tight (omega arith) (level-roll _) (omega arith) reaches (λ depth bound. (h, refl))

pub method-reaches : (place : Where) (state : State) (receiver : Expr) (n : ℕ) (dot : Span) (name : Ident) (turbofish : Option Turbofish) (opening : Span) (arguments : List Expr) (commas : List Span) (closing : Span)
    (a b c rest : State) → level_of receiver ≤ tightest_level → IsStepAt n a (step.MethodCall dot name turbofish opening) b → Begins (punct CloseParen closing) c rest
    → Reaches place state receiver a → Exprs CloseParen b arguments commas c → Reaches place state (method_call receiver dot name turbofish opening arguments commas closing) rest
unfolding got_at step_wants step_finished_at method_call_at
method-reaches place state receiver n dot name turbofish opening arguments commas closing a b c rest tight h last reaches inside =
    let e = method_call receiver dot name turbofish opening arguments commas closing in
    let same : expr_depth e ≡ max (max (expr_depth receiver) (turbofish_depth turbofish)) (deepest (map expr_depth arguments)) + 1 = expr-roll _ in
    step-reaches place state receiver a (step.MethodCall dot name turbofish opening) b e rest tight (omega arith) (level-roll _) (omega arith) reaches
    (λ depth bound. (
      step-within n depth a (step.MethodCall dot name turbofish opening) b h (omega arith),
      rw (exprs-listed CloseParen b arguments commas c inside begins-no-paren depth (omega arith)) (rw (punct-complete CloseParen c closing rest last) refl),
    ))

pub index-reaches : (place : Where) (state : State) (base : Expr) (opening : Span) (index : Expr) (closing : Span) (a b c rest : State) → level_of base ≤ tightest_level → Begins (punct OpenBracket opening) a b
    → Begins (punct CloseBracket closing) c rest → Reaches place state base a → Whole Anywhere loosest_level b index c → Reaches place state (index_of base opening index closing) rest
unfolding got_at step_wants step_finished_at index_at
index-reaches place state base opening index closing a b c rest tight h last reaches inside =
    let e = index_of base opening index closing in
    let same : expr_depth e ≡ max (expr_depth base) (expr_depth index) + 1 = expr-roll _ in
    step-reaches place state base a (step.Index opening) b e rest tight (omega arith) (level-roll _) (omega arith) reaches
    (λ depth bound. (h, rw (inside depth (omega arith)) (rw (punct-complete CloseBracket c closing rest last) refl)))

pub cast-reaches : (place : Where) (state : State) (operand : Expr) (n : ℕ) (at : Span) (ty : TypeExpr) (a rest : State) → level_of operand ≤ cast_level → IsStepAt n a (step.Cast at ty) rest
    → Reaches place state operand a → Reaches place state (cast_to operand at ty) rest
unfolding got_at step_wants step_finished_at
cast-reaches place state operand n at ty a rest tight h reaches =
    let e = cast_to operand at ty in
    let same : expr_depth e ≡ max (expr_depth operand) (type_depth ty) + 1 = expr-roll _ in
    step-reaches place state operand a (step.Cast at ty) rest e rest tight (omega arith) (level-roll _) (omega arith) reaches
    (λ depth bound. (step-within n depth a (step.Cast at ty) rest h (omega arith), refl))

left-tight : (operator : BinaryOp) → left_level operator ≤ binary_level operator
left-tight binary.Eq = omega arith
left-tight binary.Ne = omega arith
left-tight binary.Lt = omega arith
left-tight binary.Gt = omega arith
left-tight binary.Le = omega arith
left-tight binary.Ge = omega arith
left-tight operator = omega arith

pub binary-reaches : (place : Where) (state : State) (left : Expr) (operator : BinaryOp) (at : Mark) (right : Expr) (a b rest : State) → level_of left ≤ left_level operator
    → a ≡ mark (binary_mark operator) at ∷ b → Reaches place state left a → Whole place (right_level operator) b right rest → Reaches place state (binary_with left operator at right) rest
unfolding got_at step_wants step_finished_at
binary-reaches place state left operator at right a b rest tight h reaches inside =
    let e = binary_with left operator at right in
    let same : expr_depth e ≡ max (expr_depth left) (expr_depth right) + 1 = expr-roll _ in
    step-reaches place state left a (step.Binary operator at) b e rest tight (left-tight operator) (level-roll _) (omega arith) reaches
    (λ depth bound. (h, rw (inside depth (omega arith)) refl))

pub assign-reaches : (place : Where) (state : State) (target : Expr) (equals : Mark) (value : Expr) (a b rest : State) → level_of target ≤ target_level → a ≡ mark Eq equals ∷ b
    → Reaches place state target a → Whole place loosest_level b value rest → Reaches place state (assign_to target equals value) rest
unfolding got_at step_wants step_finished_at
assign-reaches place state target equals value a b rest tight h reaches inside =
    let e = assign_to target equals value in
    let same : expr_depth e ≡ max (expr_depth target) (expr_depth value) + 1 = expr-roll _ in
    step-reaches place state target a (step.Assign equals) b e rest tight (omega arith) (level-roll _) (omega arith) reaches
    (λ depth bound. (h, rw (inside depth (omega arith)) refl))

pub compute-reaches : (place : Where) (state : State) (target : Expr) (operator : AssignOp) (at : Span) (value : Expr) (a b rest : State) → level_of target ≤ target_level
    → a ≡ punct (assign_mark operator) at ∷ b → Reaches place state target a → Whole place loosest_level b value rest → Reaches place state (compute_to target operator at value) rest
unfolding got_at step_wants step_finished_at
compute-reaches place state target operator at value a b rest tight h reaches inside =
    let e = compute_to target operator at value in
    let same : expr_depth e ≡ max (expr_depth target) (expr_depth value) + 1 = expr-roll _ in
    step-reaches place state target a (step.AssignOp operator at) b e rest tight (omega arith) (level-roll _) (omega arith) reaches
    (λ depth bound. (h, rw (inside depth (omega arith)) refl))
