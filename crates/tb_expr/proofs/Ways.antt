-- What the public functions promise, from what they give.
use Rattle.std.proofs.Common.{◌≡◌, ℕ, suc, ◌<◌, ◌≤◌, max, Option, Some, None, Result, Ok, Err, sym, ap, ◌∙◌, arith}
use Rattle.std.specs.Prelude.{IfOk, IsErrOf}
use Rattle.tb_ast.specs.declared.expression.Expr.{Expr}
use Rattle.tb_ast.specs.declared.expression.Block.{Block}
use Rattle.tb_ast.specs.Depth.{expr_depth, block_depth}
use Rattle.tb_syntax.specs.declared.error.ReadError.{ReadError}
use Rattle.tb_syntax.specs.declared.error.ReadError.TheVariants as errors
use Rattle.tb_syntax.specs.Reading.{Gives}
use Rattle.tb_syntax.specs.State.{State}
use Rattle.tb_syntax.proofs.Options.{some_is}
use Rattle.tb_forms.specs.declared.place.Where.{Where}
use Rattle.tb_forms.specs.declared.place.Where.TheVariants.{Anywhere}
use Rattle.tb_forms.specs.Levels.{prefix_level, loosest_level}
use Rattle.tb_expr.specs.declared.lines.Line.{Line}
use Rattle.tb_expr.specs.declared.lines.Line.TheVariants as line
use Rattle.tb_expr.specs.Exprs.{block_in_at, line_in, expr_at, block_at, line_at}
use Rattle.tb_expr.specs.Grammar.{IsWholeAt, IsBlockAt, IsLineAt, line_depth}
use Rattle.tb_expr.proofs.SoundAll.{expr-sound, block-sound, line-sound}
use Rattle.tb_expr.proofs.CompleteAll.{whole-complete, block-complete, stmt-complete, value-complete}

abbrev same : {X : Type 0} → X → X
same x = x

nothing : {X : Type 0} (read : Option (X × State)) (y : X × State) → read ≡ None → read ≡ Some y → ⊥
nothing (Some x) y none some = absurd cc
nothing None y none some = absurd cc

above : (a b : ℕ) → (a ≤ b → ⊥) → b < a
above a b no_ = omega arith

-- where what is read is related, and what is related and no deeper is read
module _ {X : Type 0} (read : Option (X × State)) (Is : X → State → Type 0) (deep : X → ℕ) (most : ℕ) where
  pub is_read : ((x : X) (rest : State) → read ≡ Some (x, rest) → Is x rest) → (r : Result (X × State) ReadError) → Gives same r read → IfOk r (λ y. Is y.0 y.1)
  is_read sound (Ok y) h = sound y.0 y.1 h
  is_read sound (Err e) h = tt

  not_read : ((x : X) (rest : State) → Is x rest → deep x ≤ most → read ≡ Some (x, rest)) → read ≡ None → (x : X) (rest : State) → Is x rest → most < deep x
  not_read complete none x rest is = above (deep x) most (λ within. nothing read (x, rest) none (complete x rest is within))

  pub is_refused : ((x : X) (rest : State) → Is x rest → deep x ≤ most → read ≡ Some (x, rest)) → (r : Result (X × State) ReadError) → Gives same r read
      → IsErrOf r errors.Unexpected → (x : X) (rest : State) → Is x rest → most < deep x
  is_refused complete (Ok y) h fault x rest is = absurd cc
  is_refused complete (Err errors.Unexpected) h fault x rest is = not_read complete h x rest is
  is_refused complete (Err errors.Memory) h fault x rest is = absurd cc

whole-is-complete : (depth : ℕ) (state : State) (e : Expr) (rest : State) → IsWholeAt Anywhere loosest_level state e rest → expr_depth e ≤ depth → expr_at depth Anywhere loosest_level state ≡ Some (e, rest)
whole-is-complete depth state e rest is within = whole-complete Anywhere loosest_level state e rest is depth within (omega arith)

whole-is-taken : (depth : ℕ) (state : State) (e : Expr) (rest : State) → expr_at depth Anywhere loosest_level state ≡ Some (e, rest) → IsWholeAt Anywhere loosest_level state e rest
whole-is-taken depth state e rest h = expr-sound depth Anywhere loosest_level state e rest (omega arith) h

pub whole-read : (depth : ℕ) (state : State) (r : Result (Expr × State) ReadError) → Gives same r (expr_at depth Anywhere loosest_level state) → IfOk r (λ y. IsWholeAt Anywhere loosest_level state y.0 y.1)
whole-read depth state = is_read (expr_at depth Anywhere loosest_level state) (IsWholeAt Anywhere loosest_level state) expr_depth depth (whole-is-taken depth state)

pub whole-refused : (depth : ℕ) (state : State) (r : Result (Expr × State) ReadError) → Gives same r (expr_at depth Anywhere loosest_level state) → IsErrOf r errors.Unexpected → (e : Expr) (rest : State) → IsWholeAt Anywhere loosest_level state e rest → depth < expr_depth e
whole-refused depth state = is_refused (expr_at depth Anywhere loosest_level state) (IsWholeAt Anywhere loosest_level state) expr_depth depth (whole-is-complete depth state)

block-is-complete : (depth : ℕ) (state : State) (block : Block) (rest : State) → IsBlockAt state block rest → block_depth block ≤ suc depth → block_at depth state ≡ Some (block, rest)
block-is-complete depth state block rest is within = block-complete state block rest is depth within

pub block-read : (depth : ℕ) (state : State) (r : Result (Block × State) ReadError) → Gives same r (block_in_at depth (expr_at depth) state) → IfOk r (λ y. IsBlockAt state y.0 y.1)
unfolding block_at
block-read depth state = is_read (block_at depth state) (IsBlockAt state) block_depth (suc depth) (block-sound depth state)

pub block-refused : (depth : ℕ) (state : State) (r : Result (Block × State) ReadError) → Gives same r (block_in_at depth (expr_at depth) state) → IsErrOf r errors.Unexpected → (block : Block) (rest : State) → IsBlockAt state block rest → suc depth < block_depth block
unfolding block_at
block-refused depth state = is_refused (block_at depth state) (IsBlockAt state) block_depth (suc depth) (block-is-complete depth state)

line-is-complete : (depth : ℕ) (state : State) (l : Line) (rest : State) → IsLineAt state l rest → line_depth l ≤ depth → line_at depth state ≡ Some (l, rest)
line-is-complete depth state (line.Stmt s) rest is within = stmt-complete state s rest is depth (omega arith)
line-is-complete depth state (line.Last e) rest is within = value-complete state e rest is depth within

pub line-read : (depth : ℕ) (state : State) (r : Result (Line × State) ReadError) → Gives same r (line_in depth (expr_at depth) state) → IfOk r (λ y. IsLineAt state y.0 y.1)
unfolding line_at
line-read depth state = is_read (line_at depth state) (IsLineAt state) line_depth depth (line-sound depth state)

pub line-refused : (depth : ℕ) (state : State) (r : Result (Line × State) ReadError) → Gives same r (line_in depth (expr_at depth) state) → IsErrOf r errors.Unexpected → (l : Line) (rest : State) → IsLineAt state l rest → depth < line_depth l
unfolding line_at
line-refused depth state = is_refused (line_at depth state) (IsLineAt state) line_depth depth (line-is-complete depth state)

-- there is one way to read each

both : {X : Type 0} (read : Option (X × State)) (x : X) (rest : State) (y : X) (after : State) → read ≡ Some (x, rest) → read ≡ Some (y, after) → (x ≡ y) × (rest ≡ after)
both {X} read x rest y after a b =
    let same : ◌≡◌ {A = X × State} (x, rest) (y, after) = some_is (x, rest) (y, after) (sym a ∙ b) in
    (ap (λ z. z.0) same, ap (λ z. z.1) same)

pub one-whole : (place : Where) (most : ℕ) (state : State) (e : Expr) (rest : State) (other : Expr) (after : State) → prefix_level ≤ most → IsWholeAt place most state e rest → IsWholeAt place most state other after → (e ≡ other) × (rest ≡ after)
one-whole place most state e rest other after loose is is_too =
    let depth = max (expr_depth e) (expr_depth other) in
    both (expr_at depth place most state) e rest other after (whole-complete place most state e rest is depth (omega arith) loose) (whole-complete place most state other after is_too depth (omega arith) loose)

pub one-block : (state : State) (block : Block) (rest : State) (other : Block) (after : State) → IsBlockAt state block rest → IsBlockAt state other after → (block ≡ other) × (rest ≡ after)
one-block state block rest other after is is_too =
    let depth = max (block_depth block) (block_depth other) in
    both (block_at depth state) block rest other after (block-complete state block rest is depth (omega arith)) (block-complete state other after is_too depth (omega arith))

pub one-line : (state : State) (l : Line) (rest : State) (other : Line) (after : State) → IsLineAt state l rest → IsLineAt state other after → (l ≡ other) × (rest ≡ after)
one-line state l rest other after is is_too =
    let depth = max (line_depth l) (line_depth other) in
    both (line_at depth state) l rest other after (line-is-complete depth state l rest is (omega arith)) (line-is-complete depth state other after is_too (omega arith))
