-- What is read stands there: expressions, blocks and lines of every depth.
use Rattle.std.proofs.Common.{◌≡◌, ℕ, zero, suc, ◌≤◌, true, Some, None, refl, sym, subst, ◌∙◌, arith}
use Rattle.tb_lex.specs.declared.keyword.Keyword.TheVariants as keyword_of
use Rattle.tb_ast.specs.declared.expression.Expr.{Expr}
use Rattle.tb_ast.specs.declared.expression.Block.{Block}
use Rattle.tb_syntax.specs.Reading.{◌>>=◌}
use Rattle.tb_syntax.specs.State.{State}
use Rattle.tb_syntax.specs.Leaves.{has_keyword}
use Rattle.tb_syntax.proofs.Options.{bind_some}
use Rattle.tb_forms.specs.declared.place.Where.{Where}
use Rattle.tb_forms.specs.declared.place.Where.TheVariants.{Anywhere}
use Rattle.tb_forms.specs.Beginnings.{begins_blocky}
use Rattle.tb_forms.specs.Levels.{operand_alone, prefix_level, level_of}
use Rattle.tb_expr.specs.declared.lines.Line.{Line}
use Rattle.tb_expr.specs.Exprs.{operand_at, longest_at, expr_at, block_at, line_at}
use Rattle.tb_expr.specs.Grammar.{IsWholeAt, IsBlockyAt, IsIfAt, IsBlockAt, IsLineAt}
use Rattle.tb_expr.proofs.Sound.{Sound}
use Rattle.tb_expr.proofs.SoundLines.{line-taken, block-taken}
use Rattle.tb_expr.proofs.SoundOperands.{operand-sound}
use Rattle.tb_expr.proofs.SoundSteps.{longest-sound, alone}

-- reading takes one step of its depth
expr-suc : (depth : ℕ) (place : Where) (most : ℕ) (state : State)
    → expr_at (suc depth) place most state ≡ (operand_at depth (expr_at depth) place state >>= λ x. longest_at depth (expr_at depth) place most (suc depth) x.0 x.1)
unfolding expr_at
expr-suc depth place most state = refl

expr-zero : (place : Where) (most : ℕ) (state : State) → expr_at 0 place most state ≡ None
unfolding expr_at
expr-zero place most state = refl

nothing-read : {A : Type 0} (place : Where) (most : ℕ) (state : State) (y : Expr × State) → expr_at 0 place most state ≡ Some y → A
nothing-read place most state y e = let none = expr-zero place most state in absurd cc

module _ (depth : ℕ) (h : Sound (expr_at depth)) where
  -- one deeper
  whole-next : (place : Where) (most : ℕ) (state : State) (y : Expr × State) → prefix_level ≤ most → expr_at (suc depth) place most state ≡ Some y → IsWholeAt place most state y.0 y.1
  whole-next place most state y two e =
      let x = bind_some (operand_at depth (expr_at depth) place state) _ y (sym (expr-suc depth place most state) ∙ e) in
      let operand = operand-sound depth (expr_at depth) h place state x.0 x.1 in
      let tight : level_of x.0.0 ≤ prefix_level = operand.3.tight in
      longest-sound depth (expr_at depth) h place state most (suc depth) x.0.0 x.0.1 y operand.3.is (omega arith) x.2

  blocky-next : (state : State) (y : Expr × State) → begins_blocky state ≡ true → expr_at (suc depth) Anywhere operand_alone state ≡ Some y → IsBlockyAt state y.0 y.1
  blocky-next state y begins e =
      let x = bind_some (operand_at depth (expr_at depth) Anywhere state) _ y (sym (expr-suc depth Anywhere operand_alone state) ∙ e) in
      let operand = operand-sound depth (expr_at depth) h Anywhere state x.0 x.1 in
      subst (λ z. IsBlockyAt state z.0 z.1) (alone depth (expr_at depth) h Anywhere state (suc depth) x.0.0 x.0.1 y x.2) (operand.3.blocky (sym operand.1 ∙ begins))

  if-next : (state : State) (y : Expr × State) → has_keyword keyword_of.If state ≡ true → expr_at (suc depth) Anywhere operand_alone state ≡ Some y → IsIfAt state y.0 y.1
  if-next state y begins e =
      let x = bind_some (operand_at depth (expr_at depth) Anywhere state) _ y (sym (expr-suc depth Anywhere operand_alone state) ∙ e) in
      let operand = operand-sound depth (expr_at depth) h Anywhere state x.0 x.1 in
      subst (λ z. IsIfAt state z.0 z.1) (alone depth (expr_at depth) h Anywhere state (suc depth) x.0.0 x.0.1 y x.2) (operand.3.ifs (sym operand.2 ∙ begins))

-- every depth
sound-all : (depth : ℕ) → Sound (expr_at depth)
sound-all zero = record {
  whole = λ place most state y two e. nothing-read place most state y e;
  blocky = λ state y begins e. nothing-read Anywhere operand_alone state y e;
  ifs = λ state y begins e. nothing-read Anywhere operand_alone state y e;
}
sound-all (suc depth) = let h = sound-all depth in record { whole = whole-next depth h; blocky = blocky-next depth h; ifs = if-next depth h }

-- an expression that is read stands there, as far as it goes
pub expr-sound : (depth : ℕ) (place : Where) (most : ℕ) (state : State) (e : Expr) (rest : State) → prefix_level ≤ most → expr_at depth place most state ≡ Some (e, rest) → IsWholeAt place most state e rest
expr-sound depth place most state e rest two r = (sound-all depth).whole place most state (e, rest) two r

-- and so does one with a block of its own, and an `if`
pub blocky-sound : (depth : ℕ) (state : State) (e : Expr) (rest : State) → begins_blocky state ≡ true → expr_at depth Anywhere operand_alone state ≡ Some (e, rest) → IsBlockyAt state e rest
blocky-sound depth state e rest begins r = (sound-all depth).blocky state (e, rest) begins r

pub if-sound : (depth : ℕ) (state : State) (e : Expr) (rest : State) → has_keyword keyword_of.If state ≡ true → expr_at depth Anywhere operand_alone state ≡ Some (e, rest) → IsIfAt state e rest
if-sound depth state e rest begins r = (sound-all depth).ifs state (e, rest) begins r

-- a block, and a line
pub block-sound : (depth : ℕ) (state : State) (block : Block) (rest : State) → block_at depth state ≡ Some (block, rest) → IsBlockAt state block rest
unfolding block_at
block-sound depth state block rest r = block-taken depth (expr_at depth) (sound-all depth) state (block, rest) r

pub line-sound : (depth : ℕ) (state : State) (l : Line) (rest : State) → line_at depth state ≡ Some (l, rest) → IsLineAt state l rest
unfolding line_at
line-sound depth state l rest r = line-taken depth (expr_at depth) (sound-all depth) state (l, rest) r
