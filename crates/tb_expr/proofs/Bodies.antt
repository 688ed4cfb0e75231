-- The rounds of the loop that reads the lines of a block.
use Rattle.std.proofs.Common.{◌≡◌, ℕ, suc, ◌+◌, ◌-◌, ◌<◌, ◌≤◌, true, false, List, [], ◌∷◌, ◌++◌, Option, Some, None, refl, sym, ap, ◌∙◌, append_assoc, arith}
use Rattle.std.proofs.lemmas.List.{append-nil}
use Rattle.tb_lex.specs.declared.punctuation.Punctuation.TheVariants.{CloseBrace}
use Rattle.tb_ast.specs.declared.expression.Expr.{Expr}
use Rattle.tb_ast.specs.declared.expression.Stmt.{Stmt}
use Rattle.tb_syntax.specs.declared.error.ReadError.{ReadError}
use Rattle.tb_syntax.specs.declared.error.ReadError.TheVariants as errors
use Rattle.tb_syntax.specs.Reading.{◌>>=◌, Fails}
use Rattle.tb_syntax.specs.State.{State}
use Rattle.tb_syntax.specs.Marks.{has_mark}
use Rattle.tb_expr.specs.declared.lines.Line.TheVariants as line
use Rattle.tb_expr.specs.Exprs.{Reader, Lines, put_first, behind_line, line_in, lines_in}

-- these statements, and then those lines
abbrev pub after_statements : List Stmt → Option (Lines × State) → Option (Lines × State)
after_statements statements None = None
after_statements statements (Some x) = Some ((statements ++ x.0.0, x.0.1), x.1)

after-after : (statements : List Stmt) (s : Stmt) (r : Option (Lines × State)) → after_statements (statements ++ s ∷ []) r ≡ after_statements statements (put_first s r)
after-after statements s None = refl
after-after statements s (Some y) =
    let at : List Stmt → Option (Lines × State) = λ ss. Some ((ss, y.0.1), y.1) in
    ap at (append_assoc statements (s ∷ []) y.0.0)

module _ (depth : ℕ) (one : Reader) where
  pub lines-zero : (state : State) → lines_in depth one 0 state ≡ None
  unfolding lines_in
  lines-zero state = refl

  pub lines-ends : (fuel : ℕ) (state : State) → has_mark CloseBrace state ≡ true → lines_in depth one (suc fuel) state ≡ Some (([], None), state)
  unfolding lines_in
  lines-ends fuel state h = rw h refl

  pub lines-one : (fuel : ℕ) (state : State) → has_mark CloseBrace state ≡ false
      → lines_in depth one (suc fuel) state ≡ (line_in depth one state >>= λ x. behind_line depth one x.0 x.1 (lines_in depth one fuel x.1))
  unfolding lines_in
  lines-one fuel state h = rw h refl

  -- the loop has read one more statement
  pub one_statement : (count i : ℕ) (statements : List Stmt) (state : State) (s : Stmt) (after : State) (total : Option (Lines × State))
      → i < count → has_mark CloseBrace state ≡ false → line_in depth one state ≡ Some (line.Stmt s, after)
      → after_statements statements (lines_in depth one (count - i) state) ≡ total
      → after_statements (statements ++ s ∷ []) (lines_in depth one (count - (i + 1)) after) ≡ total
  one_statement count i statements state s after total below open_ read so_far =
      let fuel : count - i ≡ suc (count - (i + 1)) = omega arith in
      let left : Option (Lines × State) = lines_in depth one (count - (i + 1)) after in
      let step : lines_in depth one (count - i) state ≡ put_first s left =
      ap (λ n. lines_in depth one n state) fuel ∙ lines-one (count - (i + 1)) state open_ ∙ rw read refl in
      after-after statements s left ∙ ap (after_statements statements) (sym step) ∙ so_far

  -- the loop has read the last expression
  pub last_expression : (count i : ℕ) (statements : List Stmt) (state : State) (e : Expr) (after : State) (total : Option (Lines × State))
      → i < count → has_mark CloseBrace state ≡ false → line_in depth one state ≡ Some (line.Last e, after)
      → after_statements statements (lines_in depth one (count - i) state) ≡ total → total ≡ Some ((statements, Some e), after)
  last_expression count i statements state e after total below open_ read so_far =
      let fuel : count - i ≡ suc (count - (i + 1)) = omega arith in
      let step : lines_in depth one (count - i) state ≡ Some (([], Some e), after) =
      ap (λ n. lines_in depth one n state) fuel ∙ lines-one (count - (i + 1)) state open_ ∙ rw read refl in
      let at : List Stmt → Option (Lines × State) = λ ss. Some ((ss, Some e), after) in
      sym so_far ∙ ap (after_statements statements) step ∙ ap at (append-nil statements)

  -- the loop has come to `}`
  pub all_lines : (count i : ℕ) (statements : List Stmt) (state : State) (total : Option (Lines × State))
      → i < count → has_mark CloseBrace state ≡ true → after_statements statements (lines_in depth one (count - i) state) ≡ total
      → total ≡ Some ((statements, None), state)
  all_lines count i statements state total below close so_far =
      let fuel : count - i ≡ suc (count - (i + 1)) = omega arith in
      let step : lines_in depth one (count - i) state ≡ Some (([], None), state) = ap (λ n. lines_in depth one n state) fuel ∙ lines-ends (count - (i + 1)) state close in
      let at : List Stmt → Option (Lines × State) = λ ss. Some ((ss, None), state) in
      sym so_far ∙ ap (after_statements statements) step ∙ ap at (append-nil statements)

  -- the loop could not read a line
  pub no_line : (fault : ReadError) (count i : ℕ) (statements : List Stmt) (state : State) (total : Option (Lines × State))
      → i < count → has_mark CloseBrace state ≡ false → Fails fault (line_in depth one state)
      → after_statements statements (lines_in depth one (count - i) state) ≡ total → Fails fault total
  no_line errors.Memory count i statements state total below open_ read so_far = tt
  no_line errors.Unexpected count i statements state total below open_ read so_far =
      let fuel : count - i ≡ suc (count - (i + 1)) = omega arith in
      let none : lines_in depth one (suc (count - (i + 1))) state ≡ None = lines-one (count - (i + 1)) state open_ ∙ rw read refl in
      sym so_far ∙ ap (λ n. after_statements statements (lines_in depth one n state)) fuel ∙ ap (after_statements statements) none

  -- the loop has used up its fuel
  pub lines_out : (count i : ℕ) (statements : List Stmt) (state : State) (total : Option (Lines × State))
      → count ≤ i → after_statements statements (lines_in depth one (count - i) state) ≡ total → total ≡ None
  lines_out count i statements state total past so_far =
      let fuel : count - i ≡ 0 = omega arith in
      sym so_far ∙ ap (λ n. after_statements statements (lines_in depth one n state)) fuel ∙ ap (after_statements statements) (lines-zero state)

pub ruleset lines = (one_statement, last_expression, all_lines, no_line, lines_out)
