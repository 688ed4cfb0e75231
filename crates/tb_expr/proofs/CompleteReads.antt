-- What is read again, each form with at most the depth of it.
use Rattle.std.proofs.Common.{◌≡◌, ℕ, suc, ◌+◌, ◌≤◌, true, false, List, map, length, Option, Some}
use Rattle.tb_perm.specs.declared.span.Span.{Span}
use Rattle.tb_lex.specs.declared.punctuation.Punctuation.{Punctuation}
use Rattle.tb_lex.specs.declared.punctuation.Punctuation.TheVariants.{Comma, CloseBrace}
use Rattle.tb_ast.specs.declared.leaf.Mark.{Mark}
use Rattle.tb_ast.specs.declared.expression.Expr.{Expr}
use Rattle.tb_ast.specs.declared.expression.Else.{Else}
use Rattle.tb_ast.specs.declared.expression.Block.{Block}
use Rattle.tb_ast.specs.declared.expression.Stmt.{Stmt}
use Rattle.tb_ast.specs.declared.expression.FieldValue.{FieldValue}
use Rattle.tb_ast.specs.declared.expression.Initializer.{Initializer}
use Rattle.tb_ast.specs.Depth.{deepest, expr_depth, field_depth, stmt_depth, block_depth}
use Rattle.tb_syntax.specs.State.{State}
use Rattle.tb_syntax.specs.Marks.{has_mark}
use Rattle.tb_syntax.specs.Lists.{list_at}
use Rattle.tb_forms.specs.declared.place.Where.{Where}
use Rattle.tb_forms.specs.Beginnings.{begins_expr}
use Rattle.tb_forms.specs.Levels.{level_of}
use Rattle.tb_expr.specs.declared.lines.Line.TheVariants as line
use Rattle.tb_expr.specs.Exprs.{whole_at, field_at, equals_at, equals_wants, initializer_of, value_at, line_in, lines_in, block_in_at, else_at, operand_at, longest_at, expr_at}
use Rattle.tb_expr.proofs.CompleteDepths.{last_depth, otherwise_depth, value_depth}

-- an expression, up to a level
abbrev pub Whole : Where → ℕ → State → Expr → State → Type 0
Whole place most state e rest = (depth : ℕ) → expr_depth e ≤ depth → expr_at depth place most state ≡ Some (e, rest)

-- reading from the start comes to stand behind the expression, with enough steps left for what its depth does not take
abbrev pub Reaches : Where → State → Expr → State → Type 0
Reaches place state e rest = (depth : ℕ) → expr_depth e ≤ suc depth → (most : ℕ) → level_of e ≤ most
    → (fuel : ℕ) × (suc (suc depth) ≤ fuel + expr_depth e) × (expr_at (suc depth) place most state ≡ longest_at depth (expr_at depth) place most fuel e rest)

-- an operand, and one that is read alike with struct literals and without
abbrev pub Operand : Where → State → Expr → State → Type 0
Operand place state e rest = (depth : ℕ) → expr_depth e ≤ suc depth → operand_at depth (expr_at depth) place state ≡ Some (e, rest)

abbrev pub Blocky : State → Expr → State → Type 0
Blocky state e rest = (place : Where) → Operand place state e rest

abbrev pub Otherwise : State → Option Else → State → Type 0
Otherwise state otherwise rest = (depth : ℕ) → otherwise_depth otherwise ≤ depth → else_at depth (expr_at depth) state ≡ Some (otherwise, rest)

-- a mark that begins no expression
abbrev pub Closes : Punctuation → Type 0
Closes close = (state : State) → begins_expr state ≡ true → has_mark close state ≡ false

-- lists, with as many rounds as there are pieces
abbrev pub Exprs : Punctuation → State → List Expr → List Span → State → Type 0
Exprs close state es commas rest = Closes close → (depth : ℕ) → deepest (map expr_depth es) ≤ depth → (fuel : ℕ) → length state ≤ fuel
    → list_at (has_mark close) (whole_at depth (expr_at depth)) (has_mark Comma) Comma fuel state ≡ Some ((es, commas), rest)

abbrev pub OneField : State → FieldValue → State → Type 0
OneField state field rest = (depth : ℕ) → field_depth field ≤ depth → field_at depth (expr_at depth) state ≡ Some (field, rest)

abbrev pub Fields : State → List FieldValue → List Span → State → Type 0
Fields state fields commas rest = (depth : ℕ) → deepest (map field_depth fields) ≤ depth → (fuel : ℕ) → length state ≤ fuel
    → list_at (has_mark CloseBrace) (field_at depth (expr_at depth)) (has_mark Comma) Comma fuel state ≡ Some ((fields, commas), rest)

-- blocks and what stands in them
abbrev pub Braces : State → Block → State → Type 0
Braces state block rest = (depth : ℕ) → block_depth block ≤ suc depth → block_in_at depth (expr_at depth) state ≡ Some (block, rest)

abbrev pub Lined : State → List Stmt → Option Expr → State → Type 0
Lined state statements last rest = (depth : ℕ) → deepest (map stmt_depth statements) ≤ suc depth → last_depth last ≤ depth → (fuel : ℕ) → length state ≤ fuel
    → lines_in depth (expr_at depth) fuel state ≡ Some ((statements, last), rest)

abbrev pub Statement : State → Stmt → State → Type 0
Statement state s rest = (depth : ℕ) → stmt_depth s ≤ suc depth → line_in depth (expr_at depth) state ≡ Some (line.Stmt s, rest)

abbrev pub LastValue : State → Expr → State → Type 0
LastValue state e rest = (depth : ℕ) → expr_depth e ≤ depth → line_in depth (expr_at depth) state ≡ Some (line.Last e, rest)

-- what stands behind `=`, if it stands there, makes this initializer
pub record Initializing (depth : ℕ) (state : State) (value : Option Initializer) (rest : State) : Type 0 where
  pub equals : Option Mark
  pub after : State
  pub expression : Option Expr
  pub first : equals_at state ≡ Some (equals, after)
  pub second : value_at depth (expr_at depth) (equals_wants equals) after ≡ Some (expression, rest)
  pub is : initializer_of equals expression ≡ Some value

abbrev pub Initialized : State → Option Initializer → State → Type 0
Initialized state value rest = (depth : ℕ) → value_depth value ≤ depth → Initializing depth state value rest
