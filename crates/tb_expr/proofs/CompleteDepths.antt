-- The depth and the level of a tree by its form.
use Rattle.std.proofs.Common.{◌≡◌, ℕ, suc, ◌+◌, ◌≤◌, List, map, Option, Some, None, ap, subst, arith}
use Rattle.std.specs.Prelude.{max}
use Rattle.tb_perm.specs.declared.span.Span.{Span}
use Rattle.tb_ast.specs.declared.expression.Expr.{Expr, roll-Expr, out-Expr}
use Rattle.tb_ast.specs.declared.expression.Else.{Else, roll-Else}
use Rattle.tb_ast.specs.declared.expression.Block.{Block, roll-Block, out-Block}
use Rattle.tb_ast.specs.declared.expression.Stmt.{Stmt, roll-Stmt}
use Rattle.tb_ast.specs.declared.expression.FieldValue.{FieldValue, roll-FieldValue}
use Rattle.tb_ast.specs.declared.expression.Initializer.{Initializer, roll-Initializer}
use Rattle.tb_ast.specs.declared.expression.Else.TheOpen.{Else-F, Expr-F, FieldValue-F, Stmt-F, Block-F, Initializer-F}
use Rattle.tb_ast.specs.declared.expression.Else.TheViews.{out-roll-Expr}
use Rattle.tb_ast.specs.declared.expression.Else.TheFolds.{map-Else, map-Expr, map-FieldValue, map-Stmt, map-Block, map-Initializer, fold-roll-Else, fold-roll-Expr, fold-roll-FieldValue, fold-roll-Stmt, fold-roll-Block, fold-roll-Initializer, fold_out-Expr, fold_out-Block}
use Rattle.tb_ast.specs.Depth.{deepest, else_step, expr_step, field_step, stmt_step, block_step, initializer_step, else_depth, expr_depth, field_depth, stmt_depth, block_depth, initializer_depth}
use Rattle.tb_forms.specs.Levels.{level_in, level_of}
use Rattle.tb_expr.specs.Exprs.{block_in}

abbrev pub ExprForm : Type 0
ExprForm = Expr-F Else Expr FieldValue Stmt Block Initializer

abbrev pub ElseForm : Type 0
ElseForm = Else-F Else Expr FieldValue Stmt Block Initializer

abbrev pub FieldForm : Type 0
FieldForm = FieldValue-F Else Expr FieldValue Stmt Block Initializer

abbrev pub StmtForm : Type 0
StmtForm = Stmt-F Else Expr FieldValue Stmt Block Initializer

abbrev pub BlockForm : Type 0
BlockForm = Block-F Else Expr FieldValue Stmt Block Initializer

abbrev pub InitializerForm : Type 0
InitializerForm = Initializer-F Else Expr FieldValue Stmt Block Initializer

-- the depth of a form, by the depths of what lies in it
abbrev pub expr_form : ExprForm → ℕ
expr_form row = expr_step (map-Expr _ _ _ _ _ _ ℕ ℕ ℕ ℕ ℕ ℕ else_depth expr_depth field_depth stmt_depth block_depth initializer_depth row)

abbrev pub else_form : ElseForm → ℕ
else_form row = else_step (map-Else _ _ _ _ _ _ ℕ ℕ ℕ ℕ ℕ ℕ else_depth expr_depth field_depth stmt_depth block_depth initializer_depth row)

abbrev pub field_form : FieldForm → ℕ
field_form row = field_step (map-FieldValue _ _ _ _ _ _ ℕ ℕ ℕ ℕ ℕ ℕ else_depth expr_depth field_depth stmt_depth block_depth initializer_depth row)

abbrev pub stmt_form : StmtForm → ℕ
stmt_form row = stmt_step (map-Stmt _ _ _ _ _ _ ℕ ℕ ℕ ℕ ℕ ℕ else_depth expr_depth field_depth stmt_depth block_depth initializer_depth row)

abbrev pub block_form : BlockForm → ℕ
block_form row = block_step (map-Block _ _ _ _ _ _ ℕ ℕ ℕ ℕ ℕ ℕ else_depth expr_depth field_depth stmt_depth block_depth initializer_depth row)

abbrev pub initializer_form : InitializerForm → ℕ
initializer_form row = initializer_step (map-Initializer _ _ _ _ _ _ ℕ ℕ ℕ ℕ ℕ ℕ else_depth expr_depth field_depth stmt_depth block_depth initializer_depth row)

pub expr-roll : (row : ExprForm) → expr_depth (roll-Expr row) ≡ expr_form row
expr-roll = fold-roll-Expr ℕ ℕ ℕ ℕ ℕ ℕ else_step expr_step field_step stmt_step block_step initializer_step

pub else-roll : (row : ElseForm) → else_depth (roll-Else row) ≡ else_form row
else-roll = fold-roll-Else ℕ ℕ ℕ ℕ ℕ ℕ else_step expr_step field_step stmt_step block_step initializer_step

pub field-roll : (row : FieldForm) → field_depth (roll-FieldValue row) ≡ field_form row
field-roll = fold-roll-FieldValue ℕ ℕ ℕ ℕ ℕ ℕ else_step expr_step field_step stmt_step block_step initializer_step

pub stmt-roll : (row : StmtForm) → stmt_depth (roll-Stmt row) ≡ stmt_form row
stmt-roll = fold-roll-Stmt ℕ ℕ ℕ ℕ ℕ ℕ else_step expr_step field_step stmt_step block_step initializer_step

pub block-roll : (row : BlockForm) → block_depth (roll-Block row) ≡ block_form row
block-roll = fold-roll-Block ℕ ℕ ℕ ℕ ℕ ℕ else_step expr_step field_step stmt_step block_step initializer_step

pub initializer-roll : (row : InitializerForm) → initializer_depth (roll-Initializer row) ≡ initializer_form row
initializer-roll = fold-roll-Initializer ℕ ℕ ℕ ℕ ℕ ℕ else_step expr_step field_step stmt_step block_step initializer_step

-- what bounds a tree bounds its form
pub expr-bound : (row : ExprForm) (n : ℕ) → expr_depth (roll-Expr row) ≤ n → expr_form row ≤ n
expr-bound row n b = subst (λ m. m ≤ n) (expr-roll row) b

pub else-bound : (row : ElseForm) (n : ℕ) → else_depth (roll-Else row) ≤ n → else_form row ≤ n
else-bound row n b = subst (λ m. m ≤ n) (else-roll row) b

pub field-bound : (row : FieldForm) (n : ℕ) → field_depth (roll-FieldValue row) ≤ n → field_form row ≤ n
field-bound row n b = subst (λ m. m ≤ n) (field-roll row) b

pub stmt-bound : (row : StmtForm) (n : ℕ) → stmt_depth (roll-Stmt row) ≤ n → stmt_form row ≤ n
stmt-bound row n b = subst (λ m. m ≤ n) (stmt-roll row) b

pub initializer-bound : (row : InitializerForm) (n : ℕ) → initializer_depth (roll-Initializer row) ≤ n → initializer_form row ≤ n
initializer-bound row n b = subst (λ m. m ≤ n) (initializer-roll row) b

-- the depth of a last expression that may be left out, and so on
abbrev pub last_depth : Option Expr → ℕ
last_depth None = 0
last_depth (Some e) = expr_depth e

abbrev pub otherwise_depth : Option Else → ℕ
otherwise_depth None = 0
otherwise_depth (Some e) = else_depth e

abbrev pub value_depth : Option Initializer → ℕ
value_depth None = 0
value_depth (Some value) = initializer_depth value

block-deep : (opening : Span) (statements : List Stmt) (last : Option Expr) (closing : Span) → block_depth (block_in opening statements last closing) ≡ max (deepest (map stmt_depth statements)) (last_depth last) + 1
block-deep opening statements None closing = block-roll _
block-deep opening statements (Some e) closing = block-roll _

pub block-bound : (opening : Span) (statements : List Stmt) (last : Option Expr) (closing : Span) (n : ℕ) → block_depth (block_in opening statements last closing) ≤ suc n
    → (deepest (map stmt_depth statements) ≤ n) × (last_depth last ≤ n)
block-bound opening statements last closing n b =
    let more : max (deepest (map stmt_depth statements)) (last_depth last) + 1 ≤ suc n = subst (λ m. m ≤ suc n) (block-deep opening statements last closing) b in
    (omega arith, omega arith)

-- the level of a form
pub level-roll : (row : ExprForm) → level_of (roll-Expr row) ≡ level_in row
level-roll row = ap level_in (out-roll-Expr row)

-- a block and an expression are nodes
block-some : (block : Block) → 1 ≤ block_depth block
block-some block =
    let e : block_depth block ≡ block_form (out-Block block) = fold_out-Block ℕ ℕ ℕ ℕ ℕ ℕ else_step expr_step field_step stmt_step block_step initializer_step block in
    omega arith

form-some : (row : ExprForm) → 1 ≤ expr_form row
form-some (Expr-F.Block body) = block-some body
form-some row = omega arith

pub expr-some : (e : Expr) → 1 ≤ expr_depth e
expr-some e =
    let same : expr_depth e ≡ expr_form (out-Expr e) = fold_out-Expr ℕ ℕ ℕ ℕ ℕ ℕ else_step expr_step field_step stmt_step block_step initializer_step e in
    let some = form-some (out-Expr e) in
    omega arith
