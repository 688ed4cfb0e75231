-- The pieces of a tree by the pieces of its parts.
use Rattle.std.proofs.Common.{◌≡◌, List, [], ◌∷◌, ◌++◌, map, Option, Some, None, sym, subst}
use Rattle.tb_perm.specs.declared.span.Span.{Span}
use Rattle.tb_lex.specs.declared.keyword.Keyword.TheVariants as keyword_of
use Rattle.tb_lex.specs.declared.punctuation.Punctuation.{Punctuation}
use Rattle.tb_lex.specs.declared.punctuation.Punctuation.TheVariants.{OpenBrace, CloseBrace, Semicolon}
use Rattle.tb_ast.specs.declared.leaf.Ident.{Ident}
use Rattle.tb_ast.specs.declared.written.TypeNote.{TypeNote}
use Rattle.tb_ast.specs.declared.expression.Expr.{Expr, roll-Expr}
use Rattle.tb_ast.specs.declared.expression.Else.{Else, roll-Else}
use Rattle.tb_ast.specs.declared.expression.Block.{Block, roll-Block}
use Rattle.tb_ast.specs.declared.expression.Stmt.{Stmt, roll-Stmt}
use Rattle.tb_ast.specs.declared.expression.FieldValue.{FieldValue, roll-FieldValue}
use Rattle.tb_ast.specs.declared.expression.Initializer.{Initializer, roll-Initializer}
use Rattle.tb_ast.specs.declared.expression.Else.TheOpen.{Else-F, Expr-F, FieldValue-F, Stmt-F, Block-F, Initializer-F}
use Rattle.tb_ast.specs.declared.expression.Else.TheFolds.{fold-roll-Expr, fold-roll-Else, fold-roll-FieldValue, fold-roll-Stmt, fold-roll-Block, fold-roll-Initializer, map-Else, map-Expr, map-FieldValue, map-Stmt, map-Block, map-Initializer}
use Rattle.tb_ast.specs.Pieces.{punct, keyword, ident, optional_keyword, in_order}
use Rattle.tb_ast.specs.Types.{Row, note_pieces}
use Rattle.tb_ast.specs.Expressions.{else_row, expr_row, field_row, stmt_row, block_row, initializer_row, else_pieces, expr_pieces, field_pieces, stmt_pieces, block_pieces, initializer_pieces}
use Rattle.tb_syntax.specs.State.{State, Begins, Stands}
use Rattle.tb_syntax.specs.Paths.{from_to}
use Rattle.tb_syntax.proofs.Chains.{stands-then, one-stands}
use Rattle.tb_forms.specs.Trees.{if_to, if_span}
use Rattle.tb_expr.specs.Exprs.{block_in}

-- One layer of each.

abbrev pub expr_form : Expr-F Else Expr FieldValue Stmt Block Initializer → Row
expr_form row = expr_row (map-Expr _ _ _ _ _ _ Row Row Row Row Row Row else_pieces expr_pieces field_pieces stmt_pieces block_pieces initializer_pieces row)

abbrev pub else_form : Else-F Else Expr FieldValue Stmt Block Initializer → Row
else_form row = else_row (map-Else _ _ _ _ _ _ Row Row Row Row Row Row else_pieces expr_pieces field_pieces stmt_pieces block_pieces initializer_pieces row)

abbrev pub field_form : FieldValue-F Else Expr FieldValue Stmt Block Initializer → Row
field_form row = field_row (map-FieldValue _ _ _ _ _ _ Row Row Row Row Row Row else_pieces expr_pieces field_pieces stmt_pieces block_pieces initializer_pieces row)

abbrev pub stmt_form : Stmt-F Else Expr FieldValue Stmt Block Initializer → Row
stmt_form row = stmt_row (map-Stmt _ _ _ _ _ _ Row Row Row Row Row Row else_pieces expr_pieces field_pieces stmt_pieces block_pieces initializer_pieces row)

abbrev pub block_form : Block-F Else Expr FieldValue Stmt Block Initializer → Row
block_form row = block_row (map-Block _ _ _ _ _ _ Row Row Row Row Row Row else_pieces expr_pieces field_pieces stmt_pieces block_pieces initializer_pieces row)

abbrev pub initializer_form : Initializer-F Else Expr FieldValue Stmt Block Initializer → Row
initializer_form row = initializer_row (map-Initializer _ _ _ _ _ _ Row Row Row Row Row Row else_pieces expr_pieces field_pieces stmt_pieces block_pieces initializer_pieces row)

-- the pieces of a tree are those of its layer
expr-pieces : (row : Expr-F Else Expr FieldValue Stmt Block Initializer) → expr_pieces (roll-Expr row) ≡ expr_form row
expr-pieces = fold-roll-Expr Row Row Row Row Row Row else_row expr_row field_row stmt_row block_row initializer_row

else-pieces : (row : Else-F Else Expr FieldValue Stmt Block Initializer) → else_pieces (roll-Else row) ≡ else_form row
else-pieces = fold-roll-Else Row Row Row Row Row Row else_row expr_row field_row stmt_row block_row initializer_row

field-pieces : (row : FieldValue-F Else Expr FieldValue Stmt Block Initializer) → field_pieces (roll-FieldValue row) ≡ field_form row
field-pieces = fold-roll-FieldValue Row Row Row Row Row Row else_row expr_row field_row stmt_row block_row initializer_row

stmt-pieces : (row : Stmt-F Else Expr FieldValue Stmt Block Initializer) → stmt_pieces (roll-Stmt row) ≡ stmt_form row
stmt-pieces = fold-roll-Stmt Row Row Row Row Row Row else_row expr_row field_row stmt_row block_row initializer_row

block-pieces : (row : Block-F Else Expr FieldValue Stmt Block Initializer) → block_pieces (roll-Block row) ≡ block_form row
block-pieces = fold-roll-Block Row Row Row Row Row Row else_row expr_row field_row stmt_row block_row initializer_row

initializer-pieces : (row : Initializer-F Else Expr FieldValue Stmt Block Initializer) → initializer_pieces (roll-Initializer row) ≡ initializer_form row
initializer-pieces = fold-roll-Initializer Row Row Row Row Row Row else_row expr_row field_row stmt_row block_row initializer_row

-- pieces that are equal stand alike
stands-as : (pieces row : Row) (state rest : State) → pieces ≡ row → Stands row state rest → Stands pieces state rest
stands-as pieces row state rest e h = subst (λ ps. Stands ps state rest) (sym e) h

-- a tree stands where its layer does
pub expr-rolled : (row : Expr-F Else Expr FieldValue Stmt Block Initializer) (state rest : State) → Stands (expr_form row) state rest → Stands (expr_pieces (roll-Expr row)) state rest
expr-rolled row state rest h = stands-as (expr_pieces (roll-Expr row)) (expr_form row) state rest (expr-pieces row) h

pub else-rolled : (row : Else-F Else Expr FieldValue Stmt Block Initializer) (state rest : State) → Stands (else_form row) state rest → Stands (else_pieces (roll-Else row)) state rest
else-rolled row state rest h = stands-as (else_pieces (roll-Else row)) (else_form row) state rest (else-pieces row) h

pub field-rolled : (row : FieldValue-F Else Expr FieldValue Stmt Block Initializer) (state rest : State) → Stands (field_form row) state rest → Stands (field_pieces (roll-FieldValue row)) state rest
field-rolled row state rest h = stands-as (field_pieces (roll-FieldValue row)) (field_form row) state rest (field-pieces row) h

pub stmt-rolled : (row : Stmt-F Else Expr FieldValue Stmt Block Initializer) (state rest : State) → Stands (stmt_form row) state rest → Stands (stmt_pieces (roll-Stmt row)) state rest
stmt-rolled row state rest h = stands-as (stmt_pieces (roll-Stmt row)) (stmt_form row) state rest (stmt-pieces row) h

pub block-rolled : (row : Block-F Else Expr FieldValue Stmt Block Initializer) (state rest : State) → Stands (block_form row) state rest → Stands (block_pieces (roll-Block row)) state rest
block-rolled row state rest h = stands-as (block_pieces (roll-Block row)) (block_form row) state rest (block-pieces row) h

pub initializer-rolled : (row : Initializer-F Else Expr FieldValue Stmt Block Initializer) (state rest : State) → Stands (initializer_form row) state rest → Stands (initializer_pieces (roll-Initializer row)) state rest
initializer-rolled row state rest h = stands-as (initializer_pieces (roll-Initializer row)) (initializer_form row) state rest (initializer-pieces row) h

-- What may be left out.

abbrev pub pieces_if : {A : Type 0} → (A → Row) → Option A → Row
pieces_if pieces None = []
pieces_if pieces (Some value) = pieces value

-- pieces before a mark that ends them
pub closed-by : (row : Row) (close : Punctuation) (closing : Span) (state middle rest : State) → Stands row state middle → Begins (punct close closing) middle rest → Stands (row ++ punct close closing ∷ []) state rest
closed-by row close closing state middle rest h ends = stands-then row (punct close closing ∷ []) state middle rest h (one-stands (punct close closing) middle rest ends)

-- `if`, with `else` or not
pub if-stands : (at : Span) (condition : Expr) (body : Block) (otherwise : Option Else) (state a b c rest : State)
    → Begins (keyword keyword_of.If at) state a → Stands (expr_pieces condition) a b → Stands (block_pieces body) b c → Stands (pieces_if else_pieces otherwise) c rest
    → Stands (expr_pieces (if_to at condition body otherwise)) state rest
if-stands at condition body None state a b c rest begins w is o =
    expr-rolled (Expr-F.If (if_span at body None) at condition body None) state rest
    (a, begins, stands-then (expr_pieces condition) (block_pieces body ++ []) a b rest w (stands-then (block_pieces body) [] b c rest is o))
if-stands at condition body (Some otherwise) state a b c rest begins w is o =
    expr-rolled (Expr-F.If (if_span at body (Some otherwise)) at condition body (Some otherwise)) state rest
    (a, begins, stands-then (expr_pieces condition) (block_pieces body ++ else_pieces otherwise) a b rest w (stands-then (block_pieces body) (else_pieces otherwise) b c rest is o))

-- a block, with a value or not
pub block-stands : (opening : Span) (statements : List Stmt) (last : Option Expr) (closing : Span) (state a b c rest : State)
    → Begins (punct OpenBrace opening) state a → Stands (in_order (map stmt_pieces statements)) a b → Stands (pieces_if expr_pieces last) b c → Begins (punct CloseBrace closing) c rest
    → Stands (block_pieces (block_in opening statements last closing)) state rest
block-stands opening statements None closing state a b c rest begins s l ends =
    block-rolled (record { span = from_to opening closing; opening = opening; statements = statements; last = None; closing = closing }) state rest
    (a, begins, stands-then (in_order (map stmt_pieces statements)) (punct CloseBrace closing ∷ []) a b rest s (closed-by [] CloseBrace closing b c rest l ends))
block-stands opening statements (Some last) closing state a b c rest begins s l ends =
    block-rolled (record { span = from_to opening closing; opening = opening; statements = statements; last = Some last; closing = closing }) state rest
    (a, begins, stands-then (in_order (map stmt_pieces statements)) (expr_pieces last ++ punct CloseBrace closing ∷ []) a b rest s (closed-by (expr_pieces last) CloseBrace closing b c rest l ends))

-- `let`, with a value or not
pub let-stands : (at : Span) (mutable : Option Span) (name : Ident) (ty : Option TypeNote) (value : Option Initializer) (semicolon : Span) (state a b c d e rest : State)
    → Begins (keyword keyword_of.Let at) state a → Stands (optional_keyword keyword_of.Mut mutable) a b → Begins (ident name) b c
    → Stands (note_pieces ty) c d → Stands (pieces_if initializer_pieces value) d e → Begins (punct Semicolon semicolon) e rest
    → Stands (stmt_pieces (roll-Stmt (Stmt-F.Let (from_to at semicolon) at mutable name ty value semicolon))) state rest
let-stands at mutable name ty None semicolon state a b c d e rest begins m n t v ends =
    let behind = closed-by [] Semicolon semicolon d e rest v ends in
    stmt-rolled (Stmt-F.Let (from_to at semicolon) at mutable name ty None semicolon) state rest (
      a,
      begins,
      stands-then (optional_keyword keyword_of.Mut mutable) (ident name ∷ (note_pieces ty ++ punct Semicolon semicolon ∷ [])) a b rest m
          (c, n, stands-then (note_pieces ty) (punct Semicolon semicolon ∷ []) c d rest t behind),
    )
let-stands at mutable name ty (Some value) semicolon state a b c d e rest begins m n t v ends =
    let behind = closed-by (initializer_pieces value) Semicolon semicolon d e rest v ends in
    stmt-rolled (Stmt-F.Let (from_to at semicolon) at mutable name ty (Some value) semicolon) state rest (
      a,
      begins,
      stands-then (optional_keyword keyword_of.Mut mutable) (ident name ∷ (note_pieces ty ++ (initializer_pieces value ++ punct Semicolon semicolon ∷ []))) a b rest m
          (c, n, stands-then (note_pieces ty) (initializer_pieces value ++ punct Semicolon semicolon ∷ []) c d rest t behind),
    )
