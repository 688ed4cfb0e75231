-- What is so written has these pieces.
use Rattle.std.proofs.Common.{ℕ, List, [], ◌∷◌, ◌++◌, map, Option, refl, inl}
use Rattle.std.specs.Prelude.{codes}
use Rattle.tb_perm.specs.declared.span.Span.{Span}
use Rattle.tb_lex.specs.declared.keyword.Keyword.TheVariants as keyword_of
use Rattle.tb_lex.specs.declared.punctuation.Punctuation.{Punctuation}
use Rattle.tb_lex.specs.declared.punctuation.Punctuation.TheVariants as punct_of
use Rattle.tb_lex.specs.declared.punctuation.Punctuation.TheVariants.{OpenParen, CloseParen, CloseBracket, CloseBrace, Comma, Semicolon}
use Rattle.tb_ast.specs.declared.leaf.Ident.{Ident}
use Rattle.tb_ast.specs.declared.written.Turbofish.{Turbofish}
use Rattle.tb_ast.specs.declared.expression.Expr.{Expr}
use Rattle.tb_ast.specs.declared.expression.Else.{Else}
use Rattle.tb_ast.specs.declared.expression.Block.{Block}
use Rattle.tb_ast.specs.declared.expression.Stmt.{Stmt}
use Rattle.tb_ast.specs.declared.expression.FieldValue.{FieldValue}
use Rattle.tb_ast.specs.declared.expression.Initializer.{Initializer}
use Rattle.tb_ast.specs.declared.expression.Else.TheOpen.{Else-F, Expr-F, FieldValue-F, Stmt-F}
use Rattle.tb_ast.specs.Pieces.{punct, mark, keyword, ident, number, literal, optional_mark, separated, in_order, path_pieces}
use Rattle.tb_ast.specs.Types.{Row, type_pieces, turbofish_pieces}
use Rattle.tb_ast.specs.Expressions.{binary_mark, assign_mark, borrow_kind, path_row, print_word, print_text, macro_front, else_pieces, expr_pieces, field_pieces, stmt_pieces, block_pieces, initializer_pieces}
use Rattle.tb_syntax.specs.State.{State, Stands}
use Rattle.tb_syntax.proofs.Chains.{stands-then, stands-split, stands-one, one-stands}
use Rattle.tb_forms.specs.declared.place.Where.{Where}
use Rattle.tb_forms.specs.declared.place.Where.TheVariants.{Anywhere, Condition}
use Rattle.tb_forms.specs.Levels.{prefix_level, loosest_level}
use Rattle.tb_forms.specs.declared.step.Step.TheVariants as step
use Rattle.tb_forms.specs.Steps.{IsStepAt}
use Rattle.tb_expr.specs.Grammar.{IsExprAt, ALiteral, APath, AStruct, ACall, AUnit, AParen, ATuple, AnArray, ARepeat, ABlocky, AReturn, AReturnOf, ABreak, AContinue, APrint, APanic, AnAssert, AUnary, ABorrow, AField, ATupleField, AMethod, AnIndex, ACast, ABinary, AnAssign, AnAssignOp, IsWholeAt, AWhole, IsBlockyAt, ABlock, AnUnsafe, AWhile, ALoop, AnIf, IsIfAt, If, IsElseAt, NoElse, ElseBlock, ElseIf, AreExprsAt, NoExprs, LastExpr, MoreExprs, IsFieldAt, NamedField, ShortField, AreFieldsAt, NoFields, LastField, MoreFields, IsBlockAt, Braced, AreLinesAt, NoLines, LastLine, MoreLines, IsValueAt, BlockyValue, PlainValue, IsStmtAt, EmptyStmt, LetStmt, PlainStmt, BlockyStmt, IsInitializerAt, NoInitializer, AnInitializer}
use Rattle.tb_expr.proofs.SpelledRows.{expr-rolled, else-rolled, field-rolled, stmt-rolled, initializer-rolled, pieces_if, closed-by, if-stands, block-stands, let-stands}

-- the pieces of expressions, and of fields, with commas between them
abbrev exprs_pieces : List Expr → List Span → Row
exprs_pieces values commas = separated Comma (map expr_pieces values) commas

abbrev fields_pieces : List FieldValue → List Span → Row
fields_pieces fields commas = separated Comma (map field_pieces fields) commas

-- a method's name, its types and `(`, before its arguments
method-stands : (depth : ℕ) (dot : Span) (name : Ident) (turbofish : Option Turbofish) (opening : Span) (row : Row) (state middle rest : State)
    → IsStepAt depth state (step.MethodCall dot name turbofish opening) middle → Stands row middle rest
    → Stands (punct punct_of.Dot dot ∷ ident name ∷ (turbofish_pieces turbofish ++ (punct OpenParen opening ∷ row))) state rest
method-stands depth dot name turbofish opening row state middle rest s h =
    let named = s.0.2 in
    let parts = stands-split (turbofish_pieces turbofish) (punct OpenParen opening ∷ []) named.0 middle named.2 in
    let opens = stands-one (punct OpenParen opening) parts.0 middle parts.2 in
    (s.0.0, s.0.1, (named.0, named.1, stands-then (turbofish_pieces turbofish) (punct OpenParen opening ∷ row) named.0 parts.0 rest parts.1 (middle, opens, h)))

-- the lines of a block: its statements, and then its value
pub record Lined (statements : List Stmt) (last : Option Expr) (state rest : State) : Type 0 where
  pub middle : State
  pub first : Stands (in_order (map stmt_pieces statements)) state middle
  pub value : Stands (pieces_if expr_pieces last) middle rest

-- each stands as its pieces do
mutual
  pub expr-spelled : (place : Where) (state : State) (e : Expr) (rest : State) → IsExprAt place state e rest → Stands (expr_pieces e) state rest
  expr-spelled place state e rest (ALiteral value begins) = expr-rolled (Expr-F.Literal value) state rest (one-stands (literal value) state rest begins)
  expr-spelled place state e rest (APath path depth is) = expr-rolled (Expr-F.Path path) state rest is.0.stands
  expr-spelled place state e rest (AStruct path opening fields commas closing a b is f c) =
      expr-rolled _ state rest
      (stands-then (path_pieces path) _ state is.3 rest is.4 (a, is.5, closed-by (fields_pieces fields commas) CloseBrace closing a b rest (fields-spelled a fields commas b f) c))
  expr-spelled place state e rest (ACall callee depth opening arguments commas closing a b is f c) =
      expr-rolled _ state rest
      (stands-then (path_row callee) _ state is.0 rest is.1.stands (a, is.2, closed-by (exprs_pieces arguments commas) CloseParen closing a b rest (exprs-spelled CloseParen a arguments commas b f) c))
  expr-spelled place state e rest (AUnit opening closing a begins c) = expr-rolled _ state rest (a, begins, one-stands (punct CloseParen closing) a rest c)
  expr-spelled place state e rest (AParen opening inner closing a b begins w c) =
      expr-rolled _ state rest (a, begins, closed-by (expr_pieces inner) CloseParen closing a b rest (whole-spelled Anywhere loosest_level a inner b w) c)
  expr-spelled place state e rest (ATuple opening parts commas closing a b begins f two c) =
      expr-rolled _ state rest (a, begins, closed-by (exprs_pieces parts commas) CloseParen closing a b rest (exprs-spelled CloseParen a parts commas b f) c)
  expr-spelled place state e rest (AnArray opening elements commas closing a b begins f c) =
      expr-rolled _ state rest (a, begins, closed-by (exprs_pieces elements commas) CloseBracket closing a b rest (exprs-spelled CloseBracket a elements commas b f) c)
  expr-spelled place state e rest (ARepeat opening element semicolon count closing a b c d begins w s n i l) =
      expr-rolled _ state rest (
        a,
        begins,
        stands-then (expr_pieces element) (punct Semicolon semicolon ∷ number count ∷ punct CloseBracket closing ∷ []) a b rest (whole-spelled Anywhere loosest_level a element b w)
            (c, s, (d, n, one-stands (punct CloseBracket closing) d rest l)),
      )
  expr-spelled place state e rest (ABlocky x is) = blocky-spelled state x rest is
  expr-spelled place state e rest (AReturn at begins stop) = expr-rolled _ state rest (one-stands (keyword keyword_of.Return at) state rest begins)
  expr-spelled place state e rest (AReturnOf at value a begins w) = expr-rolled _ state rest (a, begins, whole-spelled place loosest_level a value rest w)
  expr-spelled place state e rest (ABreak span begins) = expr-rolled (Expr-F.Break span) state rest (one-stands (keyword keyword_of.Break span) state rest begins)
  expr-spelled place state e rest (AContinue span begins) = expr-rolled (Expr-F.Continue span) state rest (one-stands (keyword keyword_of.Continue span) state rest begins)
  expr-spelled place state e rest (APrint name newline bang opening text values commas closing a b is f v c) =
      let parts = stands-split (macro_front (print_word newline) name bang opening) (print_text text) state a is.0 in
      expr-rolled _ state rest
      (stands-then (macro_front (print_word newline) name bang opening) _ state parts.0 rest parts.1
      (stands-then (print_text text) _ parts.0 a rest parts.2 (closed-by (exprs_pieces values commas) CloseParen closing a b rest (exprs-spelled CloseParen a values commas b f) c)))
  expr-spelled place state e rest (APanic name bang opening text closing is) = expr-rolled _ state rest is
  expr-spelled place state e rest (AnAssert name bang opening condition comma closing a b c is w m l) =
      expr-rolled _ state rest
      (stands-then (macro_front (codes "assert") name bang opening) _ state a rest is
      (stands-then (expr_pieces condition) _ a b rest (whole-spelled Anywhere loosest_level a condition b w) (closed-by (optional_mark Comma comma) CloseParen closing b c rest m l)))
  expr-spelled place state e rest (AUnary operator at operand a begins w) = expr-rolled _ state rest (a, begins, whole-spelled place prefix_level a operand rest w)
  expr-spelled place state e rest (ABorrow and kind operand a is w) =
      expr-rolled _ state rest (is.0, is.1, stands-then (borrow_kind kind) (expr_pieces operand) is.0 a rest is.2 (whole-spelled place prefix_level a operand rest w))
  expr-spelled place state e rest (AField base dot name a is l s) =
      expr-rolled _ state rest
      (stands-then (expr_pieces base) (punct punct_of.Dot dot ∷ ident name ∷ []) state a rest (expr-spelled place state base a is) (s.0, s.1, one-stands (ident name) s.0 rest s.2))
  expr-spelled place state e rest (ATupleField base dot index a is l s) =
      expr-rolled _ state rest
      (stands-then (expr_pieces base) (punct punct_of.Dot dot ∷ number index ∷ []) state a rest (expr-spelled place state base a is) (s.0, s.1, one-stands (number index) s.0 rest s.2))
  expr-spelled place state e rest (AMethod receiver depth dot name turbofish opening arguments commas closing a b c is l s f m) =
      let row : Row = exprs_pieces arguments commas ++ punct CloseParen closing ∷ [] in
      let behind = closed-by (exprs_pieces arguments commas) CloseParen closing b c rest (exprs-spelled CloseParen b arguments commas c f) m in
      expr-rolled _ state rest
      (stands-then (expr_pieces receiver) _ state a rest (expr-spelled place state receiver a is) (method-stands depth dot name turbofish opening row a b rest s behind))
  expr-spelled place state e rest (AnIndex base opening index closing a b c is l s w m) =
      expr-rolled _ state rest
      (stands-then (expr_pieces base) _ state a rest (expr-spelled place state base a is) (b, s, closed-by (expr_pieces index) CloseBracket closing b c rest (whole-spelled Anywhere loosest_level b index c w) m))
  expr-spelled place state e rest (ACast operand depth at ty a is l s) =
      expr-rolled _ state rest (stands-then (expr_pieces operand) (keyword keyword_of.As at ∷ type_pieces ty) state a rest (expr-spelled place state operand a is) (s.0, s.1, s.2.stands))
  expr-spelled place state e rest (ABinary left operator at right a b is l s w) =
      expr-rolled _ state rest
      (stands-then (expr_pieces left) (mark (binary_mark operator) at ∷ expr_pieces right) state a rest (expr-spelled place state left a is) (b, inl s, whole-spelled place _ b right rest w))
  expr-spelled place state e rest (AnAssign target equals value a b is l s w) =
      expr-rolled _ state rest
      (stands-then (expr_pieces target) (mark punct_of.Eq equals ∷ expr_pieces value) state a rest (expr-spelled place state target a is) (b, inl s, whole-spelled place loosest_level b value rest w))
  expr-spelled place state e rest (AnAssignOp target operator at value a b is l s w) =
      expr-rolled _ state rest
      (stands-then (expr_pieces target) (punct (assign_mark operator) at ∷ expr_pieces value) state a rest (expr-spelled place state target a is) (b, inl s, whole-spelled place loosest_level b value rest w))

  pub whole-spelled : (place : Where) (most : ℕ) (state : State) (e : Expr) (rest : State) → IsWholeAt place most state e rest → Stands (expr_pieces e) state rest
  whole-spelled place most state e rest (AWhole x is l stop) = expr-spelled place state x rest is

  pub blocky-spelled : (state : State) (e : Expr) (rest : State) → IsBlockyAt state e rest → Stands (expr_pieces e) state rest
  blocky-spelled state e rest (ABlock body is) = expr-rolled (Expr-F.Block body) state rest (block-spelled state body rest is)
  blocky-spelled state e rest (AnUnsafe at body a begins is) = expr-rolled _ state rest (a, begins, block-spelled a body rest is)
  blocky-spelled state e rest (AWhile at condition body a b begins w is) =
      expr-rolled _ state rest (a, begins, stands-then (expr_pieces condition) (block_pieces body) a b rest (whole-spelled Condition loosest_level a condition b w) (block-spelled b body rest is))
  blocky-spelled state e rest (ALoop at body a begins is) = expr-rolled _ state rest (a, begins, block-spelled a body rest is)
  blocky-spelled state e rest (AnIf branch is) = if-spelled state branch rest is

  pub if-spelled : (state : State) (e : Expr) (rest : State) → IsIfAt state e rest → Stands (expr_pieces e) state rest
  if-spelled state e rest (If at condition body otherwise a b c begins w is o) =
      if-stands at condition body otherwise state a b c rest begins (whole-spelled Condition loosest_level a condition b w) (block-spelled b body c is) (else-spelled c otherwise rest o)

  pub else-spelled : (state : State) (otherwise : Option Else) (rest : State) → IsElseAt state otherwise rest → Stands (pieces_if else_pieces otherwise) state rest
  else-spelled state otherwise rest (NoElse stop) = refl
  else-spelled state otherwise rest (ElseBlock at body a begins is) = else-rolled (Else-F.ElseBlock at body) state rest (a, begins, block-spelled a body rest is)
  else-spelled state otherwise rest (ElseIf at branch a begins is) = else-rolled (Else-F.ElseIf at branch) state rest (a, begins, if-spelled a branch rest is)

  pub exprs-spelled : (close : Punctuation) (state : State) (values : List Expr) (commas : List Span) (rest : State) → AreExprsAt close state values commas rest
      → Stands (separated Comma (map expr_pieces values) commas) state rest
  exprs-spelled close state values commas rest (NoExprs c) = refl
  exprs-spelled close state values commas rest (LastExpr e w stop) = stands-then (expr_pieces e) [] state rest rest (whole-spelled Anywhere loosest_level state e rest w) refl
  exprs-spelled close state values commas rest (MoreExprs e comma others marks a b w c more) =
      stands-then (expr_pieces e) (punct Comma comma ∷ exprs_pieces others marks) state a rest (whole-spelled Anywhere loosest_level state e a w) (b, c, exprs-spelled close b others marks rest more)

  pub field-spelled : (state : State) (field : FieldValue) (rest : State) → IsFieldAt state field rest → Stands (field_pieces field) state rest
  field-spelled state field rest (NamedField name colon value a b n c w) = field-rolled (FieldValue-F.Named name colon value) state rest (a, n, (b, c, whole-spelled Anywhere loosest_level b value rest w))
  field-spelled state field rest (ShortField name n stop) = field-rolled (FieldValue-F.Short name) state rest (one-stands (ident name) state rest n)

  pub fields-spelled : (state : State) (fields : List FieldValue) (commas : List Span) (rest : State) → AreFieldsAt state fields commas rest
      → Stands (separated Comma (map field_pieces fields) commas) state rest
  fields-spelled state fields commas rest (NoFields c) = refl
  fields-spelled state fields commas rest (LastField field w stop) = stands-then (field_pieces field) [] state rest rest (field-spelled state field rest w) refl
  fields-spelled state fields commas rest (MoreFields field comma others marks a b w c more) =
      stands-then (field_pieces field) (punct Comma comma ∷ fields_pieces others marks) state a rest (field-spelled state field a w) (b, c, fields-spelled b others marks rest more)

  pub block-spelled : (state : State) (block : Block) (rest : State) → IsBlockAt state block rest → Stands (block_pieces block) state rest
  block-spelled state block rest (Braced opening statements last closing a b begins lines ends) =
      let l = lines-spelled a statements last b lines in
      block-stands opening statements last closing state a l.middle b rest begins l.first l.value ends

  pub lines-spelled : (state : State) (statements : List Stmt) (last : Option Expr) (rest : State) → AreLinesAt state statements last rest → Lined statements last state rest
  lines-spelled state statements last rest (NoLines c) = record { middle = rest; first = refl; value = refl }
  lines-spelled state statements last rest (LastLine e is) = record { middle = state; first = refl; value = value-spelled state e rest is }
  lines-spelled state statements last rest (MoreLines statement others value a is more) =
      let l = lines-spelled a others value rest more in
      record { middle = l.middle; first = stands-then (stmt_pieces statement) (in_order (map stmt_pieces others)) state a l.middle (stmt-spelled state statement a is) l.first; value = l.value }

  pub value-spelled : (state : State) (e : Expr) (rest : State) → IsValueAt state e rest → Stands (expr_pieces e) state rest
  value-spelled state e rest (BlockyValue x is c) = blocky-spelled state x rest is
  value-spelled state e rest (PlainValue x begins is c) = whole-spelled Anywhere loosest_level state x rest is

  pub stmt-spelled : (state : State) (statement : Stmt) (rest : State) → IsStmtAt state statement rest → Stands (stmt_pieces statement) state rest
  stmt-spelled state statement rest (EmptyStmt span begins) = stmt-rolled (Stmt-F.Empty span) state rest (one-stands (punct Semicolon span) state rest begins)
  stmt-spelled state statement rest (LetStmt at mutable name ty depth value semicolon a b c d e begins m n t is ends v s) =
      let-stands at mutable name ty value semicolon state a b c d e rest begins m n t (initializer-spelled d value e v) s
  stmt-spelled state statement rest (PlainStmt e semicolon a begins w s) =
      stmt-rolled _ state rest (closed-by (expr_pieces e) Semicolon semicolon state a rest (whole-spelled Anywhere loosest_level state e a w) s)
  stmt-spelled state statement rest (BlockyStmt e is c) = stmt-rolled (Stmt-F.Blocky e) state rest (blocky-spelled state e rest is)

  pub initializer-spelled : (state : State) (value : Option Initializer) (rest : State) → IsInitializerAt state value rest → Stands (pieces_if initializer_pieces value) state rest
  initializer-spelled state value rest (NoInitializer stop) = refl
  initializer-spelled state value rest (AnInitializer equals e a begins w) =
      initializer-rolled (record { equals = equals; value = e }) state rest (a, begins, whole-spelled Anywhere loosest_level a e rest w)
