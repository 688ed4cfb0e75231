-- What stands there is read, whatever follows it, with a depth that is no less than its own.
use Rattle.std.proofs.Common.{◌≡◌, ℕ, suc, ◌≤◌, false, List, map, length, Option, Some}
use Rattle.tb_perm.specs.declared.span.Span.{Span}
use Rattle.tb_lex.specs.declared.punctuation.Punctuation.{Punctuation}
use Rattle.tb_lex.specs.declared.punctuation.Punctuation.TheVariants.{CloseParen}
use Rattle.tb_ast.specs.declared.expression.Expr.{Expr}
use Rattle.tb_ast.specs.declared.expression.Else.{Else}
use Rattle.tb_ast.specs.declared.expression.Block.{Block}
use Rattle.tb_ast.specs.declared.expression.Stmt.{Stmt}
use Rattle.tb_ast.specs.declared.expression.FieldValue.{FieldValue}
use Rattle.tb_ast.specs.declared.expression.Initializer.{Initializer}
use Rattle.tb_ast.specs.Depth.{deepest, expr_depth, stmt_depth, block_depth}
use Rattle.tb_syntax.specs.State.{State}
use Rattle.tb_syntax.proofs.Listed.{begins-has}
use Rattle.tb_forms.specs.declared.place.Where.{Where}
use Rattle.tb_forms.specs.declared.place.Where.TheVariants.{Anywhere, Condition}
use Rattle.tb_forms.specs.Levels.{operand_alone, prefix_level, loosest_level}
use Rattle.tb_expr.specs.declared.lines.Line.TheVariants as line
use Rattle.tb_expr.specs.Exprs.{lines_in, expr_at, block_at, line_at}
use Rattle.tb_expr.specs.Grammar.{IsExprAt, IsWholeAt, IsBlockyAt, IsIfAt, IsElseAt, AreExprsAt, IsFieldAt, AreFieldsAt, IsBlockAt, AreLinesAt, IsValueAt, IsStmtAt, IsInitializerAt}
use Rattle.tb_expr.specs.Grammar.{ALiteral, APath, AStruct, ACall, AUnit, AParen, ATuple, AnArray, ARepeat, ABlocky, AReturn, AReturnOf, ABreak, AContinue, APrint, APanic, AnAssert, AUnary, ABorrow, AField, ATupleField, AMethod, AnIndex, ACast, ABinary, AnAssign, AnAssignOp, AWhole, ABlock, AnUnsafe, AWhile, ALoop, AnIf, If, NoElse, ElseBlock, ElseIf, NoExprs, LastExpr, MoreExprs, NamedField, ShortField, NoFields, LastField, MoreFields, Braced, NoLines, LastLine, MoreLines, BlockyValue, PlainValue, EmptyStmt, LetStmt, PlainStmt, BlockyStmt, NoInitializer, AnInitializer}
use Rattle.tb_expr.proofs.CompleteDepths.{last_depth}
use Rattle.tb_expr.proofs.CompleteReads.{Whole, Reaches, Blocky, Otherwise, Exprs, OneField, Fields, Braces, Lined, Statement, LastValue, Initialized}
use Rattle.tb_expr.proofs.CompleteLists.{exprs-none, exprs-last, exprs-more, field-named, field-short, fields-none, fields-last, fields-more}
use Rattle.tb_expr.proofs.CompleteOperands.{literal-operand, path-operand, break-operand, continue-operand, panic-operand, unary-operand, borrow-operand, return-operand, return-of-operand, assert-operand, unit-operand, paren-operand, tuple-operand, array-operand, repeat-operand, struct-operand, call-operand, print-operand, block-operand, unsafe-operand, loop-operand, while-operand, if-operand}
use Rattle.tb_expr.proofs.CompleteSteps.{operand-reaches, whole-reached, blocky-whole, field-reaches, tuple-field-reaches, method-reaches, index-reaches, cast-reaches, binary-reaches, assign-reaches, compute-reaches}
use Rattle.tb_expr.proofs.CompleteLines.{initializer-none, initializer-some, empty-statement, let-statement, plain-statement, blocky-statement, blocky-last, plain-last, lines-none, lines-last, lines-more, braces-read, no-otherwise, block-otherwise, if-otherwise}

mutual
  expr-reaches : (place : Where) (state : State) (e : Expr) (rest : State) → IsExprAt place state e rest → Reaches place state e rest
  expr-reaches place state e rest (ALiteral value h) = operand-reaches place state _ rest (literal-operand place state value rest h)
  expr-reaches place state e rest (APath path n h) = operand-reaches place state _ rest (path-operand place state path rest n h)
  expr-reaches place state e rest (AStruct path opening fields commas closing a b h inside last) =
      operand-reaches place state _ rest (struct-operand place state path opening fields commas closing a b rest h last (fields-read a fields commas b inside))
  expr-reaches place state e rest (ACall callee n opening arguments commas closing a b h inside last) =
      operand-reaches place state _ rest (call-operand place state callee n opening arguments commas closing a b rest h last (exprs-read CloseParen a arguments commas b inside))
  expr-reaches place state e rest (AUnit opening closing a h last) =
      operand-reaches place state _ rest (unit-operand place state opening closing a rest h (exprs-none CloseParen a (begins-has CloseParen (record { span = closing; glued = false }) a rest last)) last)
  expr-reaches place state e rest (AParen opening inner closing a b h inside last) =
      operand-reaches place state _ rest (paren-operand place state opening inner closing a b rest h inside last (whole-read Anywhere loosest_level a inner b inside))
  expr-reaches place state e rest (ATuple opening parts commas closing a b h inside two last) =
      operand-reaches place state _ rest (tuple-operand place state opening parts commas closing a b rest h two last (exprs-read CloseParen a parts commas b inside))
  expr-reaches place state e rest (AnArray opening elements commas closing a b h inside last) =
      operand-reaches place state _ rest (array-operand place state opening elements commas closing a b rest h last (exprs-read _ a elements commas b inside))
  expr-reaches place state e rest (ARepeat opening element semicolon count closing a b c d h inside second third good last) =
      operand-reaches place state _ rest (repeat-operand place state opening element semicolon count closing a b c d rest h inside second third good last (whole-read Anywhere loosest_level a element b inside))
  expr-reaches place state e rest (ABlocky x h) = operand-reaches place state x rest (blocky-read state x rest h place)
  expr-reaches place state e rest (AReturn at h stop) = operand-reaches place state _ rest (return-operand place state at rest h stop)
  expr-reaches place state e rest (AReturnOf at value a h inside) = operand-reaches place state _ rest (return-of-operand place state at value a rest h inside (whole-read place loosest_level a value rest inside))
  expr-reaches place state e rest (ABreak span h) = operand-reaches place state _ rest (break-operand place state span rest h)
  expr-reaches place state e rest (AContinue span h) = operand-reaches place state _ rest (continue-operand place state span rest h)
  expr-reaches place state e rest (APrint name newline bang opening text values commas closing a b h inside none last) =
      operand-reaches place state _ rest (print-operand place state name newline bang opening text values commas closing a b rest h inside none last (exprs-read CloseParen a values commas b inside))
  expr-reaches place state e rest (APanic name bang opening text closing h) = operand-reaches place state _ rest (panic-operand place state name bang opening text closing rest h)
  expr-reaches place state e rest (AnAssert name bang opening condition comma closing a b c h inside second last) =
      operand-reaches place state _ rest (assert-operand place state name bang opening condition comma closing a b c rest h second last (whole-read Anywhere loosest_level a condition b inside))
  expr-reaches place state e rest (AUnary operator at operand a h inside) = operand-reaches place state _ rest (unary-operand place state operator at operand a rest h (whole-read place prefix_level a operand rest inside))
  expr-reaches place state e rest (ABorrow and kind operand a h inside) = operand-reaches place state _ rest (borrow-operand place state and kind operand a rest h (whole-read place prefix_level a operand rest inside))
  expr-reaches place state e rest (AField base dot name a left tight h) = field-reaches place state base dot name a rest tight h (expr-reaches place state base a left)
  expr-reaches place state e rest (ATupleField base dot index a left tight h) = tuple-field-reaches place state base dot index a rest tight h (expr-reaches place state base a left)
  expr-reaches place state e rest (AMethod receiver n dot name turbofish opening arguments commas closing a b c left tight h inside last) =
      method-reaches place state receiver n dot name turbofish opening arguments commas closing a b c rest tight h last (expr-reaches place state receiver a left) (exprs-read CloseParen b arguments commas c inside)
  expr-reaches place state e rest (AnIndex base opening index closing a b c left tight h inside last) =
      index-reaches place state base opening index closing a b c rest tight h last (expr-reaches place state base a left) (whole-read Anywhere loosest_level b index c inside)
  expr-reaches place state e rest (ACast operand n at ty a left tight h) = cast-reaches place state operand n at ty a rest tight h (expr-reaches place state operand a left)
  expr-reaches place state e rest (ABinary left operator at right a b first tight h inside) =
      binary-reaches place state left operator at right a b rest tight h (expr-reaches place state left a first) (whole-read place _ b right rest inside)
  expr-reaches place state e rest (AnAssign target equals value a b first tight h inside) =
      assign-reaches place state target equals value a b rest tight h (expr-reaches place state target a first) (whole-read place loosest_level b value rest inside)
  expr-reaches place state e rest (AnAssignOp target operator at value a b first tight h inside) =
      compute-reaches place state target operator at value a b rest tight h (expr-reaches place state target a first) (whole-read place loosest_level b value rest inside)

  whole-read : (place : Where) (most : ℕ) (state : State) (e : Expr) (rest : State) → IsWholeAt place most state e rest → Whole place most state e rest
  whole-read place most state e rest (AWhole x h fits stop) = whole-reached place most state x rest fits stop (expr-reaches place state x rest h)

  blocky-read : (state : State) (e : Expr) (rest : State) → IsBlockyAt state e rest → Blocky state e rest
  blocky-read state e rest (ABlock body h) = block-operand state body rest h (block-read state body rest h)
  blocky-read state e rest (AnUnsafe at body a h inside) = unsafe-operand state at body a rest h (block-read a body rest inside)
  blocky-read state e rest (AWhile at condition body a b h one inside) = while-operand state at condition body a b rest h (whole-read Condition loosest_level a condition b one) (block-read b body rest inside)
  blocky-read state e rest (ALoop at body a h inside) = loop-operand state at body a rest h (block-read a body rest inside)
  blocky-read state e rest (AnIf x h) = if-read state x rest h

  if-read : (state : State) (e : Expr) (rest : State) → IsIfAt state e rest → Blocky state e rest
  if-read state e rest (If at condition body otherwise a b c h one inside more) =
      if-operand state at condition body otherwise a b c rest h (whole-read Condition loosest_level a condition b one) (block-read b body c inside) (else-read c otherwise rest more)

  else-read : (state : State) (otherwise : Option Else) (rest : State) → IsElseAt state otherwise rest → Otherwise state otherwise rest
  else-read state otherwise rest (NoElse stop) = no-otherwise rest stop
  else-read state otherwise rest (ElseBlock at body a h inside) = block-otherwise state at body a rest h inside (block-read a body rest inside)
  else-read state otherwise rest (ElseIf at branch a h inside) = if-otherwise state at branch a rest h inside (blocky-whole a branch rest (if-read a branch rest inside))

  exprs-read : (close : Punctuation) (state : State) (es : List Expr) (commas : List Span) (rest : State) → AreExprsAt close state es commas rest → Exprs close state es commas rest
  exprs-read close state es commas rest (NoExprs h) = exprs-none close rest h
  exprs-read close state es commas rest (LastExpr e h stop) = exprs-last close state e rest h stop (whole-read Anywhere loosest_level state e rest h)
  exprs-read close state es commas rest (MoreExprs e comma others more a b h between hs) =
      exprs-more close state e comma others more a b rest h between (whole-read Anywhere loosest_level state e a h) (exprs-read close b others more rest hs)

  field-read : (state : State) (field : FieldValue) (rest : State) → IsFieldAt state field rest → OneField state field rest
  field-read state field rest (NamedField name colon value a b first second h) = field-named state name colon value a b rest first second (whole-read Anywhere loosest_level b value rest h)
  field-read state field rest (ShortField name first stop) = field-short state name rest first stop

  fields-read : (state : State) (fields : List FieldValue) (commas : List Span) (rest : State) → AreFieldsAt state fields commas rest → Fields state fields commas rest
  fields-read state fields commas rest (NoFields h) = fields-none rest h
  fields-read state fields commas rest (LastField field h stop) = fields-last state field rest h stop (field-read state field rest h)
  fields-read state fields commas rest (MoreFields field comma others more a b h between hs) =
      fields-more state field comma others more a b rest h between (field-read state field a h) (fields-read b others more rest hs)

  block-read : (state : State) (block : Block) (rest : State) → IsBlockAt state block rest → Braces state block rest
  block-read state block rest (Braced opening statements last closing a b first lines second) = braces-read state opening statements last closing a b rest first second (lines-read a statements last b lines)

  lines-read : (state : State) (statements : List Stmt) (last : Option Expr) (rest : State) → AreLinesAt state statements last rest → Lined state statements last rest
  lines-read state statements last rest (NoLines h) = lines-none rest h
  lines-read state statements last rest (LastLine e h) = lines-last state e rest h (value-read state e rest h)
  lines-read state statements last rest (MoreLines statement others more a h hs) = lines-more state statement others more a rest h (stmt-read state statement a h) (lines-read a others more rest hs)

  value-read : (state : State) (e : Expr) (rest : State) → IsValueAt state e rest → LastValue state e rest
  value-read state e rest (BlockyValue x h stop) = blocky-last state x rest h stop (blocky-whole state x rest (blocky-read state x rest h))
  value-read state e rest (PlainValue x other h stop) = plain-last state x rest other h stop (whole-read Anywhere loosest_level state x rest h)

  stmt-read : (state : State) (s : Stmt) (rest : State) → IsStmtAt state s rest → Statement state s rest
  stmt-read state s rest (EmptyStmt span h) = empty-statement state span rest h
  stmt-read state s rest (LetStmt word mutable name ty n value semicolon a b c d e first second third fourth is ends inside last) =
      let-statement state word mutable name ty n value semicolon a b c d e rest first second third fourth is ends last (initializer-read d value e inside)
  stmt-read state s rest (PlainStmt e semicolon a other h last) = plain-statement state e semicolon a rest other h last (whole-read Anywhere loosest_level state e a h)
  stmt-read state s rest (BlockyStmt e h stop) = blocky-statement state e rest h stop (blocky-whole state e rest (blocky-read state e rest h))

  initializer-read : (state : State) (value : Option Initializer) (rest : State) → IsInitializerAt state value rest → Initialized state value rest
  initializer-read state value rest (NoInitializer stop) = initializer-none rest stop
  initializer-read state value rest (AnInitializer equals x a h inside) = initializer-some state equals x a rest h (whole-read Anywhere loosest_level a x rest inside)

-- An expression up to its level, and one that is an operand alone.

pub whole-complete : (place : Where) (most : ℕ) (state : State) (e : Expr) (rest : State) → IsWholeAt place most state e rest → (depth : ℕ) → expr_depth e ≤ depth → prefix_level ≤ most
    → expr_at depth place most state ≡ Some (e, rest)
whole-complete place most state e rest h depth bound two = whole-read place most state e rest h depth bound

pub blocky-complete : (state : State) (e : Expr) (rest : State) → IsBlockyAt state e rest → (depth : ℕ) → expr_depth e ≤ depth → expr_at depth Anywhere operand_alone state ≡ Some (e, rest)
blocky-complete state e rest h = blocky-whole state e rest (blocky-read state e rest h)

pub if-complete : (state : State) (e : Expr) (rest : State) → IsIfAt state e rest → (depth : ℕ) → expr_depth e ≤ depth → expr_at depth Anywhere operand_alone state ≡ Some (e, rest)
if-complete state e rest h = blocky-whole state e rest (if-read state e rest h)

-- Blocks, statements and last expressions.

pub block-complete : (state : State) (block : Block) (rest : State) → IsBlockAt state block rest → (depth : ℕ) → block_depth block ≤ suc depth → block_at depth state ≡ Some (block, rest)
unfolding block_at
block-complete state block rest h depth bound = block-read state block rest h depth bound

pub stmt-complete : (state : State) (s : Stmt) (rest : State) → IsStmtAt state s rest → (depth : ℕ) → stmt_depth s ≤ suc depth → line_at depth state ≡ Some (line.Stmt s, rest)
unfolding line_at
stmt-complete state s rest h depth bound = stmt-read state s rest h depth bound

pub value-complete : (state : State) (e : Expr) (rest : State) → IsValueAt state e rest → (depth : ℕ) → expr_depth e ≤ depth → line_at depth state ≡ Some (line.Last e, rest)
unfolding line_at
value-complete state e rest h depth bound = value-read state e rest h depth bound

pub lines-complete : (state : State) (statements : List Stmt) (last : Option Expr) (rest : State) → AreLinesAt state statements last rest → (depth : ℕ) → deepest (map stmt_depth statements) ≤ suc depth
    → last_depth last ≤ depth → (fuel : ℕ) → length state ≤ fuel → lines_in depth (expr_at depth) fuel state ≡ Some ((statements, last), rest)
lines-complete state statements last rest h = lines-read state statements last rest h
