-- Each expression, block, field, statement and value takes a token at least of what is still to be read.
use Rattle.std.proofs.Common.{◌≡◌, ℕ, ◌<◌, ◌≤◌, List, ◌∷◌, length, Option, refl, ap, arith}
use Rattle.tb_perm.specs.declared.span.Span.{Span}
use Rattle.tb_lex.specs.declared.keyword.Keyword.{Keyword}
use Rattle.tb_lex.specs.declared.keyword.Keyword.TheVariants as keyword_of
use Rattle.tb_lex.specs.declared.punctuation.Punctuation.{Punctuation}
use Rattle.tb_lex.specs.declared.punctuation.Punctuation.TheVariants.{OpenParen, CloseParen, OpenBracket, CloseBracket, OpenBrace, CloseBrace, Comma, Semicolon, Colon, Eq}
use Rattle.tb_lex.specs.declared.token.TokenKind.TheVariants as kind
use Rattle.tb_ast.specs.declared.leaf.Ident.{Ident}
use Rattle.tb_ast.specs.declared.expression.Expr.{Expr}
use Rattle.tb_ast.specs.declared.expression.Else.{Else}
use Rattle.tb_ast.specs.declared.expression.Block.{Block}
use Rattle.tb_ast.specs.declared.expression.Stmt.{Stmt}
use Rattle.tb_ast.specs.declared.expression.FieldValue.{FieldValue}
use Rattle.tb_ast.specs.declared.expression.Initializer.{Initializer}
use Rattle.tb_ast.specs.Pieces.{punct, mark, keyword, ident, number, optional_keyword, optional_mark}
use Rattle.tb_ast.specs.Types.{note_pieces}
use Rattle.tb_ast.specs.Expressions.{unary_mark, binary_mark, assign_mark}
use Rattle.tb_syntax.specs.State.{State, Begins}
use Rattle.tb_syntax.proofs.Chains.{begins-shrinks, stands-shrinks}
use Rattle.tb_syntax.proofs.Tokens.{token-shorter}
use Rattle.tb_forms.specs.declared.place.Where.{Where}
use Rattle.tb_forms.specs.declared.place.Where.TheVariants.{Anywhere, Condition}
use Rattle.tb_forms.specs.Levels.{prefix_level, loosest_level}
use Rattle.tb_forms.specs.declared.front.Front.TheVariants as front
use Rattle.tb_forms.specs.declared.step.Step.TheVariants as step
use Rattle.tb_forms.proofs.Shorter.{literal-shorter, front-shorter, borrow-shrinks, step-shorter, punct-shorter}
use Rattle.tb_expr.specs.Grammar.{IsExprAt, IsWholeAt, IsBlockyAt, IsIfAt, IsElseAt, AreExprsAt, AreFieldsAt, IsFieldAt, IsBlockAt, AreLinesAt, IsValueAt, IsStmtAt, IsInitializerAt}
use Rattle.tb_expr.specs.Grammar.{ALiteral, APath, AStruct, ACall, AUnit, AParen, ATuple, AnArray, ARepeat, ABlocky, AReturn, AReturnOf, ABreak, AContinue, APrint, APanic, AnAssert, AUnary, ABorrow, AField, ATupleField, AMethod, AnIndex, ACast, ABinary, AnAssign, AnAssignOp}
use Rattle.tb_expr.specs.Grammar.{AWhole, ABlock, AnUnsafe, AWhile, ALoop, AnIf, If, NoElse, ElseBlock, ElseIf, NoExprs, LastExpr, MoreExprs, NamedField, ShortField, NoFields, LastField, MoreFields}
use Rattle.tb_expr.specs.Grammar.{Braced, NoLines, LastLine, MoreLines, BlockyValue, PlainValue, EmptyStmt, LetStmt, PlainStmt, BlockyStmt, NoInitializer, AnInitializer}

-- a keyword is read whole
word-shorter : (w : Keyword) (at : Span) (state rest : State) → Begins (keyword w at) state rest → length rest < length state
word-shorter w at state rest h = token-shorter (kind.Keyword w) at state rest refl h

name-shorter : (name : Ident) (state rest : State) → Begins (ident name) state rest → length rest < length state
name-shorter name state rest h = token-shorter (kind.Name name.name) name.span state rest refl h

-- nothing is taken
same-length : (state : State) → length state ≤ length state
same-length state = omega arith

mutual
  pub expr-shrinks : (place : Where) (state : State) (e : Expr) (rest : State) → IsExprAt place state e rest → length rest < length state
  expr-shrinks place state e rest (ALiteral value h) = literal-shorter value state rest h
  expr-shrinks place state e rest (APath path depth h) = front-shorter depth place state (front.Path path) rest refl h
  expr-shrinks place state e rest (AStruct path opening fields commas closing a b h list last) =
      let first = front-shorter 0 place state (front.StructLiteral path opening) a refl h in
      let second = fields-shrink a fields commas b list in
      let third = begins-shrinks (punct CloseBrace closing) b rest last in
      omega arith
  expr-shrinks place state e rest (ACall callee depth opening arguments commas closing a b h list last) =
      let first = front-shorter depth place state (front.Call callee opening) a refl h in
      let second = exprs-shrink CloseParen a arguments commas b list in
      let third = begins-shrinks (punct CloseParen closing) b rest last in
      omega arith
  expr-shrinks place state e rest (AUnit opening closing a h last) =
      let first = punct-shorter OpenParen opening state a refl h in
      let second = begins-shrinks (punct CloseParen closing) a rest last in
      omega arith
  expr-shrinks place state e rest (AParen opening inner closing a b h whole last) =
      let first = punct-shorter OpenParen opening state a refl h in
      let second = whole-shrinks Anywhere loosest_level a inner b whole in
      let third = begins-shrinks (punct CloseParen closing) b rest last in
      omega arith
  expr-shrinks place state e rest (ATuple opening parts commas closing a b h list two last) =
      let first = punct-shorter OpenParen opening state a refl h in
      let second = exprs-shrink CloseParen a parts commas b list in
      let third = begins-shrinks (punct CloseParen closing) b rest last in
      omega arith
  expr-shrinks place state e rest (AnArray opening elements commas closing a b h list last) =
      let first = punct-shorter OpenBracket opening state a refl h in
      let second = exprs-shrink CloseBracket a elements commas b list in
      let third = begins-shrinks (punct CloseBracket closing) b rest last in
      omega arith
  expr-shrinks place state e rest (ARepeat opening element semicolon count closing a b c d h whole semi int is last) =
      let first = punct-shorter OpenBracket opening state a refl h in
      let second = whole-shrinks Anywhere loosest_level a element b whole in
      let third = begins-shrinks (punct Semicolon semicolon) b c semi in
      let fourth = begins-shrinks (number count) c d int in
      let fifth = begins-shrinks (punct CloseBracket closing) d rest last in
      omega arith
  expr-shrinks place state e rest (ABlocky same h) = blocky-shrinks state same rest h
  expr-shrinks place state e rest (AReturn at h stop) = word-shorter keyword_of.Return at state rest h
  expr-shrinks place state e rest (AReturnOf at value a h whole) =
      let first = word-shorter keyword_of.Return at state a h in
      let second = whole-shrinks place loosest_level a value rest whole in
      omega arith
  expr-shrinks place state e rest (ABreak span h) = word-shorter keyword_of.Break span state rest h
  expr-shrinks place state e rest (AContinue span h) = word-shorter keyword_of.Continue span state rest h
  expr-shrinks place state e rest (APrint name newline bang opening text values commas closing a b h list none last) =
      let first = front-shorter 0 place state (front.Print name newline bang opening text) a refl h in
      let second = exprs-shrink CloseParen a values commas b list in
      let third = begins-shrinks (punct CloseParen closing) b rest last in
      omega arith
  expr-shrinks place state e rest (APanic name bang opening text closing h) = front-shorter 0 place state (front.Panic name bang opening text closing) rest refl h
  expr-shrinks place state e rest (AnAssert name bang opening condition comma closing a b c h whole commas last) =
      let first = front-shorter 0 place state (front.Assert name bang opening) a refl h in
      let second = whole-shrinks Anywhere loosest_level a condition b whole in
      let third = stands-shrinks (optional_mark Comma comma) b c commas in
      let fourth = begins-shrinks (punct CloseParen closing) c rest last in
      omega arith
  expr-shrinks place state e rest (AUnary operator at operand a h whole) =
      let first = begins-shrinks (punct (unary_mark operator) at) state a h in
      let second = whole-shrinks place prefix_level a operand rest whole in
      omega arith
  expr-shrinks place state e rest (ABorrow and borrowed operand a h whole) =
      let first = borrow-shrinks 0 place state and borrowed a h in
      let second = whole-shrinks place prefix_level a operand rest whole in
      omega arith
  expr-shrinks place state e rest (AField base dot name a h level s) =
      let first = expr-shrinks place state base a h in
      let second = step-shorter 0 a (step.Field dot name) rest s in
      omega arith
  expr-shrinks place state e rest (ATupleField base dot index a h level s) =
      let first = expr-shrinks place state base a h in
      let second = step-shorter 0 a (step.TupleField dot index) rest s in
      omega arith
  expr-shrinks place state e rest (AMethod receiver depth dot name turbofish opening arguments commas closing a b c h level s list last) =
      let first = expr-shrinks place state receiver a h in
      let second = step-shorter depth a (step.MethodCall dot name turbofish opening) b s in
      let third = exprs-shrink CloseParen b arguments commas c list in
      let fourth = begins-shrinks (punct CloseParen closing) c rest last in
      omega arith
  expr-shrinks place state e rest (AnIndex base opening index closing a b c h level bracket whole last) =
      let first = expr-shrinks place state base a h in
      let second = begins-shrinks (punct OpenBracket opening) a b bracket in
      let third = whole-shrinks Anywhere loosest_level b index c whole in
      let fourth = begins-shrinks (punct CloseBracket closing) c rest last in
      omega arith
  expr-shrinks place state e rest (ACast operand depth at ty a h level s) =
      let first = expr-shrinks place state operand a h in
      let second = step-shorter depth a (step.Cast at ty) rest s in
      omega arith
  expr-shrinks place state e rest (ABinary left operator at right a b h level is whole) =
      let first = expr-shrinks place state left a h in
      let l : length a ≡ length (mark (binary_mark operator) at ∷ b) = ap length is in
      let second = whole-shrinks place _ b right rest whole in
      omega arith
  expr-shrinks place state e rest (AnAssign target equals value a b h level is whole) =
      let first = expr-shrinks place state target a h in
      let l : length a ≡ length (mark Eq equals ∷ b) = ap length is in
      let second = whole-shrinks place loosest_level b value rest whole in
      omega arith
  expr-shrinks place state e rest (AnAssignOp target operator at value a b h level is whole) =
      let first = expr-shrinks place state target a h in
      let l : length a ≡ length (punct (assign_mark operator) at ∷ b) = ap length is in
      let second = whole-shrinks place loosest_level b value rest whole in
      omega arith

  pub whole-shrinks : (place : Where) (most : ℕ) (state : State) (e : Expr) (rest : State) → IsWholeAt place most state e rest → length rest < length state
  whole-shrinks place most state e rest (AWhole same h level stop) = expr-shrinks place state same rest h

  pub blocky-shrinks : (state : State) (e : Expr) (rest : State) → IsBlockyAt state e rest → length rest < length state
  blocky-shrinks state e rest (ABlock body h) = block-shrinks state body rest h
  blocky-shrinks state e rest (AnUnsafe at body a h block) =
      let first = word-shorter keyword_of.Unsafe at state a h in
      let second = block-shrinks a body rest block in
      omega arith
  blocky-shrinks state e rest (AWhile at condition body a b h whole block) =
      let first = word-shorter keyword_of.While at state a h in
      let second = whole-shrinks Condition loosest_level a condition b whole in
      let third = block-shrinks b body rest block in
      omega arith
  blocky-shrinks state e rest (ALoop at body a h block) =
      let first = word-shorter keyword_of.Loop at state a h in
      let second = block-shrinks a body rest block in
      omega arith
  blocky-shrinks state e rest (AnIf same h) = if-shrinks state same rest h

  pub if-shrinks : (state : State) (e : Expr) (rest : State) → IsIfAt state e rest → length rest < length state
  if-shrinks state e rest (If at condition body otherwise a b c h whole block other) =
      let first = word-shorter keyword_of.If at state a h in
      let second = whole-shrinks Condition loosest_level a condition b whole in
      let third = block-shrinks b body c block in
      let fourth = else-shrinks c otherwise rest other in
      omega arith

  pub else-shrinks : (state : State) (otherwise : Option Else) (rest : State) → IsElseAt state otherwise rest → length rest ≤ length state
  else-shrinks state otherwise rest (NoElse none) = same-length state
  else-shrinks state otherwise rest (ElseBlock at body a h block) =
      let first = word-shorter keyword_of.Else at state a h in
      let second = block-shrinks a body rest block in
      omega arith
  else-shrinks state otherwise rest (ElseIf at branch a h other) =
      let first = word-shorter keyword_of.Else at state a h in
      let second = if-shrinks a branch rest other in
      omega arith

  pub exprs-shrink : (close : Punctuation) (state : State) (es : List Expr) (commas : List Span) (rest : State) → AreExprsAt close state es commas rest → length rest ≤ length state
  exprs-shrink close state es commas rest (NoExprs end) = same-length state
  exprs-shrink close state es commas rest (LastExpr e whole stop) =
      let first = whole-shrinks Anywhere loosest_level state e rest whole in
      omega arith
  exprs-shrink close state es commas rest (MoreExprs e comma others marks a b whole h more) =
      let first = whole-shrinks Anywhere loosest_level state e a whole in
      let second = begins-shrinks (punct Comma comma) a b h in
      let third = exprs-shrink close b others marks rest more in
      omega arith

  pub field-shrinks : (state : State) (field : FieldValue) (rest : State) → IsFieldAt state field rest → length rest < length state
  field-shrinks state field rest (NamedField name colon value a b h second whole) =
      let first = name-shorter name state a h in
      let colons = begins-shrinks (punct Colon colon) a b second in
      let third = whole-shrinks Anywhere loosest_level b value rest whole in
      omega arith
  field-shrinks state field rest (ShortField name h stop) = name-shorter name state rest h

  pub fields-shrink : (state : State) (fields : List FieldValue) (commas : List Span) (rest : State) → AreFieldsAt state fields commas rest → length rest ≤ length state
  fields-shrink state fields commas rest (NoFields end) = same-length state
  fields-shrink state fields commas rest (LastField field h stop) =
      let first = field-shrinks state field rest h in
      omega arith
  fields-shrink state fields commas rest (MoreFields field comma others marks a b h second more) =
      let first = field-shrinks state field a h in
      let mark_there = begins-shrinks (punct Comma comma) a b second in
      let third = fields-shrink b others marks rest more in
      omega arith

  pub block-shrinks : (state : State) (body : Block) (rest : State) → IsBlockAt state body rest → length rest < length state
  block-shrinks state body rest (Braced opening statements last closing a b h lines end) =
      let first = punct-shorter OpenBrace opening state a refl h in
      let second = lines-shrink a statements last b lines in
      let third = begins-shrinks (punct CloseBrace closing) b rest end in
      omega arith

  pub lines-shrink : (state : State) (statements : List Stmt) (last : Option Expr) (rest : State) → AreLinesAt state statements last rest → length rest ≤ length state
  lines-shrink state statements last rest (NoLines end) = same-length state
  lines-shrink state statements last rest (LastLine e value) =
      let first = value-shrinks state e rest value in
      omega arith
  lines-shrink state statements last rest (MoreLines statement others same a h more) =
      let first = stmt-shrinks state statement a h in
      let second = lines-shrink a others same rest more in
      omega arith

  pub value-shrinks : (state : State) (e : Expr) (rest : State) → IsValueAt state e rest → length rest < length state
  value-shrinks state e rest (BlockyValue same h end) = blocky-shrinks state same rest h
  value-shrinks state e rest (PlainValue same plain whole end) = whole-shrinks Anywhere loosest_level state same rest whole

  pub stmt-shrinks : (state : State) (s : Stmt) (rest : State) → IsStmtAt state s rest → length rest < length state
  stmt-shrinks state s rest (EmptyStmt span h) = punct-shorter Semicolon span state rest refl h
  stmt-shrinks state s rest (LetStmt word mutable name ty depth value semicolon a b c d e h muts names note is ends initial last) =
      let first = word-shorter keyword_of.Let word state a h in
      let second = stands-shrinks (optional_keyword keyword_of.Mut mutable) a b muts in
      let third = begins-shrinks (ident name) b c names in
      let fourth = stands-shrinks (note_pieces ty) c d note in
      let fifth = initializer-shrinks d value e initial in
      let sixth = begins-shrinks (punct Semicolon semicolon) e rest last in
      omega arith
  stmt-shrinks state s rest (PlainStmt e semicolon a plain whole last) =
      let first = whole-shrinks Anywhere loosest_level state e a whole in
      let second = begins-shrinks (punct Semicolon semicolon) a rest last in
      omega arith
  stmt-shrinks state s rest (BlockyStmt e h stop) = blocky-shrinks state e rest h

  pub initializer-shrinks : (state : State) (value : Option Initializer) (rest : State) → IsInitializerAt state value rest → length rest ≤ length state
  initializer-shrinks state value rest (NoInitializer none) = same-length state
  initializer-shrinks state value rest (AnInitializer equals initial a h whole) =
      let first = begins-shrinks (mark Eq equals) state a h in
      let second = whole-shrinks Anywhere loosest_level a initial rest whole in
      omega arith
