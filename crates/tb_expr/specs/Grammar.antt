-- How expressions, statements and blocks stand at the front of a source, one case for each form.
use Rattle.std.specs.Prelude.{◌≡◌, ◌≤◌, ◌-◌, ℕ, Bool, true, false, List, [], ◌∷◌, length, Option, None, Some}
use Rattle.tb_perm.specs.declared.span.Span.{Span}
use Rattle.tb_lex.specs.declared.keyword.Keyword.TheVariants as keyword_of
use Rattle.tb_lex.specs.declared.punctuation.Punctuation.{Punctuation}
use Rattle.tb_lex.specs.declared.punctuation.Punctuation.TheVariants.{OpenParen, CloseParen, OpenBracket, CloseBracket, OpenBrace, CloseBrace, Comma, Semicolon, Colon, Eq}
use Rattle.tb_ast.specs.declared.leaf.Mark.{Mark}
use Rattle.tb_ast.specs.declared.leaf.Ident.{Ident}
use Rattle.tb_ast.specs.declared.leaf.IntLiteral.{IntLiteral}
use Rattle.tb_ast.specs.declared.leaf.Path.{Path}
use Rattle.tb_ast.specs.declared.leaf.TextLiteral.{TextLiteral}
use Rattle.tb_ast.specs.declared.leaf.Literal.{Literal}
use Rattle.tb_ast.specs.declared.operator.UnaryOp.{UnaryOp}
use Rattle.tb_ast.specs.declared.operator.Borrow.{Borrow}
use Rattle.tb_ast.specs.declared.operator.BinaryOp.{BinaryOp}
use Rattle.tb_ast.specs.declared.operator.AssignOp.{AssignOp}
use Rattle.tb_ast.specs.declared.written.TypeExpr.{TypeExpr}
use Rattle.tb_ast.specs.declared.written.TypeNote.{TypeNote}
use Rattle.tb_ast.specs.declared.written.Turbofish.{Turbofish}
use Rattle.tb_ast.specs.declared.expression.ExprPath.{ExprPath}
use Rattle.tb_ast.specs.declared.expression.PrintText.{PrintText}
use Rattle.tb_ast.specs.declared.expression.Expr.{Expr, roll-Expr}
use Rattle.tb_ast.specs.declared.expression.Else.{Else, roll-Else}
use Rattle.tb_ast.specs.declared.expression.Block.{Block}
use Rattle.tb_ast.specs.declared.expression.Stmt.{Stmt, roll-Stmt}
use Rattle.tb_ast.specs.declared.expression.FieldValue.{FieldValue, roll-FieldValue}
use Rattle.tb_ast.specs.declared.expression.Initializer.{Initializer, roll-Initializer}
use Rattle.tb_ast.specs.declared.expression.Else.TheOpen.{Else-F, Expr-F, FieldValue-F, Stmt-F}
use Rattle.tb_ast.specs.Pieces.{punct, mark, keyword, ident, number, literal, optional_keyword, optional_mark}
use Rattle.tb_ast.specs.Types.{note_pieces}
use Rattle.tb_ast.specs.Depth.{expr_depth, stmt_depth}
use Rattle.tb_ast.specs.Expressions.{unary_mark, binary_mark, assign_mark}
use Rattle.tb_syntax.specs.State.{State, Begins, Stands}
use Rattle.tb_syntax.specs.Marks.{has_mark}
use Rattle.tb_syntax.specs.Leaves.{has_keyword}
use Rattle.tb_syntax.specs.Paths.{from_to}
use Rattle.tb_syntax.specs.Notes.{IsNote, NoteEnds}
use Rattle.tb_forms.specs.declared.place.Where.{Where}
use Rattle.tb_forms.specs.declared.place.Where.TheVariants.{Anywhere, Condition}
use Rattle.tb_forms.specs.declared.front.Front.TheVariants as front
use Rattle.tb_forms.specs.declared.step.Step.TheVariants as step
use Rattle.tb_forms.specs.Beginnings.{begins_expr, begins_blocky}
use Rattle.tb_forms.specs.Levels.{tightest_level, prefix_level, cast_level, target_level, loosest_level, left_level, right_level, level_of, goes_on}
use Rattle.tb_forms.specs.Trees.{unary_to, borrow_to, return_to, unsafe_to, loop_to, while_to, if_to, field_of, tuple_field_of, method_call, index_of, cast_to, binary_with, assign_to, compute_to, struct_literal, call_of, unit_in, paren_in, tuple_in, array_in, repeat_in, print_of, panic_of, assert_of}
use Rattle.tb_forms.specs.Fronts.{IsFrontAt}
use Rattle.tb_forms.specs.Steps.{IsStepAt}
use Rattle.tb_forms.specs.Closings.{IsCount}
use Rattle.tb_expr.specs.declared.lines.Line.{Line}
use Rattle.tb_expr.specs.declared.lines.Line.TheVariants as line
use Rattle.tb_forms.specs.Wants.{takes_values}
use Rattle.tb_expr.specs.Exprs.{block_in, ended_by}

mutual
  -- The expression stands at the front of this state, in such a place, and this rest behind it. In a condition a struct literal
  -- stands in it only within brackets.
  pub data IsExprAt : Where → State → Expr → State → Type 0 where
    ALiteral : {place : Where} {state rest : State} (value : Literal) → Begins (literal value) state rest → IsExprAt place state (roll-Expr (Expr-F.Literal value)) rest
    APath : {place : Where} {state rest : State} (path : ExprPath) (depth : ℕ) → IsFrontAt depth place state (front.Path path) rest → IsExprAt place state (roll-Expr (Expr-F.Path path)) rest
    AStruct : {place : Where} {state rest : State} (path : Path) (opening : Span) (fields : List FieldValue) (commas : List Span) (closing : Span) (a b : State)
        → IsFrontAt 0 place state (front.StructLiteral path opening) a → AreFieldsAt a fields commas b → Begins (punct CloseBrace closing) b rest
        → IsExprAt place state (struct_literal path opening fields commas closing) rest
    ACall : {place : Where} {state rest : State} (callee : ExprPath) (depth : ℕ) (opening : Span) (arguments : List Expr) (commas : List Span) (closing : Span) (a b : State)
        → IsFrontAt depth place state (front.Call callee opening) a → AreExprsAt CloseParen a arguments commas b → Begins (punct CloseParen closing) b rest
        → IsExprAt place state (call_of callee opening arguments commas closing) rest
    AUnit : {place : Where} {state rest : State} (opening closing : Span) (a : State)
        → Begins (punct OpenParen opening) state a → Begins (punct CloseParen closing) a rest → IsExprAt place state (unit_in opening closing) rest
    AParen : {place : Where} {state rest : State} (opening : Span) (inner : Expr) (closing : Span) (a b : State)
        → Begins (punct OpenParen opening) state a → IsWholeAt Anywhere loosest_level a inner b → Begins (punct CloseParen closing) b rest → IsExprAt place state (paren_in opening inner closing) rest
    ATuple : {place : Where} {state rest : State} (opening : Span) (parts : List Expr) (commas : List Span) (closing : Span) (a b : State)
        → Begins (punct OpenParen opening) state a → AreExprsAt CloseParen a parts commas b → 2 ≤ length parts → Begins (punct CloseParen closing) b rest
        → IsExprAt place state (tuple_in opening parts commas closing) rest
    AnArray : {place : Where} {state rest : State} (opening : Span) (elements : List Expr) (commas : List Span) (closing : Span) (a b : State)
        → Begins (punct OpenBracket opening) state a → AreExprsAt CloseBracket a elements commas b → Begins (punct CloseBracket closing) b rest
        → IsExprAt place state (array_in opening elements commas closing) rest
    ARepeat : {place : Where} {state rest : State} (opening : Span) (element : Expr) (semicolon : Span) (count : IntLiteral) (closing : Span) (a b c d : State)
        → Begins (punct OpenBracket opening) state a → IsWholeAt Anywhere loosest_level a element b → Begins (punct Semicolon semicolon) b c → Begins (number count) c d → IsCount count
        → Begins (punct CloseBracket closing) d rest → IsExprAt place state (repeat_in opening element semicolon count closing) rest
    ABlocky : {place : Where} {state rest : State} (e : Expr) → IsBlockyAt state e rest → IsExprAt place state e rest
    AReturn : {place : Where} {state rest : State} (at : Span) → Begins (keyword keyword_of.Return at) state rest → begins_expr rest ≡ false → IsExprAt place state (return_to at None) rest
    -- what the longest expression cannot take may follow: the `return` is an operand then
    AReturnOf : {place : Where} {state rest : State} (at : Span) (value : Expr) (a : State)
        → Begins (keyword keyword_of.Return at) state a → IsWholeAt place loosest_level a value rest → IsExprAt place state (return_to at (Some value)) rest
    ABreak : {place : Where} {state rest : State} (span : Span) → Begins (keyword keyword_of.Break span) state rest → IsExprAt place state (roll-Expr (Expr-F.Break span)) rest
    AContinue : {place : Where} {state rest : State} (span : Span) → Begins (keyword keyword_of.Continue span) state rest → IsExprAt place state (roll-Expr (Expr-F.Continue span)) rest
    -- values stand only behind a comma behind the text
    APrint : {place : Where} {state rest : State} (name : Span) (newline : Bool) (bang opening : Span) (text : Option PrintText) (values : List Expr) (commas : List Span) (closing : Span) (a b : State)
        → IsFrontAt 0 place state (front.Print name newline bang opening text) a → AreExprsAt CloseParen a values commas b → (takes_values text ≡ false → values ≡ [])
        → Begins (punct CloseParen closing) b rest → IsExprAt place state (print_of name newline bang opening text values commas closing) rest
    APanic : {place : Where} {state rest : State} (name bang opening : Span) (text : Option TextLiteral) (closing : Span)
        → IsFrontAt 0 place state (front.Panic name bang opening text closing) rest → IsExprAt place state (panic_of name bang opening text closing) rest
    AnAssert : {place : Where} {state rest : State} (name bang opening : Span) (condition : Expr) (comma : Option Span) (closing : Span) (a b c : State)
        → IsFrontAt 0 place state (front.Assert name bang opening) a → IsWholeAt Anywhere loosest_level a condition b → Stands (optional_mark Comma comma) b c
        → Begins (punct CloseParen closing) c rest → IsExprAt place state (assert_of name bang opening condition comma closing) rest
    AUnary : {place : Where} {state rest : State} (operator : UnaryOp) (at : Span) (operand : Expr) (a : State)
        → Begins (punct (unary_mark operator) at) state a → IsWholeAt place prefix_level a operand rest → IsExprAt place state (unary_to operator at operand) rest
    ABorrow : {place : Where} {state rest : State} (and : Mark) (kind : Borrow) (operand : Expr) (a : State)
        → IsFrontAt 0 place state (front.Borrow and kind) a → IsWholeAt place prefix_level a operand rest → IsExprAt place state (borrow_to and kind operand) rest
    -- behind an operand
    AField : {place : Where} {state rest : State} (base : Expr) (dot : Span) (name : Ident) (a : State)
        → IsExprAt place state base a → level_of base ≤ tightest_level → IsStepAt 0 a (step.Field dot name) rest → IsExprAt place state (field_of base dot name) rest
    ATupleField : {place : Where} {state rest : State} (base : Expr) (dot : Span) (index : IntLiteral) (a : State)
        → IsExprAt place state base a → level_of base ≤ tightest_level → IsStepAt 0 a (step.TupleField dot index) rest → IsExprAt place state (tuple_field_of base dot index) rest
    AMethod : {place : Where} {state rest : State} (receiver : Expr) (depth : ℕ) (dot : Span) (name : Ident) (turbofish : Option Turbofish) (opening : Span) (arguments : List Expr) (commas : List Span) (closing : Span) (a b c : State)
        → IsExprAt place state receiver a → level_of receiver ≤ tightest_level → IsStepAt depth a (step.MethodCall dot name turbofish opening) b → AreExprsAt CloseParen b arguments commas c
        → Begins (punct CloseParen closing) c rest → IsExprAt place state (method_call receiver dot name turbofish opening arguments commas closing) rest
    AnIndex : {place : Where} {state rest : State} (base : Expr) (opening : Span) (index : Expr) (closing : Span) (a b c : State)
        → IsExprAt place state base a → level_of base ≤ tightest_level → Begins (punct OpenBracket opening) a b → IsWholeAt Anywhere loosest_level b index c → Begins (punct CloseBracket closing) c rest
        → IsExprAt place state (index_of base opening index closing) rest
    ACast : {place : Where} {state rest : State} (operand : Expr) (depth : ℕ) (at : Span) (ty : TypeExpr) (a : State)
        → IsExprAt place state operand a → level_of operand ≤ cast_level → IsStepAt depth a (step.Cast at ty) rest → IsExprAt place state (cast_to operand at ty) rest
    ABinary : {place : Where} {state rest : State} (left : Expr) (operator : BinaryOp) (at : Mark) (right : Expr) (a b : State)
        → IsExprAt place state left a → level_of left ≤ left_level operator → a ≡ mark (binary_mark operator) at ∷ b → IsWholeAt place (right_level operator) b right rest
        → IsExprAt place state (binary_with left operator at right) rest
    AnAssign : {place : Where} {state rest : State} (target : Expr) (equals : Mark) (value : Expr) (a b : State)
        → IsExprAt place state target a → level_of target ≤ target_level → a ≡ mark Eq equals ∷ b → IsWholeAt place loosest_level b value rest
        → IsExprAt place state (assign_to target equals value) rest
    AnAssignOp : {place : Where} {state rest : State} (target : Expr) (operator : AssignOp) (at : Span) (value : Expr) (a b : State)
        → IsExprAt place state target a → level_of target ≤ target_level → a ≡ punct (assign_mark operator) at ∷ b → IsWholeAt place loosest_level b value rest
        → IsExprAt place state (compute_to target operator at value) rest

  -- The expression binds at least as tightly as this level, and takes nothing of what follows: it is the longest that stands there.
  pub data IsWholeAt : Where → ℕ → State → Expr → State → Type 0 where
    AWhole : {place : Where} {most : ℕ} {state rest : State} (e : Expr) → IsExprAt place state e rest → level_of e ≤ most → goes_on (level_of e) most rest ≡ false → IsWholeAt place most state e rest

  -- An expression with a block of its own.
  pub data IsBlockyAt : State → Expr → State → Type 0 where
    ABlock : {state rest : State} (body : Block) → IsBlockAt state body rest → IsBlockyAt state (roll-Expr (Expr-F.Block body)) rest
    AnUnsafe : {state rest : State} (at : Span) (body : Block) (a : State) → Begins (keyword keyword_of.Unsafe at) state a → IsBlockAt a body rest → IsBlockyAt state (unsafe_to at body) rest
    AWhile : {state rest : State} (at : Span) (condition : Expr) (body : Block) (a b : State)
        → Begins (keyword keyword_of.While at) state a → IsWholeAt Condition loosest_level a condition b → IsBlockAt b body rest → IsBlockyAt state (while_to at condition body) rest
    ALoop : {state rest : State} (at : Span) (body : Block) (a : State) → Begins (keyword keyword_of.Loop at) state a → IsBlockAt a body rest → IsBlockyAt state (loop_to at body) rest
    AnIf : {state rest : State} (e : Expr) → IsIfAt state e rest → IsBlockyAt state e rest

  pub data IsIfAt : State → Expr → State → Type 0 where
    If : {state rest : State} (at : Span) (condition : Expr) (body : Block) (otherwise : Option Else) (a b c : State)
        → Begins (keyword keyword_of.If at) state a → IsWholeAt Condition loosest_level a condition b → IsBlockAt b body c → IsElseAt c otherwise rest
        → IsIfAt state (if_to at condition body otherwise) rest

  -- What stands behind the block of an `if`; nothing does where no `else` follows.
  pub data IsElseAt : State → Option Else → State → Type 0 where
    NoElse : {rest : State} → has_keyword keyword_of.Else rest ≡ false → IsElseAt rest None rest
    ElseBlock : {state rest : State} (at : Span) (body : Block) (a : State)
        → Begins (keyword keyword_of.Else at) state a → IsBlockAt a body rest → IsElseAt state (Some (roll-Else (Else-F.ElseBlock at body))) rest
    ElseIf : {state rest : State} (at : Span) (branch : Expr) (a : State)
        → Begins (keyword keyword_of.Else at) state a → IsIfAt a branch rest → IsElseAt state (Some (roll-Else (Else-F.ElseIf at branch))) rest

  -- Expressions with commas between them, and maybe one behind the last, before a mark that closes.
  pub data AreExprsAt : Punctuation → State → List Expr → List Span → State → Type 0 where
    NoExprs : {close : Punctuation} {rest : State} → has_mark close rest ≡ true → AreExprsAt close rest [] [] rest
    LastExpr : {close : Punctuation} {state rest : State} (e : Expr) → IsWholeAt Anywhere loosest_level state e rest → has_mark Comma rest ≡ false → AreExprsAt close state (e ∷ []) [] rest
    MoreExprs : {close : Punctuation} {state rest : State} (e : Expr) (comma : Span) (others : List Expr) (commas : List Span) (a b : State)
        → IsWholeAt Anywhere loosest_level state e a → Begins (punct Comma comma) a b → AreExprsAt close b others commas rest → AreExprsAt close state (e ∷ others) (comma ∷ commas) rest

  -- A field of a struct literal.
  pub data IsFieldAt : State → FieldValue → State → Type 0 where
    NamedField : {state rest : State} (name : Ident) (colon : Span) (value : Expr) (a b : State)
        → Begins (ident name) state a → Begins (punct Colon colon) a b → IsWholeAt Anywhere loosest_level b value rest → IsFieldAt state (roll-FieldValue (FieldValue-F.Named name colon value)) rest
    ShortField : {state rest : State} (name : Ident) → Begins (ident name) state rest → has_mark Colon rest ≡ false → IsFieldAt state (roll-FieldValue (FieldValue-F.Short name)) rest

  pub data AreFieldsAt : State → List FieldValue → List Span → State → Type 0 where
    NoFields : {rest : State} → has_mark CloseBrace rest ≡ true → AreFieldsAt rest [] [] rest
    LastField : {state rest : State} (field : FieldValue) → IsFieldAt state field rest → has_mark Comma rest ≡ false → AreFieldsAt state (field ∷ []) [] rest
    MoreFields : {state rest : State} (field : FieldValue) (comma : Span) (others : List FieldValue) (commas : List Span) (a b : State)
        → IsFieldAt state field a → Begins (punct Comma comma) a b → AreFieldsAt b others commas rest → AreFieldsAt state (field ∷ others) (comma ∷ commas) rest

  pub data IsBlockAt : State → Block → State → Type 0 where
    Braced : {state rest : State} (opening : Span) (statements : List Stmt) (last : Option Expr) (closing : Span) (a b : State)
        → Begins (punct OpenBrace opening) state a → AreLinesAt a statements last b → Begins (punct CloseBrace closing) b rest
        → IsBlockAt state (block_in opening statements last closing) rest

  -- Statements, and maybe the value of the block behind them, before `}`.
  pub data AreLinesAt : State → List Stmt → Option Expr → State → Type 0 where
    NoLines : {rest : State} → has_mark CloseBrace rest ≡ true → AreLinesAt rest [] None rest
    LastLine : {state rest : State} (e : Expr) → IsValueAt state e rest → AreLinesAt state [] (Some e) rest
    MoreLines : {state rest : State} (statement : Stmt) (others : List Stmt) (last : Option Expr) (a : State)
        → IsStmtAt state statement a → AreLinesAt a others last rest → AreLinesAt state (statement ∷ others) last rest

  -- The last expression of a block; what begins with a block of its own ends with it.
  pub data IsValueAt : State → Expr → State → Type 0 where
    BlockyValue : {state rest : State} (e : Expr) → IsBlockyAt state e rest → has_mark CloseBrace rest ≡ true → IsValueAt state e rest
    PlainValue : {state rest : State} (e : Expr) → begins_blocky state ≡ false → IsWholeAt Anywhere loosest_level state e rest → has_mark CloseBrace rest ≡ true → IsValueAt state e rest

  -- What begins with a block of its own ends with it, and directly before `}` it is no statement.
  pub data IsStmtAt : State → Stmt → State → Type 0 where
    EmptyStmt : {state rest : State} (span : Span) → Begins (punct Semicolon span) state rest → IsStmtAt state (roll-Stmt (Stmt-F.Empty span)) rest
    LetStmt : {state rest : State} (word : Span) (mutable : Option Span) (name : Ident) (ty : Option TypeNote) (depth : ℕ) (value : Option Initializer) (semicolon : Span) (a b c d e : State)
        → Begins (keyword keyword_of.Let word) state a → Stands (optional_keyword keyword_of.Mut mutable) a b → Begins (ident name) b c
        → Stands (note_pieces ty) c d → IsNote depth ty → NoteEnds ty d → IsInitializerAt d value e → Begins (punct Semicolon semicolon) e rest
        → IsStmtAt state (roll-Stmt (Stmt-F.Let (from_to word semicolon) word mutable name ty value semicolon)) rest
    PlainStmt : {state rest : State} (e : Expr) (semicolon : Span) (a : State)
        → begins_blocky state ≡ false → IsWholeAt Anywhere loosest_level state e a → Begins (punct Semicolon semicolon) a rest → IsStmtAt state (ended_by e semicolon) rest
    BlockyStmt : {state rest : State} (e : Expr) → IsBlockyAt state e rest → has_mark CloseBrace rest ≡ false → IsStmtAt state (roll-Stmt (Stmt-F.Blocky e)) rest

  pub data IsInitializerAt : State → Option Initializer → State → Type 0 where
    NoInitializer : {rest : State} → has_mark Eq rest ≡ false → IsInitializerAt rest None rest
    AnInitializer : {state rest : State} (equals : Mark) (value : Expr) (a : State)
        → Begins (mark Eq equals) state a → IsWholeAt Anywhere loosest_level a value rest → IsInitializerAt state (Some (roll-Initializer (record { equals = equals; value = value }))) rest

-- a statement, or the last expression of a block
abbrev pub IsLineAt : State → Line → State → Type 0
IsLineAt state (line.Stmt statement) rest = IsStmtAt state statement rest
IsLineAt state (line.Last e) rest = IsValueAt state e rest

-- how deep expressions lie in it
abbrev pub line_depth : Line → ℕ
line_depth (line.Stmt statement) = stmt_depth statement - 1
line_depth (line.Last e) = expr_depth e
