-- Statements of a body: how far they go, in a body that ends and in one that does not.
use Rattle.std.proofs.Common.{◌≡◌, ◌⊎◌, ◌<◌, ◌≤◌, Bool, true, false, List, [], ◌∷◌, map, length, Option, Some, refl, sym, ap, subst, inl, inr, arith}
use Rattle.std.proofs.lemmas.List.{length-map}
use Rattle.tb_lex.specs.declared.token.Token.{Token}
use Rattle.tb_perm.specs.declared.span.Span.{Span}
use Rattle.tb_lex.specs.declared.keyword.Keyword.TheVariants as keyword_of
use Rattle.tb_lex.specs.declared.punctuation.Punctuation.TheVariants.{CloseBrace, Semicolon}
use Rattle.tb_lex.specs.declared.token.TokenKind.TheVariants as kind
use Rattle.tb_ast.specs.declared.expression.Expr.{Expr}
use Rattle.tb_ast.specs.declared.expression.Stmt.{Stmt}
use Rattle.tb_ast.specs.Pieces.{punct}
use Rattle.tb_ast.specs.Depth.{deepest, expr_depth, stmt_depth}
use Rattle.tb_syntax.specs.State.{State, Begins, piece_of}
use Rattle.tb_syntax.specs.Marks.{has_mark}
use Rattle.tb_syntax.proofs.Tokens.{token-no-mark}
use Rattle.tb_syntax.proofs.Marks.{other-mark}
use Rattle.tb_syntax.proofs.Listed.{begins-has}
use Rattle.tb_forms.specs.declared.place.Where.TheVariants.{Anywhere}
use Rattle.tb_forms.specs.Levels.{loosest_level}
use Rattle.tb_forms.proofs.Begins.{begins-no-brace}
use Rattle.tb_expr.specs.declared.lines.Line.TheVariants as line
use Rattle.tb_expr.specs.Grammar.{ABlocky, IsWholeAt, AWhole, IsBlockyAt, AreLinesAt, NoLines, LastLine, MoreLines, BlockyValue, IsStmtAt, EmptyStmt, LetStmt, PlainStmt, BlockyStmt}
use Rattle.tb_expr.proofs.Begun.{expr-begins}
use Rattle.tb_expr.proofs.Shrinks.{blocky-shrinks, lines-shrink, value-shrinks, stmt-shrinks}
use Rattle.tb_expr.proofs.Ways.{one-line}
use Rattle.tb_parse.specs.Fronts.{NoneTo, IsLongest, StatementTo, StatementsTo, NoStatement, NextStatement, BeforeBrace, BeforeElse, CutTo, Unfinished}
use Rattle.tb_parse.proofs.Past.{Past, past-here, past-then, past-longest}
use Rattle.tb_parse.proofs.Cuts.{cut-no-mark, line-over-cut, cut-shrinks}

not-both : (b : Bool) → b ≡ true → b ≡ false → ⊥
not-both true e f = absurd cc
not-both false e f = absurd cc

-- Nothing of a body begins with `}`.

whole-no-brace : (state : State) (e : Expr) (rest : State) → IsWholeAt Anywhere loosest_level state e rest → has_mark CloseBrace state ≡ false
whole-no-brace state e rest (AWhole x h fits stop) = begins-no-brace state (expr-begins Anywhere state x rest h)

blocky-no-brace : (state : State) (e : Expr) (rest : State) → IsBlockyAt state e rest → has_mark CloseBrace state ≡ false
blocky-no-brace state e rest h = begins-no-brace state (expr-begins Anywhere state e rest (ABlocky e h))

stmt-no-brace : (state : State) (s : Stmt) (rest : State) → IsStmtAt state s rest → has_mark CloseBrace state ≡ false
stmt-no-brace state s rest (EmptyStmt span h) = other-mark Semicolon CloseBrace (record { span = span; glued = false }) state rest refl h
stmt-no-brace state s rest (LetStmt word mutable name ty n value semicolon a b c d e first second third fourth is ends inside last) =
    token-no-mark (kind.Keyword keyword_of.Let) CloseBrace word state a refl first
stmt-no-brace state s rest (PlainStmt e semicolon a other h last) = whole-no-brace state e a h
stmt-no-brace state s rest (BlockyStmt e h stop) = blocky-no-brace state e rest h

-- What a place has.

has-brace : (closing : Span) (state after : State) → Begins (punct CloseBrace closing) state after → has_mark CloseBrace state ≡ true
has-brace closing state after h = begins-has CloseBrace (record { span = closing; glued = false }) state after h

no-two-lines : (s : Stmt) (e : Expr) → line.Stmt s ≡ line.Last e → ⊥
no-two-lines s e h = absurd cc

same-end : (x y : State) → x ≡ y → length x ≤ length y
same-end x y e = let l : length x ≡ length y = ap length e in omega arith

-- the statements of a front in a body that ends go no further
pub body-over-front : (state : State) (statements : List Stmt) (last : Option Expr) (rest after : State) → AreLinesAt state statements last rest → StatementsTo state after → length rest ≤ length after
body-over-front state statements last rest after (NoLines brace) NoStatement = omega arith
body-over-front state statements last rest after (NoLines brace) (NextStatement a s f) = absurd (not-both (has_mark CloseBrace state) brace (stmt-no-brace state s.0 a s.1))
body-over-front state statements last rest after (NoLines brace) (BeforeBrace e closing behind h close d) = absurd (not-both (has_mark CloseBrace state) brace (blocky-no-brace state e after h))
body-over-front state statements last rest after (NoLines brace) (BeforeElse e h d) = absurd (not-both (has_mark CloseBrace state) brace (cut-no-mark CloseBrace state e after h))
body-over-front state statements last rest after (LastLine x v) NoStatement = let less = value-shrinks state x rest v in omega arith
body-over-front state statements last rest after (LastLine x v) (NextStatement a s f) =
    absurd (no-two-lines s.0 x (one-line state (line.Stmt s.0) a (line.Last x) rest s.1 v).0)
body-over-front state statements last rest after (LastLine x v) (BeforeBrace e closing behind h close d) =
    same-end rest after (one-line state (line.Last x) rest (line.Last e) after v (BlockyValue e h (has-brace closing after behind close))).1
body-over-front state statements last rest after (LastLine x v) (BeforeElse e h d) = line-over-cut state (line.Last x) rest e after v h
body-over-front state statements last rest after (MoreLines statement others value a is more) NoStatement =
    let less = stmt-shrinks state statement a is in
    let further = lines-shrink a others value rest more in
    omega arith
body-over-front state statements last rest after (MoreLines statement others value a is more) (NextStatement b s f) =
    let same = one-line state (line.Stmt s.0) b (line.Stmt statement) a s.1 is in
    body-over-front a others value rest after more (subst (λ z. StatementsTo z after) same.1 f)
body-over-front state statements last rest after (MoreLines statement others value a is more) (BeforeBrace e closing behind h close d) =
    absurd (no-two-lines statement e (one-line state (line.Stmt statement) a (line.Last e) after is (BlockyValue e h (has-brace closing after behind close))).0)
body-over-front state statements last rest after (MoreLines statement others value a is more) (BeforeElse e h d) =
    let less = line-over-cut state (line.Stmt statement) a e after is h in
    let further = lines-shrink a others value rest more in
    omega arith

-- The loop that reads statements.

statement-on : (state a : State) (s : Stmt) → IsStmtAt state s a → (after : State) → StatementsTo state after → (length a ≤ length after) ⊎ StatementsTo a after
statement-on state a s is after NoStatement = let less = stmt-shrinks state s a is in inl (omega arith)
statement-on state a s is after (NextStatement b t f) =
    let same = one-line state (line.Stmt t.0) b (line.Stmt s) a t.1 is in
    inr (subst (λ z. StatementsTo z after) same.1 f)
statement-on state a s is after (BeforeBrace e closing behind h close d) =
    absurd (no-two-lines s e (one-line state (line.Stmt s) a (line.Last e) after is (BlockyValue e h (has-brace closing after behind close))).0)
statement-on state a s is after (BeforeElse e h d) = inl (line-over-cut state (line.Stmt s) a e after is h)

pub statement-past : (state a : State) → StatementTo state a → Past StatementsTo state a
statement-past state a s = record { back = λ rest f. NextStatement a s f; on = λ rest f. statement-on state a s.0 s.1 rest f }

pub statement-shorter : (state a : State) → StatementTo state a → length a < length state
statement-shorter state a s = stmt-shrinks state s.0 a s.1

-- one statement more
pub unfinished-more : (state a : State) → StatementTo state a → Unfinished state → Unfinished a
unfinished-more state a s none statements last closing rest after lines close deep value =
    let first = s.2 in
    let all : deepest (map stmt_depth (s.0 ∷ statements)) ≤ 127 = omega arith in
    none (s.0 ∷ statements) last closing rest after (MoreLines s.0 statements last a s.1 lines) close all value

-- what the loop knows: the place, and that the body does not end
pub record StatementsSo (start rest : State) : Type 0 where
  pub past : Past StatementsTo start rest
  pub unfinished : Unfinished rest
  pub less : length rest ≤ length start

pub statements-start : (start : State) → Unfinished start → StatementsSo start start
statements-start start none = record { past = past-here StatementsTo start; unfinished = none; less = omega arith }

pub statements-more : (start rest a : State) → StatementsSo start rest → StatementTo rest a → StatementsSo start a
statements-more start rest a so s =
    let shorter = statement-shorter rest a s in
    let less = so.less in
    record { past = past-then StatementsTo start rest a (omega arith) so.past (statement-past rest a s); unfinished = unfinished-more rest a s so.unfinished; less = omega arith }

-- The end of the loop: where no statement stands, a cut `if` may.

pub front-at : (start rest : State) → StatementsSo start rest → StatementsTo start rest
front-at start rest so = so.past.back rest NoStatement

pub front-cut : (start rest end : State) → StatementsSo start rest → (end ≡ rest) ⊎ CutTo 126 rest end → StatementsTo start end
front-cut start rest end so cut = elim cut [
  | inl e ↦ subst (λ z. StatementsTo start z) (sym e) (front-at start rest so)
  | inr c ↦ so.past.back end (BeforeElse c.0 c.1 c.2)
]

cut-end-less : (rest end : State) → (end ≡ rest) ⊎ CutTo 126 rest end → length end ≤ length rest
cut-end-less rest end cut = elim cut [
  | inl e ↦ same-end end rest e
  | inr c ↦ let less = cut-shrinks rest c.0 end c.1 in omega arith
]

last-longest : (rest end : State) → Unfinished rest → NoneTo (StatementTo rest) → (end ≡ rest) ⊎ CutTo 126 rest end → IsLongest (CutTo 126 rest) (length end)
    → (after : State) → StatementsTo rest after → length end ≤ length after
last-longest rest end unfinished none cut longest after NoStatement = cut-end-less rest end cut
last-longest rest end unfinished none cut longest after (NextStatement a s f) = absurd (none a s)
last-longest rest end unfinished none cut longest after (BeforeBrace e closing behind h close d) =
    let value : expr_depth e ≤ 127 = omega arith in
    absurd (unfinished [] (Some e) closing after behind (LastLine e (BlockyValue e h (has-brace closing after behind close))) close (omega arith) value)
last-longest rest end unfinished none cut longest after (BeforeElse e h d) = longest after (e, h, d)

pub statements-longest : (start rest end : State) → StatementsSo start rest → NoneTo (StatementTo rest) → (end ≡ rest) ⊎ CutTo 126 rest end → IsLongest (CutTo 126 rest) (length end)
    → IsLongest (StatementsTo start) (length end)
statements-longest start rest end so none cut longest =
    past-longest StatementsTo start rest (length end) (cut-end-less rest end cut) so.past (last-longest rest end so.unfinished none cut longest)

pub statements-less : (state rest : State) → StatementsTo state rest → length rest ≤ length state
statements-less state rest NoStatement = omega arith
statements-less state rest (NextStatement a s f) =
    let x = statement-shorter state a s in
    let y = statements-less a rest f in
    omega arith
statements-less state rest (BeforeBrace e closing behind h close d) = let less = blocky-shrinks state e rest h in omega arith
statements-less state rest (BeforeElse e h d) = let less = cut-shrinks state e rest h in omega arith

-- The same over tokens.

left-longest : (start : State) (left : List Token) → IsLongest (StatementsTo start) (length (map piece_of left)) → IsLongest (StatementsTo start) (length left)
left-longest start left longest after f =
    let l : length (map piece_of left) ≡ length left = length-map left piece_of in
    let less = longest after f in
    omega arith

pub loop-cut : (start rest : State) (left : List Token) → StatementsSo start rest → (map piece_of left ≡ rest) ⊎ CutTo 126 rest (map piece_of left) → StatementsTo start (map piece_of left)
loop-cut start rest left so cut = front-cut start rest (map piece_of left) so cut

pub loop-longest : (start rest : State) (left : List Token) → StatementsSo start rest → NoneTo (StatementTo rest) → (map piece_of left ≡ rest) ⊎ CutTo 126 rest (map piece_of left)
    → IsLongest (CutTo 126 rest) (length left) → IsLongest (StatementsTo start) (length left)
loop-longest start rest left so none cut longest =
    let l : length (map piece_of left) ≡ length left = length-map left piece_of in
    left-longest start left (statements-longest start rest (map piece_of left) so none cut (λ after c. let less = longest after c in omega arith))

pub loop-ends : (start : State) (left : List Token) → left ≡ [] → IsLongest (StatementsTo start) (length left)
loop-ends start left e after f = let l : length left ≡ 0 = ap length e in omega arith

pub ruleset statements = (statements-start, statements-more, front-at, loop-cut, loop-longest, loop-ends)
