-- Operands that stand there are read, one form after another.
use Rattle.std.proofs.Common.{◌≡◌, ℕ, suc, ◌+◌, ◌≤◌, Bool, true, false, if◌then◌else◌, List, [], ◌∷◌, map, length, Option, Some, None, refl, sym, subst, arith}
use Rattle.std.specs.Prelude.{max}
use Rattle.tb_perm.specs.declared.span.Span.{Span}
use Rattle.tb_lex.specs.declared.keyword.Keyword.TheVariants as keyword_of
use Rattle.tb_lex.specs.declared.punctuation.Punctuation.{Punctuation}
use Rattle.tb_lex.specs.declared.punctuation.Punctuation.TheVariants.{OpenParen, CloseParen, OpenBracket, CloseBracket, OpenBrace, CloseBrace, Comma, Semicolon}
use Rattle.tb_ast.specs.declared.leaf.Mark.{Mark}
use Rattle.tb_ast.specs.declared.leaf.IntLiteral.{IntLiteral}
use Rattle.tb_ast.specs.declared.leaf.Path.{Path}
use Rattle.tb_ast.specs.declared.leaf.TextLiteral.{TextLiteral}
use Rattle.tb_ast.specs.declared.leaf.Literal.{Literal}
use Rattle.tb_ast.specs.declared.operator.UnaryOp.{UnaryOp}
use Rattle.tb_ast.specs.declared.operator.Borrow.{Borrow}
use Rattle.tb_ast.specs.declared.expression.ExprPath.{ExprPath}
use Rattle.tb_ast.specs.declared.expression.PrintText.{PrintText}
use Rattle.tb_ast.specs.declared.expression.Expr.{Expr, roll-Expr}
use Rattle.tb_ast.specs.declared.expression.Else.{Else}
use Rattle.tb_ast.specs.declared.expression.Block.{Block}
use Rattle.tb_ast.specs.declared.expression.FieldValue.{FieldValue}
use Rattle.tb_ast.specs.declared.expression.Else.TheOpen.{Expr-F}
use Rattle.tb_ast.specs.Pieces.{punct, keyword, number, literal, optional_mark}
use Rattle.tb_ast.specs.Expressions.{unary_mark}
use Rattle.tb_ast.specs.Depth.{deepest, expr_depth, field_depth, block_depth, turbofish_depth}
use Rattle.tb_syntax.specs.Reading.{◌>>=◌}
use Rattle.tb_syntax.specs.State.{State, Begins, Stands}
use Rattle.tb_syntax.specs.Marks.{has_mark}
use Rattle.tb_syntax.proofs.Marks.{punct-complete, other-mark}
use Rattle.tb_syntax.proofs.Listed.{begins-has}
use Rattle.tb_forms.specs.declared.place.Where.{Where}
use Rattle.tb_forms.specs.declared.place.Where.TheVariants.{Anywhere, Condition}
use Rattle.tb_forms.specs.Levels.{prefix_level, loosest_level}
use Rattle.tb_forms.specs.declared.front.Front.{Front}
use Rattle.tb_forms.specs.declared.front.Front.TheVariants as front
use Rattle.tb_forms.specs.Beginnings.{begins_expr}
use Rattle.tb_forms.specs.Trees.{unary_to, borrow_to, return_to, unsafe_to, loop_to, while_to, if_to, panic_of, struct_literal, call_of, unit_in, paren_in, tuple_in, array_in, repeat_in, print_of, assert_of}
use Rattle.tb_forms.specs.Fronts.{IsFrontAt}
use Rattle.tb_forms.specs.Closings.{group_of, group_at, repeat_at, array_at, literal_at, call_at, print_at, assert_at, IsCount}
use Rattle.tb_forms.specs.declared.wanted.Wanted.TheVariants as wanted
use Rattle.tb_forms.specs.Wants.{takes_values, wants, finished_at}
use Rattle.tb_expr.specs.Exprs.{tested_at, got_at, operand_at, expr_at}
use Rattle.tb_expr.specs.Grammar.{IsWholeAt, IsBlockAt, Braced, AreExprsAt, NoExprs, LastExpr, MoreExprs}
use Rattle.tb_forms.proofs.FrontComplete.{front-complete}
use Rattle.tb_forms.proofs.Begins.{begins-no-paren, begins-no-bracket}
use Rattle.tb_forms.proofs.Counts.{count-complete, comma-complete}
use Rattle.tb_expr.proofs.Within.{front-within}
use Rattle.tb_expr.proofs.CompleteDepths.{expr-bound, otherwise_depth}
use Rattle.tb_expr.proofs.CompleteReads.{Whole, Operand, Blocky, Otherwise, Exprs, Fields, Braces}
use Rattle.tb_expr.proofs.CompleteLists.{whole-begins, exprs-last, exprs-listed, fields-listed}

-- an operand is read by what stands first in it
operand-read : (depth : ℕ) (place : Where) (state : State) (f : Front) (a : State) (y : Option (Expr × State)) → IsFrontAt depth place state f a
    → (got_at depth (expr_at depth) (wants f place a) a >>= λ x. finished_at f x.0 x.1) ≡ y → operand_at depth (expr_at depth) place state ≡ y
unfolding operand_at
operand-read depth place state f a y h e = rw (front-complete depth place state f a h) e

-- a mark that is not glued
abbrev plain : Span → Mark
plain span = record { span = span; glued = false }

-- Without anything in them.

pub literal-operand : (place : Where) (state : State) (value : Literal) (rest : State) → Begins (literal value) state rest → Operand place state (roll-Expr (Expr-F.Literal value)) rest
unfolding got_at wants finished_at
literal-operand place state value rest h depth b = operand-read depth place state (front.Literal value) rest _ h refl

pub path-operand : (place : Where) (state : State) (path : ExprPath) (rest : State) (n : ℕ) → IsFrontAt n place state (front.Path path) rest → Operand place state (roll-Expr (Expr-F.Path path)) rest
unfolding got_at wants finished_at
path-operand place state path rest n h depth bound =
    let b : turbofish_depth path.turbofish + 1 ≤ suc depth = expr-bound (Expr-F.Path path) (suc depth) bound in
    operand-read depth place state (front.Path path) rest _ (front-within n depth place state (front.Path path) rest h (omega arith)) refl

pub break-operand : (place : Where) (state : State) (span : Span) (rest : State) → Begins (keyword keyword_of.Break span) state rest → Operand place state (roll-Expr (Expr-F.Break span)) rest
unfolding got_at wants finished_at
break-operand place state span rest h depth b = operand-read depth place state (front.Break span) rest _ h refl

pub continue-operand : (place : Where) (state : State) (span : Span) (rest : State) → Begins (keyword keyword_of.Continue span) state rest → Operand place state (roll-Expr (Expr-F.Continue span)) rest
unfolding got_at wants finished_at
continue-operand place state span rest h depth b = operand-read depth place state (front.Continue span) rest _ h refl

pub panic-operand : (place : Where) (state : State) (name bang opening : Span) (text : Option TextLiteral) (closing : Span) (rest : State)
    → IsFrontAt 0 place state (front.Panic name bang opening text closing) rest → Operand place state (panic_of name bang opening text closing) rest
unfolding got_at wants finished_at
panic-operand place state name bang opening text closing rest h depth b = operand-read depth place state (front.Panic name bang opening text closing) rest _ h refl

-- With one expression.

pub unary-operand : (place : Where) (state : State) (operator : UnaryOp) (at : Span) (operand : Expr) (a rest : State) → Begins (punct (unary_mark operator) at) state a
    → Whole place prefix_level a operand rest → Operand place state (unary_to operator at operand) rest
unfolding got_at wants finished_at
unary-operand place state operator at operand a rest h one depth bound =
    let b : expr_depth operand + 1 ≤ suc depth = expr-bound _ (suc depth) bound in
    operand-read depth place state (front.Unary operator at) a _ h (rw (one depth (omega arith)) refl)

pub borrow-operand : (place : Where) (state : State) (and : Mark) (kind : Borrow) (operand : Expr) (a rest : State) → IsFrontAt 0 place state (front.Borrow and kind) a
    → Whole place prefix_level a operand rest → Operand place state (borrow_to and kind operand) rest
unfolding got_at wants finished_at
borrow-operand place state and kind operand a rest h one depth bound =
    let b : expr_depth operand + 1 ≤ suc depth = expr-bound _ (suc depth) bound in
    operand-read depth place state (front.Borrow and kind) a _ h (rw (one depth (omega arith)) refl)

pub return-operand : (place : Where) (state : State) (at : Span) (rest : State) → Begins (keyword keyword_of.Return at) state rest → begins_expr rest ≡ false → Operand place state (return_to at None) rest
unfolding got_at wants finished_at
return-operand place state at rest h stop depth b = operand-read depth place state (front.Return at) rest _ h (rw stop refl)

pub return-of-operand : (place : Where) (state : State) (at : Span) (value : Expr) (a rest : State) → Begins (keyword keyword_of.Return at) state a → IsWholeAt place loosest_level a value rest
    → Whole place loosest_level a value rest → Operand place state (return_to at (Some value)) rest
unfolding got_at wants finished_at
return-of-operand place state at value a rest h is one depth bound =
    let b : expr_depth value + 1 ≤ suc depth = expr-bound _ (suc depth) bound in
    operand-read depth place state (front.Return at) a _ h (rw (whole-begins place loosest_level a value rest is) (rw (one depth (omega arith)) refl))

pub assert-operand : (place : Where) (state : State) (name bang opening : Span) (condition : Expr) (comma : Option Span) (closing : Span) (a b c rest : State)
    → IsFrontAt 0 place state (front.Assert name bang opening) a → Stands (optional_mark Comma comma) b c → Begins (punct CloseParen closing) c rest
    → Whole Anywhere loosest_level a condition b → Operand place state (assert_of name bang opening condition comma closing) rest
unfolding got_at wants finished_at assert_at
assert-operand place state name bang opening condition comma closing a b c rest h second last one depth bound =
    let less : expr_depth condition + 1 ≤ suc depth = expr-bound _ (suc depth) bound in
    operand-read depth place state (front.Assert name bang opening) a _ h
    (rw (one depth (omega arith)) (rw (comma-complete b comma c second (λ _. other-mark CloseParen Comma (plain closing) c rest refl last)) (rw (punct-complete CloseParen c closing rest last) refl)))

-- In brackets.

pub unit-operand : (place : Where) (state : State) (opening closing : Span) (a rest : State) → Begins (punct OpenParen opening) state a → Exprs CloseParen a [] [] a
    → Begins (punct CloseParen closing) a rest → Operand place state (unit_in opening closing) rest
unfolding got_at wants finished_at group_at
unit-operand place state opening closing a rest h inside last depth bound =
    operand-read depth place state (front.Paren opening) a _ h
    (rw (exprs-listed CloseParen a [] [] a inside begins-no-paren depth (omega arith)) (rw (punct-complete CloseParen a closing rest last) refl))

pub paren-operand : (place : Where) (state : State) (opening : Span) (inner : Expr) (closing : Span) (a b rest : State) → Begins (punct OpenParen opening) state a → IsWholeAt Anywhere loosest_level a inner b
    → Begins (punct CloseParen closing) b rest → Whole Anywhere loosest_level a inner b → Operand place state (paren_in opening inner closing) rest
unfolding got_at wants finished_at group_at
paren-operand place state opening inner closing a b rest h is last one depth bound =
    let less : expr_depth inner + 1 ≤ suc depth = expr-bound _ (suc depth) bound in
    let stop = other-mark CloseParen Comma (plain closing) b rest refl last in
    let list = exprs-last CloseParen a inner b is stop one in
    let all : max (expr_depth inner) 0 ≤ depth = omega arith in
    operand-read depth place state (front.Paren opening) a _ h
    (rw (exprs-listed CloseParen a (inner ∷ []) [] b list begins-no-paren depth all) (rw (punct-complete CloseParen b closing rest last) refl))

two-group : (opening : Span) (parts : List Expr) (commas : List Span) (closing : Span) → 2 ≤ length parts → group_of opening parts commas closing ≡ Some (tuple_in opening parts commas closing)
two-group opening [] commas closing two = absurd (omega arith)
two-group opening (one ∷ []) commas closing two = absurd (omega arith)
two-group opening (one ∷ other ∷ parts) commas closing two = refl

pub tuple-operand : (place : Where) (state : State) (opening : Span) (parts : List Expr) (commas : List Span) (closing : Span) (a b rest : State) → Begins (punct OpenParen opening) state a
    → 2 ≤ length parts → Begins (punct CloseParen closing) b rest → Exprs CloseParen a parts commas b → Operand place state (tuple_in opening parts commas closing) rest
unfolding got_at wants finished_at group_at
tuple-operand place state opening parts commas closing a b rest h two last inside depth bound =
    let less : deepest (map expr_depth parts) + 1 ≤ suc depth = expr-bound _ (suc depth) bound in
    operand-read depth place state (front.Paren opening) a _ h
    (rw (exprs-listed CloseParen a parts commas b inside begins-no-paren depth (omega arith)) (rw (punct-complete CloseParen b closing rest last) (rw (two-group opening parts commas closing two) refl)))

pub array-operand : (place : Where) (state : State) (opening : Span) (elements : List Expr) (commas : List Span) (closing : Span) (a b rest : State) → Begins (punct OpenBracket opening) state a
    → Begins (punct CloseBracket closing) b rest → Exprs CloseBracket a elements commas b → Operand place state (array_in opening elements commas closing) rest
unfolding got_at wants finished_at array_at
array-operand place state opening elements commas closing a b rest h last inside depth bound =
    let less : deepest (map expr_depth elements) + 1 ≤ suc depth = expr-bound _ (suc depth) bound in
    operand-read depth place state (front.Bracket opening) a _ h
    (rw (exprs-listed CloseBracket a elements commas b inside begins-no-bracket depth (omega arith))
    (rw (other-mark CloseBracket Semicolon (plain closing) b rest refl last) (rw (punct-complete CloseBracket b closing rest last) refl)))

pub repeat-operand : (place : Where) (state : State) (opening : Span) (element : Expr) (semicolon : Span) (count : IntLiteral) (closing : Span) (a b c d rest : State)
    → Begins (punct OpenBracket opening) state a → IsWholeAt Anywhere loosest_level a element b → Begins (punct Semicolon semicolon) b c → Begins (number count) c d → IsCount count
    → Begins (punct CloseBracket closing) d rest → Whole Anywhere loosest_level a element b → Operand place state (repeat_in opening element semicolon count closing) rest
unfolding got_at wants finished_at array_at repeat_at
repeat-operand place state opening element semicolon count closing a b c d rest h is second third good last one depth bound =
    let less : expr_depth element + 1 ≤ suc depth = expr-bound _ (suc depth) bound in
    let stop = other-mark Semicolon Comma (plain semicolon) b c refl second in
    let list = exprs-last CloseBracket a element b is stop one in
    let all : max (expr_depth element) 0 ≤ depth = omega arith in
    operand-read depth place state (front.Bracket opening) a _ h
    (rw (exprs-listed CloseBracket a (element ∷ []) [] b list begins-no-bracket depth all)
    (rw (begins-has Semicolon (plain semicolon) b c second) (rw (punct-complete Semicolon b semicolon c second) (rw (count-complete c count d third good) (rw (punct-complete CloseBracket d closing rest last) refl)))))

pub struct-operand : (place : Where) (state : State) (path : Path) (opening : Span) (fields : List FieldValue) (commas : List Span) (closing : Span) (a b rest : State)
    → IsFrontAt 0 place state (front.StructLiteral path opening) a → Begins (punct CloseBrace closing) b rest → Fields a fields commas b
    → Operand place state (struct_literal path opening fields commas closing) rest
unfolding got_at wants finished_at literal_at
struct-operand place state path opening fields commas closing a b rest h last inside depth bound =
    let less : deepest (map field_depth fields) + 1 ≤ suc depth = expr-bound _ (suc depth) bound in
    operand-read depth place state (front.StructLiteral path opening) a _ h
    (rw (fields-listed a fields commas b inside depth (omega arith)) (rw (punct-complete CloseBrace b closing rest last) refl))

pub call-operand : (place : Where) (state : State) (callee : ExprPath) (n : ℕ) (opening : Span) (arguments : List Expr) (commas : List Span) (closing : Span) (a b rest : State)
    → IsFrontAt n place state (front.Call callee opening) a → Begins (punct CloseParen closing) b rest → Exprs CloseParen a arguments commas b
    → Operand place state (call_of callee opening arguments commas closing) rest
unfolding got_at wants finished_at call_at
call-operand place state callee n opening arguments commas closing a b rest h last inside depth bound =
    let less : max (turbofish_depth callee.turbofish) (deepest (map expr_depth arguments)) + 1 ≤ suc depth = expr-bound _ (suc depth) bound in
    operand-read depth place state (front.Call callee opening) a _ (front-within n depth place state (front.Call callee opening) a h (omega arith))
    (rw (exprs-listed CloseParen a arguments commas b inside begins-no-paren depth (omega arith)) (rw (punct-complete CloseParen b closing rest last) refl))

no-values : (close : Punctuation) (state : State) (es : List Expr) (commas : List Span) (rest : State) → AreExprsAt close state es commas rest → es ≡ [] → (commas ≡ []) × (state ≡ rest)
no-values close state es commas rest (NoExprs e) none = (refl, refl)
no-values close state es commas rest (LastExpr e h stop) none = absurd cc
no-values close state es commas rest (MoreExprs e comma others more a b h between hs) none = absurd cc

pub print-operand : (place : Where) (state : State) (name : Span) (newline : Bool) (bang opening : Span) (text : Option PrintText) (values : List Expr) (commas : List Span) (closing : Span) (a b rest : State)
    → IsFrontAt 0 place state (front.Print name newline bang opening text) a → AreExprsAt CloseParen a values commas b → (takes_values text ≡ false → values ≡ []) → Begins (punct CloseParen closing) b rest
    → Exprs CloseParen a values commas b → Operand place state (print_of name newline bang opening text values commas closing) rest
unfolding got_at wants finished_at print_at
print-operand place state name newline bang opening text values commas closing a b rest h is none last inside depth bound =
    operand-read depth place state (front.Print name newline bang opening text) a _ h (by_text (takes_values text) refl) where
      by_text : (t : Bool) → takes_values text ≡ t
          → (got_at depth (expr_at depth) (if t then wanted.Values CloseParen else wanted.Nothing) a >>= λ x. finished_at (front.Print name newline bang opening text) x.0 x.1)
          ≡ Some (print_of name newline bang opening text values commas closing, rest)
      by_text true e =
          let less : deepest (map expr_depth values) + 1 ≤ suc depth = expr-bound _ (suc depth) bound in
          rw (exprs-listed CloseParen a values commas b inside begins-no-paren depth (omega arith)) (rw (punct-complete CloseParen b closing rest last) refl)
      by_text false e =
          let n = none e in
          let more = no-values CloseParen a values commas b is n in
          let end : Begins (punct CloseParen closing) a rest = subst (λ s. Begins (punct CloseParen closing) s rest) (sym more.1) last in
          rw (punct-complete CloseParen a closing rest end) (rw (n, more.0) refl)

-- With blocks.

pub block-begins : (state : State) (body : Block) (rest : State) → IsBlockAt state body rest → has_mark OpenBrace state ≡ true
block-begins state body rest (Braced opening statements last closing a b first lines second) = begins-has OpenBrace (plain opening) state a first

pub block-operand : (state : State) (body : Block) (rest : State) → IsBlockAt state body rest → Braces state body rest → Blocky state (roll-Expr (Expr-F.Block body)) rest
unfolding got_at wants finished_at
block-operand state body rest is inside place depth bound =
    let less : block_depth body ≤ suc depth = expr-bound _ (suc depth) bound in
    operand-read depth place state front.Block state _ (block-begins state body rest is, refl) (rw (inside depth less) refl)

pub unsafe-operand : (state : State) (at : Span) (body : Block) (a rest : State) → Begins (keyword keyword_of.Unsafe at) state a → Braces a body rest → Blocky state (unsafe_to at body) rest
unfolding got_at wants finished_at
unsafe-operand state at body a rest h inside place depth bound =
    let less : block_depth body + 1 ≤ suc depth = expr-bound _ (suc depth) bound in
    operand-read depth place state (front.Unsafe at) a _ h (rw (inside depth (omega arith)) refl)

pub loop-operand : (state : State) (at : Span) (body : Block) (a rest : State) → Begins (keyword keyword_of.Loop at) state a → Braces a body rest → Blocky state (loop_to at body) rest
unfolding got_at wants finished_at
loop-operand state at body a rest h inside place depth bound =
    let less : block_depth body + 1 ≤ suc depth = expr-bound _ (suc depth) bound in
    operand-read depth place state (front.Loop at) a _ h (rw (inside depth (omega arith)) refl)

pub while-operand : (state : State) (at : Span) (condition : Expr) (body : Block) (a b rest : State) → Begins (keyword keyword_of.While at) state a → Whole Condition loosest_level a condition b → Braces b body rest
    → Blocky state (while_to at condition body) rest
unfolding got_at wants finished_at tested_at
while-operand state at condition body a b rest h one inside place depth bound =
    let less : max (expr_depth condition) (block_depth body) + 1 ≤ suc depth = expr-bound _ (suc depth) bound in
    operand-read depth place state (front.While at) a _ h (rw (one depth (omega arith)) (rw (inside depth (omega arith)) refl))

if-bound : (at : Span) (condition : Expr) (body : Block) (otherwise : Option Else) (depth : ℕ) → expr_depth (if_to at condition body otherwise) ≤ suc depth
    → (expr_depth condition ≤ depth) × (block_depth body ≤ depth) × (otherwise_depth otherwise ≤ depth)
if-bound at condition body None depth bound =
    let less : max (max (expr_depth condition) (block_depth body)) 0 + 1 ≤ suc depth = expr-bound _ (suc depth) bound in
    (omega arith, omega arith, omega arith)
if-bound at condition body (Some otherwise) depth bound =
    let less : max (max (expr_depth condition) (block_depth body)) (otherwise_depth (Some otherwise)) + 1 ≤ suc depth = expr-bound _ (suc depth) bound in
    (omega arith, omega arith, omega arith)

pub if-operand : (state : State) (at : Span) (condition : Expr) (body : Block) (otherwise : Option Else) (a b c rest : State) → Begins (keyword keyword_of.If at) state a → Whole Condition loosest_level a condition b
    → Braces b body c → Otherwise c otherwise rest → Blocky state (if_to at condition body otherwise) rest
unfolding got_at wants finished_at tested_at
if-operand state at condition body otherwise a b c rest h one inside more place depth bound =
    let less = if-bound at condition body otherwise depth bound in
    operand-read depth place state (front.If at) a _ h (rw (one depth less.0) (rw (inside depth (omega arith)) (rw (more depth less.2) refl)))
