-- Blocks, statements and what follows `if` that stand there are read.
use Rattle.std.proofs.Common.{◌≡◌, ℕ, zero, suc, ◌+◌, ◌≤◌, Bool, true, false, ◌||◌, List, [], ◌∷◌, map, length, Option, Some, None, refl, arith}
use Rattle.std.specs.Prelude.{max}
use Rattle.tb_perm.specs.declared.span.Span.{Span}
use Rattle.tb_lex.specs.declared.keyword.Keyword.{Keyword}
use Rattle.tb_lex.specs.declared.keyword.Keyword.TheVariants as keyword_of
use Rattle.tb_lex.specs.declared.punctuation.Punctuation.{Punctuation}
use Rattle.tb_lex.specs.declared.punctuation.Punctuation.TheVariants.{OpenBrace, CloseBrace, Semicolon, Eq}
use Rattle.tb_lex.specs.declared.token.TokenKind.TheVariants as kind
use Rattle.tb_ast.specs.declared.leaf.Mark.{Mark}
use Rattle.tb_ast.specs.declared.leaf.Ident.{Ident}
use Rattle.tb_ast.specs.declared.written.TypeNote.{TypeNote}
use Rattle.tb_ast.specs.declared.expression.Expr.{Expr}
use Rattle.tb_ast.specs.declared.expression.Else.{roll-Else}
use Rattle.tb_ast.specs.declared.expression.Block.{Block}
use Rattle.tb_ast.specs.declared.expression.Stmt.{Stmt, roll-Stmt}
use Rattle.tb_ast.specs.declared.expression.Initializer.{Initializer, roll-Initializer}
use Rattle.tb_ast.specs.declared.expression.Else.TheOpen.{Else-F, Stmt-F}
use Rattle.tb_ast.specs.Pieces.{punct, mark, keyword, ident, optional_keyword}
use Rattle.tb_ast.specs.Types.{note_pieces}
use Rattle.tb_ast.specs.Depth.{deepest, expr_depth, stmt_depth, block_depth, note_depth}
use Rattle.tb_syntax.specs.State.{State, Begins, Stands}
use Rattle.tb_syntax.specs.Marks.{same_mark, first_mark, begins_mark, has_mark}
use Rattle.tb_syntax.specs.Leaves.{is_keyword, has_keyword}
use Rattle.tb_syntax.specs.Paths.{from_to}
use Rattle.tb_syntax.specs.Notes.{IsNote, NoteEnds}
use Rattle.tb_syntax.proofs.Marks.{same_is, mark-complete, punct-complete, other-mark}
use Rattle.tb_syntax.proofs.Tokens.{token-complete, token-no-mark, mark-no-token, keyword-complete, keyword-has, name-complete}
use Rattle.tb_syntax.proofs.Fronts.{optional-keyword-complete}
use Rattle.tb_syntax.proofs.Listed.{begins-has}
use Rattle.tb_syntax.proofs.Noted.{note-complete}
use Rattle.tb_forms.specs.declared.place.Where.TheVariants.{Anywhere}
use Rattle.tb_forms.specs.Levels.{operand_alone, loosest_level}
use Rattle.tb_forms.specs.Beginnings.{begins_expr, begins_blocky}
use Rattle.tb_expr.specs.Exprs.{block_in, ended_by, equals_at, let_start_at, start_at, line_wants, line_end_at, value_at, line_in, lines_in, block_in_at, branch_at, else_at}
use Rattle.tb_expr.specs.Grammar.{ABlocky, IsWholeAt, IsBlockyAt, IsIfAt, IsBlockAt, Braced, IsValueAt, BlockyValue, PlainValue, IsStmtAt, EmptyStmt, LetStmt, PlainStmt, BlockyStmt}
use Rattle.tb_expr.proofs.Begun.{expr-begins, blocky-begins, if-begins}
use Rattle.tb_forms.proofs.Begins.{begins-no-brace, begins-no-semicolon, begins-no-let}
use Rattle.tb_expr.proofs.Shrinks.{stmt-shrinks, value-shrinks}
use Rattle.tb_expr.proofs.Within.{note-within}
use Rattle.tb_expr.proofs.CompleteDepths.{value_depth, else-bound, stmt-bound, initializer-bound, block-bound}
use Rattle.tb_expr.proofs.CompleteReads.{Whole, Otherwise, Braces, Lined, Statement, LastValue, Initialized}
use Rattle.tb_expr.proofs.CompleteLists.{some-left, whole-begins}

-- a mark that is not glued
abbrev plain : Span → Mark
plain span = record { span = span; glued = false }

-- What stands behind a name in a `let`.

pub initializer-none : (rest : State) → has_mark Eq rest ≡ false → Initialized rest None rest
unfolding equals_at value_at
initializer-none rest stop depth b = record { equals = None; after = rest; expression = None; first = rw stop refl; second = refl; is = refl }

pub initializer-some : (state : State) (equals : Mark) (value : Expr) (a rest : State) → Begins (mark Eq equals) state a → Whole Anywhere loosest_level a value rest
    → Initialized state (Some (roll-Initializer (record { equals = equals; value = value }))) rest
unfolding equals_at value_at
initializer-some state equals value a rest h one depth bound =
    let less : expr_depth value ≤ depth = initializer-bound (record { equals = equals; value = value }) depth bound in
    record {
      equals = Some equals;
      after = a;
      expression = Some value;
      first = rw (begins-has Eq equals state a h) (rw (mark-complete Eq state equals a h) refl);
      second = rw (one depth less) refl;
      is = refl;
    }

-- Statements.

pub empty-statement : (state : State) (span : Span) (rest : State) → Begins (punct Semicolon span) state rest → Statement state (roll-Stmt (Stmt-F.Empty span)) rest
unfolding line_in start_at line_wants value_at line_end_at
empty-statement state span rest h depth b = rw (begins-has Semicolon (plain span) state rest h) (rw (punct-complete Semicolon state span rest h) refl)

name-no-keyword : (w : Keyword) (state : State) (name : Ident) (rest : State) → Begins (ident name) state rest → has_keyword w state ≡ false
unfolding has_keyword
name-no-keyword w state name rest h = rw (token-complete (kind.Name name.name) name.span state rest refl h) refl

let-bound : (word : Span) (mutable : Option Span) (name : Ident) (ty : Option TypeNote) (value : Option Initializer) (semicolon : Span) (depth : ℕ)
    → stmt_depth (roll-Stmt (Stmt-F.Let (from_to word semicolon) word mutable name ty value semicolon)) ≤ suc depth → (note_depth ty ≤ depth) × (value_depth value ≤ depth)
let-bound word mutable name ty None semicolon depth bound =
    let less : max (note_depth ty) 0 + 1 ≤ suc depth = stmt-bound _ (suc depth) bound in
    (omega arith, omega arith)
let-bound word mutable name ty (Some value) semicolon depth bound =
    let less : max (note_depth ty) (value_depth (Some value)) + 1 ≤ suc depth = stmt-bound _ (suc depth) bound in
    (omega arith, omega arith)

pub let-statement : (state : State) (word : Span) (mutable : Option Span) (name : Ident) (ty : Option TypeNote) (n : ℕ) (value : Option Initializer) (semicolon : Span) (a b c d e rest : State)
    → Begins (keyword keyword_of.Let word) state a → Stands (optional_keyword keyword_of.Mut mutable) a b → Begins (ident name) b c → Stands (note_pieces ty) c d → IsNote n ty → NoteEnds ty d
    → Begins (punct Semicolon semicolon) e rest → Initialized d value e → Statement state (roll-Stmt (Stmt-F.Let (from_to word semicolon) word mutable name ty value semicolon)) rest
unfolding line_in start_at let_start_at line_wants line_end_at
let-statement state word mutable name ty n value semicolon a b c d e rest first second third fourth is ends last inside depth bound =
    let less = let-bound word mutable name ty value semicolon depth bound in
    let made = inside depth less.1 in
    rw (token-no-mark (kind.Keyword keyword_of.Let) Semicolon word state a refl first) (rw (keyword-has keyword_of.Let state word a first)
    (rw (keyword-complete keyword_of.Let state word a first) (rw (optional-keyword-complete keyword_of.Mut a mutable b (name-no-keyword keyword_of.Mut b name c third) second)
    (rw (name-complete b name c third) (rw (note-complete depth c ty d (note-within n depth ty is less.0) ends fourth) (rw made.first (rw made.second (rw made.is (rw (punct-complete Semicolon e semicolon rest last) refl)))))))))

pub plain-statement : (state : State) (e : Expr) (semicolon : Span) (a rest : State) → begins_blocky state ≡ false → IsWholeAt Anywhere loosest_level state e a → Begins (punct Semicolon semicolon) a rest
    → Whole Anywhere loosest_level state e a → Statement state (ended_by e semicolon) rest
unfolding line_in start_at line_wants value_at line_end_at
plain-statement state e semicolon a rest other is last one depth bound =
    let less : expr_depth e + 1 ≤ suc depth = stmt-bound _ (suc depth) bound in
    let begins = whole-begins Anywhere loosest_level state e a is in
    rw (begins-no-semicolon state begins) (rw (begins-no-let state begins) (rw other (rw (one depth (omega arith))
    (rw (begins-has Semicolon (plain semicolon) a rest last) (rw (punct-complete Semicolon a semicolon rest last) refl)))))

blocky-expr : (state : State) (e : Expr) (rest : State) → IsBlockyAt state e rest → begins_expr state ≡ true
blocky-expr state e rest h = expr-begins Anywhere state e rest (ABlocky e h)

pub blocky-statement : (state : State) (e : Expr) (rest : State) → IsBlockyAt state e rest → has_mark CloseBrace rest ≡ false → Whole Anywhere operand_alone state e rest
    → Statement state (roll-Stmt (Stmt-F.Blocky e)) rest
unfolding line_in start_at line_wants value_at line_end_at
blocky-statement state e rest is stop one depth bound =
    let less : expr_depth e + 1 ≤ suc depth = stmt-bound _ (suc depth) bound in
    let begins = blocky-expr state e rest is in
    rw (begins-no-semicolon state begins) (rw (begins-no-let state begins) (rw (blocky-begins state e rest is) (rw (one depth (omega arith)) (rw stop refl))))

-- The last expression of a block.

pub blocky-last : (state : State) (e : Expr) (rest : State) → IsBlockyAt state e rest → has_mark CloseBrace rest ≡ true → Whole Anywhere operand_alone state e rest → LastValue state e rest
unfolding line_in start_at line_wants value_at line_end_at
blocky-last state e rest is stop one depth bound =
    let begins = blocky-expr state e rest is in
    rw (begins-no-semicolon state begins) (rw (begins-no-let state begins) (rw (blocky-begins state e rest is) (rw (one depth bound) (rw stop refl))))

or-first : (x : Bool) → (x || false) ≡ true → x ≡ true
or-first true e = refl
or-first false e = e

found-brace : (found : Option (Punctuation × Mark × State)) → begins_mark CloseBrace found ≡ true → begins_mark Semicolon found ≡ false
found-brace None e = refl
found-brace (Some x) e = rw (same_is x.0 CloseBrace (or-first (same_mark x.0 CloseBrace) e)) refl

-- what closes a block ends no statement
brace-no-semicolon : (state : State) → has_mark CloseBrace state ≡ true → has_mark Semicolon state ≡ false
unfolding has_mark
brace-no-semicolon state e = found-brace (first_mark state) e

pub plain-last : (state : State) (e : Expr) (rest : State) → begins_blocky state ≡ false → IsWholeAt Anywhere loosest_level state e rest → has_mark CloseBrace rest ≡ true → Whole Anywhere loosest_level state e rest
    → LastValue state e rest
unfolding line_in start_at line_wants value_at line_end_at
plain-last state e rest other is stop one depth bound =
    let begins = whole-begins Anywhere loosest_level state e rest is in
    rw (begins-no-semicolon state begins) (rw (begins-no-let state begins) (rw other (rw (one depth bound) (rw (brace-no-semicolon rest stop) (rw stop refl)))))

-- Lines.

value-no-brace : (state : State) (e : Expr) (rest : State) → IsValueAt state e rest → has_mark CloseBrace state ≡ false
value-no-brace state e rest (BlockyValue x h stop) = begins-no-brace state (blocky-expr state x rest h)
value-no-brace state e rest (PlainValue x other h stop) = begins-no-brace state (whole-begins Anywhere loosest_level state x rest h)

stmt-no-brace : (state : State) (s : Stmt) (rest : State) → IsStmtAt state s rest → has_mark CloseBrace state ≡ false
stmt-no-brace state s rest (EmptyStmt span h) = other-mark Semicolon CloseBrace (plain span) state rest refl h
stmt-no-brace state s rest (LetStmt word mutable name ty n value semicolon a b c d e first second third fourth is ends inside last) =
    token-no-mark (kind.Keyword keyword_of.Let) CloseBrace word state a refl first
stmt-no-brace state s rest (PlainStmt e semicolon a other h last) = begins-no-brace state (whole-begins Anywhere loosest_level state e a h)
stmt-no-brace state s rest (BlockyStmt e h stop) = begins-no-brace state (blocky-expr state e rest h)

pub lines-none : (rest : State) → has_mark CloseBrace rest ≡ true → Lined rest [] None rest
unfolding lines_in
lines-none rest e depth b l zero few = let some = some-left CloseBrace rest e in absurd (omega arith)
lines-none rest e depth b l (suc fuel) few = rw e refl

pub lines-last : (state : State) (e : Expr) (rest : State) → IsValueAt state e rest → LastValue state e rest → Lined state [] (Some e) rest
unfolding lines_in
lines-last state e rest is one depth b l zero few = let some = value-shrinks state e rest is in absurd (omega arith)
lines-last state e rest is one depth b l (suc fuel) few = rw (value-no-brace state e rest is) (rw (one depth l) refl)

pub lines-more : (state : State) (statement : Stmt) (others : List Stmt) (last : Option Expr) (a rest : State) → IsStmtAt state statement a → Statement state statement a → Lined a others last rest
    → Lined state (statement ∷ others) last rest
unfolding lines_in
lines-more state statement others last a rest is one more depth b l zero few = let some = stmt-shrinks state statement a is in absurd (omega arith)
lines-more state statement others last a rest is one more depth b l (suc fuel) few =
    let some = stmt-shrinks state statement a is in
    let bounds : max (stmt_depth statement) (deepest (map stmt_depth others)) ≤ suc depth = b in
    rw (stmt-no-brace state statement a is) (rw (one depth (omega arith)) (rw (more depth (omega arith) l fuel (omega arith)) refl))

-- Blocks.

pub braces-read : (state : State) (opening : Span) (statements : List Stmt) (last : Option Expr) (closing : Span) (a b rest : State) → Begins (punct OpenBrace opening) state a
    → Begins (punct CloseBrace closing) b rest → Lined a statements last b → Braces state (block_in opening statements last closing) rest
unfolding block_in_at
braces-read state opening statements last closing a b rest first second lines depth bound =
    let less = block-bound opening statements last closing depth bound in
    rw (punct-complete OpenBrace state opening a first) (rw (lines depth (omega arith) less.1 (length a) (omega arith)) (rw (punct-complete CloseBrace b closing rest second) refl))

-- Behind the block of an `if`.

pub no-otherwise : (rest : State) → has_keyword keyword_of.Else rest ≡ false → Otherwise rest None rest
unfolding else_at
no-otherwise rest stop depth b = rw stop refl

block-no-if : (state : State) (body : Block) (rest : State) → IsBlockAt state body rest → has_keyword keyword_of.If state ≡ false
unfolding has_keyword
block-no-if state body rest (Braced opening statements last closing a b first lines second) = mark-no-token (is_keyword keyword_of.If) OpenBrace (plain opening) state a (λ p. refl) first

pub block-otherwise : (state : State) (at : Span) (body : Block) (a rest : State) → Begins (keyword keyword_of.Else at) state a → IsBlockAt a body rest → Braces a body rest
    → Otherwise state (Some (roll-Else (Else-F.ElseBlock at body))) rest
unfolding else_at branch_at
block-otherwise state at body a rest h is inside depth bound =
    let less : block_depth body ≤ depth = else-bound _ depth bound in
    rw (keyword-has keyword_of.Else state at a h) (rw (keyword-complete keyword_of.Else state at a h) (rw (block-no-if a body rest is) (rw (inside depth (omega arith)) refl)))

pub if-otherwise : (state : State) (at : Span) (branch : Expr) (a rest : State) → Begins (keyword keyword_of.Else at) state a → IsIfAt a branch rest → Whole Anywhere operand_alone a branch rest
    → Otherwise state (Some (roll-Else (Else-F.ElseIf at branch))) rest
unfolding else_at branch_at
if-otherwise state at branch a rest h is one depth bound =
    let less : expr_depth branch ≤ depth = else-bound _ depth bound in
    rw (keyword-has keyword_of.Else state at a h) (rw (keyword-complete keyword_of.Else state at a h) (rw (if-begins a branch rest is) (rw (one depth less) refl)))
