-- What an operand begins with, and at what level an expression goes on.
use Rattle.std.proofs.Common.{◌≡◌, ℕ, Bool, true, false, ◌∷◌, Option, Some, None, refl, sym, ap, ◌∙◌, inl, inr}
use Rattle.std.specs.Prelude.{codes}
use Rattle.tb_perm.specs.declared.span.Span.{Span}
use Rattle.tb_lex.specs.declared.keyword.Keyword.{Keyword}
use Rattle.tb_lex.specs.declared.keyword.Keyword.TheVariants as keyword_of
use Rattle.tb_lex.specs.declared.punctuation.Punctuation.{Punctuation}
use Rattle.tb_lex.specs.declared.punctuation.Punctuation.TheVariants as punct_of
use Rattle.tb_lex.specs.declared.token.TokenKind.{TokenKind}
use Rattle.tb_lex.specs.declared.token.TokenKind.TheVariants as kind
use Rattle.tb_lex.specs.declared.token.Token.{Token}
use Rattle.tb_ast.specs.declared.leaf.Mark.{Mark}
use Rattle.tb_ast.specs.declared.leaf.Ident.{Ident}
use Rattle.tb_ast.specs.declared.leaf.Literal.TheVariants as literals
use Rattle.tb_ast.specs.declared.operator.UnaryOp.{UnaryOp}
use Rattle.tb_ast.specs.declared.operator.UnaryOp.TheVariants as unary
use Rattle.tb_ast.specs.declared.operator.BinaryOp.{BinaryOp}
use Rattle.tb_ast.specs.declared.operator.BinaryOp.TheVariants as binary
use Rattle.tb_ast.specs.declared.operator.AssignOp.{AssignOp}
use Rattle.tb_ast.specs.declared.operator.AssignOp.TheVariants as assign
use Rattle.tb_ast.specs.Pieces.{piece, punct, mark, keyword, ident, truth}
use Rattle.tb_ast.specs.Expressions.{unary_mark, binary_mark, assign_mark, print_word}
use Rattle.tb_syntax.specs.State.{State, Begins}
use Rattle.tb_syntax.specs.Marks.{mark_of, first_mark, begins_mark, has_mark}
use Rattle.tb_syntax.specs.Leaves.{token_at, passes, is_keyword, has_keyword}
use Rattle.tb_syntax.proofs.Marks.{shows}
use Rattle.tb_syntax.proofs.Tokens.{keyword-has}
use Rattle.tb_syntax.proofs.Fronts.{path-first}
use Rattle.tb_forms.specs.declared.place.Where.{Where}
use Rattle.tb_forms.specs.declared.front.Front.{Front}
use Rattle.tb_forms.specs.declared.front.Front.TheVariants as front
use Rattle.tb_forms.specs.declared.step.Step.{Step}
use Rattle.tb_forms.specs.declared.step.Step.TheVariants as step
use Rattle.tb_forms.specs.Beginnings.{begins_with, mark_begins, keyword_begins, kind_begins, begins_expr, mark_blocks, kind_blocks, begins_blocky}
use Rattle.tb_forms.specs.Levels.{operand_alone, tightest_level, loosest_level, binary_level, left_level, mark_level, level_with, level_at, loosest_left, takes_on, goes_on}
use Rattle.tb_forms.specs.Fronts.{IsFrontAt}
use Rattle.tb_forms.specs.Steps.{step_level, operand_level, IsStepAt}
use Rattle.tb_forms.proofs.Firsts.{is_lone, lone-stands, lone-first, IsAnd, and-first, has-first, brace-first, first-no-token, token-stands, row-begins}

-- What an operand begins with: a mark, or a token of another kind.

-- the first mark is this one, or no mark comes first but this token
pub data Opens (state : State) : Type 0 where
  WithMark : (x : Punctuation × Mark × State) → first_mark state ≡ Some x → Opens state
  WithToken : (k : TokenKind) (span : Span) (rest : State) → mark_of k ≡ None → state ≡ piece k span ∷ rest → Opens state

-- what is asked of the first mark or token, asked of what an operand begins with
abbrev asked : (Punctuation → Bool) → (TokenKind → Bool) → (state : State) → Opens state → Bool
asked marks kinds state (WithMark x e) = marks x.0
asked marks kinds state (WithToken k span rest plain e) = kinds k

begins-plain : (marks : Punctuation → Bool) (kinds : TokenKind → Bool) (k : TokenKind) (span : Span) (rest : State) → mark_of k ≡ None
    → begins_with marks kinds (first_mark (piece k span ∷ rest)) (token_at (piece k span ∷ rest)) ≡ kinds k
begins-plain marks kinds (kind.Punctuation p) span rest plain = absurd cc
begins-plain marks kinds k span rest plain = refl

begins-asked : (marks : Punctuation → Bool) (kinds : TokenKind → Bool) (state : State) (o : Opens state) → begins_with marks kinds (first_mark state) (token_at state) ≡ asked marks kinds state o
begins-asked marks kinds state (WithMark x e) = rw e refl
begins-asked marks kinds state (WithToken k span rest plain e) = rw e (begins-plain marks kinds k span rest plain)

-- a keyword comes next where it is the token that comes first
abbrev is_word : Keyword → (state : State) → Opens state → Bool
is_word w state (WithMark x e) = false
is_word w state (WithToken k span rest plain e) = is_keyword w k

keyword-asked : (w : Keyword) (state : State) (o : Opens state) → has_keyword w state ≡ is_word w state o
unfolding has_keyword
keyword-asked w state (WithMark x e) = first-no-token (is_keyword w) state x (λ p. refl) e
keyword-asked w state (WithToken k span rest plain e) = rw e refl

abbrev pub is_blocky : Front → Bool
is_blocky front.Block = true
is_blocky (front.Unsafe at) = true
is_blocky (front.While at) = true
is_blocky (front.Loop at) = true
is_blocky (front.If at) = true
is_blocky other = false

abbrev pub is_if : Front → Bool
is_if (front.If at) = true
is_if other = false

-- an operand begins so, and what is asked of its beginning has these answers
record Opening (state : State) (f : Front) : Type 0 where
  opens : Opens state
  begins : asked mark_begins kind_begins state opens ≡ true
  blocks : asked mark_blocks kind_blocks state opens ≡ is_blocky f
  ifs : is_word keyword_of.If state opens ≡ is_if f

with-mark : (p : Punctuation) (m : Mark) (state rest : State) → is_lone p ≡ true → Begins (mark p m) state rest → Opens state
with-mark p m state rest lone h = WithMark (p, m, rest) (lone-first p m state rest lone h)

with-token : (k : TokenKind) (span : Span) (state rest : State) → mark_of k ≡ None → Begins (piece k span) state rest → Opens state
with-token k span state rest plain h = WithToken k span rest plain (token-stands k span state rest plain h)

truth-opens : (value : Bool) (span : Span) (state rest : State) → Begins (keyword (truth value) span) state rest → (f : Front) → is_blocky f ≡ false → is_if f ≡ false → Opening state f
unfolding with-token
truth-opens true span state rest h f block iff = record { opens = with-token (kind.Keyword keyword_of.True) span state rest refl h; begins = refl; blocks = sym block; ifs = sym iff }
truth-opens false span state rest h f block iff = record { opens = with-token (kind.Keyword keyword_of.False) span state rest refl h; begins = refl; blocks = sym block; ifs = sym iff }

name-opens : (name : Ident) (state rest : State) → Begins (ident name) state rest → (f : Front) → is_blocky f ≡ false → is_if f ≡ false → Opening state f
unfolding with-token
name-opens name state rest h f block iff = record { opens = with-token (kind.Name name.name) name.span state rest refl h; begins = refl; blocks = sym block; ifs = sym iff }

unary-opens : (operator : UnaryOp) (at : Span) (state rest : State) → Begins (punct (unary_mark operator) at) state rest → Opening state (front.Unary operator at)
unfolding with-mark
unary-opens unary.Neg at state rest h = record { opens = with-mark punct_of.Minus (record { span = at; glued = false }) state rest refl h; begins = refl; blocks = refl; ifs = refl }
unary-opens unary.Not at state rest h = record { opens = with-mark punct_of.Not (record { span = at; glued = false }) state rest refl h; begins = refl; blocks = refl; ifs = refl }
unary-opens unary.Deref at state rest h = record { opens = with-mark punct_of.Star (record { span = at; glued = false }) state rest refl h; begins = refl; blocks = refl; ifs = refl }

-- the marks that a borrow and a block begin with

and-begins : (p : Punctuation) → IsAnd p → (mark_begins p ≡ true) × (mark_blocks p ≡ false)
and-begins p (inl e) = (ap mark_begins e, ap mark_blocks e)
and-begins p (inr e) = (ap mark_begins e, ap mark_blocks e)

brace-begins : (p : Punctuation) → shows punct_of.OpenBrace p ≡ true → (mark_begins p ≡ true) × (mark_blocks p ≡ true)
brace-begins p e = let is = brace-first p e in (ap mark_begins is, ap mark_blocks is)

front-opens : (depth : ℕ) (place : Where) (state : State) (f : Front) (rest : State) → IsFrontAt depth place state f rest → Opening state f
unfolding with-mark with-token
front-opens depth place state (front.Literal (literals.Int int)) rest h = record { opens = with-token (kind.Integer int.integer) int.span state rest refl h; begins = refl; blocks = refl; ifs = refl }
front-opens depth place state (front.Literal (literals.Char c)) rest h = record { opens = with-token (kind.Character c.value) c.span state rest refl h; begins = refl; blocks = refl; ifs = refl }
front-opens depth place state (front.Literal (literals.Byte b)) rest h = record { opens = with-token (kind.Byte b.value) b.span state rest refl h; begins = refl; blocks = refl; ifs = refl }
front-opens depth place state (front.Literal (literals.Bool b)) rest h = truth-opens b.value b.span state rest h (front.Literal (literals.Bool b)) refl refl
front-opens depth place state (front.Path path) rest h =
    let n = row-begins path state rest h.0.is_path h.0.stands in
    name-opens n.0 state n.1 n.2 (front.Path path) refl refl
front-opens depth place state (front.StructLiteral path opening) rest h =
    let n = path-first path state h.3 h.2 h.4 in
    name-opens n.0 state n.1 n.2 (front.StructLiteral path opening) refl refl
front-opens depth place state (front.Call path opening) rest h =
    let n = row-begins path state h.0 h.1.is_path h.1.stands in
    name-opens n.0 state n.1 n.2 (front.Call path opening) refl refl
front-opens depth place state (front.Paren opening) rest h = record { opens = with-mark punct_of.OpenParen (record { span = opening; glued = false }) state rest refl h; begins = refl; blocks = refl; ifs = refl }
front-opens depth place state (front.Bracket opening) rest h = record { opens = with-mark punct_of.OpenBracket (record { span = opening; glued = false }) state rest refl h; begins = refl; blocks = refl; ifs = refl }
front-opens depth place state front.Block rest h =
    let x = has-first punct_of.OpenBrace state h.0 in
    let b = brace-begins x.0.0 x.2 in
    record { opens = WithMark x.0 x.1; begins = b.0; blocks = b.1; ifs = refl }
front-opens depth place state (front.Unsafe at) rest h = record { opens = with-token (kind.Keyword keyword_of.Unsafe) at state rest refl h; begins = refl; blocks = refl; ifs = refl }
front-opens depth place state (front.While at) rest h = record { opens = with-token (kind.Keyword keyword_of.While) at state rest refl h; begins = refl; blocks = refl; ifs = refl }
front-opens depth place state (front.Loop at) rest h = record { opens = with-token (kind.Keyword keyword_of.Loop) at state rest refl h; begins = refl; blocks = refl; ifs = refl }
front-opens depth place state (front.If at) rest h = record { opens = with-token (kind.Keyword keyword_of.If) at state rest refl h; begins = refl; blocks = refl; ifs = refl }
front-opens depth place state (front.Return at) rest h = record { opens = with-token (kind.Keyword keyword_of.Return) at state rest refl h; begins = refl; blocks = refl; ifs = refl }
front-opens depth place state (front.Break at) rest h = record { opens = with-token (kind.Keyword keyword_of.Break) at state rest refl h; begins = refl; blocks = refl; ifs = refl }
front-opens depth place state (front.Continue at) rest h = record { opens = with-token (kind.Keyword keyword_of.Continue) at state rest refl h; begins = refl; blocks = refl; ifs = refl }
front-opens depth place state (front.Print name newline bang opening text) rest h =
    name-opens (record { name = record { bytes = print_word newline }; span = name }) state h.0.0 h.0.1 (front.Print name newline bang opening text) refl refl
front-opens depth place state (front.Panic name bang opening text closing) rest h =
    name-opens (record { name = record { bytes = codes "panic" }; span = name }) state h.0 h.1 (front.Panic name bang opening text closing) refl refl
front-opens depth place state (front.Assert name bang opening) rest h =
    name-opens (record { name = record { bytes = codes "assert" }; span = name }) state h.0 h.1 (front.Assert name bang opening) refl refl
front-opens depth place state (front.Unary operator at) rest h = unary-opens operator at state rest h
front-opens depth place state (front.Borrow and borrowed) rest h =
    let x = and-first and state h.0 h.1 in
    let a = and-begins x.0.0 x.2 in
    record { opens = WithMark x.0 x.1; begins = a.0; blocks = a.1; ifs = refl }

-- an operand begins an expression, and a blocky one a blocky expression

pub front-begins : (depth : ℕ) (place : Where) (state : State) (f : Front) (rest : State) → IsFrontAt depth place state f rest → begins_expr state ≡ true
unfolding begins_expr
front-begins depth place state f rest h =
    let o = front-opens depth place state f rest h in
    begins-asked mark_begins kind_begins state o.opens ∙ o.begins

pub front-blocks : (depth : ℕ) (place : Where) (state : State) (f : Front) (rest : State) → IsFrontAt depth place state f rest → begins_blocky state ≡ is_blocky f
unfolding begins_blocky
front-blocks depth place state f rest h =
    let o = front-opens depth place state f rest h in
    begins-asked mark_blocks kind_blocks state o.opens ∙ o.blocks

pub front-ifs : (depth : ℕ) (place : Where) (state : State) (f : Front) (rest : State) → IsFrontAt depth place state f rest → has_keyword keyword_of.If state ≡ is_if f
front-ifs depth place state f rest h =
    let o = front-opens depth place state f rest h in
    keyword-asked keyword_of.If state o.opens ∙ o.ifs

-- No mark that closes or divides, and no `let`, begins an expression.

record Closes (p : Punctuation) : Type 0 where
  paren : shows punct_of.CloseParen p ≡ false
  bracket : shows punct_of.CloseBracket p ≡ false
  brace : shows punct_of.CloseBrace p ≡ false
  semicolon : shows punct_of.Semicolon p ≡ false

begun-closes : (p : Punctuation) → mark_begins p ≡ true → Closes p
begun-closes punct_of.OpenParen e = record { paren = refl; bracket = refl; brace = refl; semicolon = refl }
begun-closes punct_of.OpenBracket e = record { paren = refl; bracket = refl; brace = refl; semicolon = refl }
begun-closes punct_of.OpenBrace e = record { paren = refl; bracket = refl; brace = refl; semicolon = refl }
begun-closes punct_of.Minus e = record { paren = refl; bracket = refl; brace = refl; semicolon = refl }
begun-closes punct_of.Not e = record { paren = refl; bracket = refl; brace = refl; semicolon = refl }
begun-closes punct_of.Star e = record { paren = refl; bracket = refl; brace = refl; semicolon = refl }
begun-closes punct_of.And e = record { paren = refl; bracket = refl; brace = refl; semicolon = refl }
begun-closes punct_of.AndAnd e = record { paren = refl; bracket = refl; brace = refl; semicolon = refl }
begun-closes other e = absurd cc

begins-no-mark : (wanted : Punctuation) (r : Option (Punctuation × Mark × State)) (token : Option (Token × State)) → ((p : Punctuation) → mark_begins p ≡ true → shows wanted p ≡ false)
    → begins_with mark_begins kind_begins r token ≡ true → begins_mark wanted r ≡ false
begins-no-mark wanted (Some x) token never e = never x.0 e
begins-no-mark wanted None token never e = refl

pub begins-no-paren : (state : State) → begins_expr state ≡ true → has_mark punct_of.CloseParen state ≡ false
unfolding begins_expr has_mark
begins-no-paren state h = begins-no-mark punct_of.CloseParen (first_mark state) (token_at state) (λ p e. (begun-closes p e).paren) h

pub begins-no-bracket : (state : State) → begins_expr state ≡ true → has_mark punct_of.CloseBracket state ≡ false
unfolding begins_expr has_mark
begins-no-bracket state h = begins-no-mark punct_of.CloseBracket (first_mark state) (token_at state) (λ p e. (begun-closes p e).bracket) h

pub begins-no-brace : (state : State) → begins_expr state ≡ true → has_mark punct_of.CloseBrace state ≡ false
unfolding begins_expr has_mark
begins-no-brace state h = begins-no-mark punct_of.CloseBrace (first_mark state) (token_at state) (λ p e. (begun-closes p e).brace) h

pub begins-no-semicolon : (state : State) → begins_expr state ≡ true → has_mark punct_of.Semicolon state ≡ false
unfolding begins_expr has_mark
begins-no-semicolon state h = begins-no-mark punct_of.Semicolon (first_mark state) (token_at state) (λ p e. (begun-closes p e).semicolon) h

word-no-let : (w : Keyword) → keyword_begins w ≡ true → is_keyword keyword_of.Let (kind.Keyword w) ≡ false
word-no-let keyword_of.Let e = absurd cc
word-no-let other e = refl

kind-no-let : (k : TokenKind) → kind_begins k ≡ true → is_keyword keyword_of.Let k ≡ false
kind-no-let (kind.Keyword w) e = word-no-let w e
kind-no-let other e = refl

token-no-let : (token : Option (Token × State)) → passes kind_begins token ≡ true → passes (is_keyword keyword_of.Let) token ≡ false
token-no-let None e = refl
token-no-let (Some x) e = kind-no-let x.0.kind e

pub begins-no-let : (state : State) → begins_expr state ≡ true → has_keyword keyword_of.Let state ≡ false
unfolding begins_expr has_keyword
begins-no-let state h = by_first (first_mark state) refl where
  by_first : (r : Option (Punctuation × Mark × State)) → first_mark state ≡ r → passes (is_keyword keyword_of.Let) (token_at state) ≡ false
  by_first (Some x) e = first-no-token (is_keyword keyword_of.Let) state x (λ p. refl) e
  by_first None e = token-no-let (token_at state) (rw e at h)

-- Levels.

binary-levels : (operator : BinaryOp) → mark_level (binary_mark operator) ≡ Some (binary_level operator)
binary-levels binary.Mul = refl
binary-levels other = refl

assign-levels : (operator : AssignOp) → mark_level (assign_mark operator) ≡ Some loosest_level
assign-levels assign.Mul = refl
assign-levels other = refl

dot-level : (dot : Span) (state rest : State) → Begins (punct punct_of.Dot dot) state rest → level_at state ≡ Some tightest_level
dot-level dot state rest h = rw (lone-stands punct_of.Dot (record { span = dot; glued = false }) state rest refl h) refl

-- a step's level is the level of what comes next
pub step-levels : (depth : ℕ) (state : State) (s : Step) (rest : State) → IsStepAt depth state s rest → level_at state ≡ Some (step_level s)
step-levels depth state (step.Field dot name) rest h = dot-level dot state h.0 h.1
step-levels depth state (step.TupleField dot index) rest h = dot-level dot state h.0 h.1
step-levels depth state (step.MethodCall dot name turbofish opening) rest h = dot-level dot state h.0.0 h.0.1
step-levels depth state (step.Index opening) rest h = rw (lone-stands punct_of.OpenBracket (record { span = opening; glued = false }) state rest refl h) refl
step-levels depth state (step.Cast at ty) rest h =
    let word = keyword-has keyword_of.As state at h.0 h.1 in
    rw (word, token-stands (kind.Keyword keyword_of.As) at state h.0 refl h.1) refl
step-levels depth state (step.Binary operator at) rest h = rw h (binary-levels operator)
step-levels depth state (step.Assign equals) rest h = rw h refl
step-levels depth state (step.AssignOp operator at) rest h = rw h (assign-levels operator)

binary-operands : (operator : BinaryOp) → left_level operator ≡ loosest_left (binary_level operator)
binary-operands binary.Mul = refl
binary-operands other = refl

-- a step's left operand is the loosest that its level takes
pub step-operands : (s : Step) → operand_level s ≡ loosest_left (step_level s)
step-operands (step.Binary operator at) = binary-operands operator
step-operands (step.Cast at ty) = refl
step-operands other = refl

-- none goes on up to level 0

mark-nothing : (level : ℕ) (p : Punctuation) → takes_on level operand_alone (mark_level p) ≡ false
mark-nothing level punct_of.Dot = refl
mark-nothing level other = refl

level-nothing : (level : ℕ) (r : Option (Punctuation × Mark × State)) (cast : Bool) → takes_on level operand_alone (level_with r cast) ≡ false
level-nothing level (Some x) cast = mark-nothing level x.0
level-nothing level None true = refl
level-nothing level None false = refl

pub goes-nowhere : (level : ℕ) (state : State) → goes_on level operand_alone state ≡ false
unfolding goes_on
goes-nowhere level state = level-nothing level (first_mark state) (has_keyword keyword_of.As state)
