-- What stands before the first expression in an operand is read.
use Rattle.std.proofs.Common.{◌≡◌, ℕ, Bool, true, false, if◌then◌else◌, List, [], ◌∷◌, ◌++◌, Some, None, refl, sym, ap, ◌∙◌, inl, inr}
use Rattle.std.specs.Prelude.{codes}
use Rattle.tb_perm.specs.declared.span.Span.{Span}
use Rattle.tb_lex.specs.declared.keyword.Keyword.TheVariants as keyword_of
use Rattle.tb_lex.specs.declared.punctuation.Punctuation.{Punctuation}
use Rattle.tb_lex.specs.declared.punctuation.Punctuation.TheVariants as punct_of
use Rattle.tb_lex.specs.declared.token.TokenKind.{TokenKind}
use Rattle.tb_lex.specs.declared.token.TokenKind.TheVariants as kind
use Rattle.tb_ast.specs.declared.leaf.Mark.{Mark}
use Rattle.tb_ast.specs.declared.leaf.Ident.{Ident}
use Rattle.tb_ast.specs.declared.leaf.Literal.TheVariants as literals
use Rattle.tb_ast.specs.declared.operator.UnaryOp.{UnaryOp}
use Rattle.tb_ast.specs.declared.operator.UnaryOp.TheVariants as unary
use Rattle.tb_ast.specs.Pieces.{piece, punct, keyword, ident, word, truth, text_pieces}
use Rattle.tb_ast.specs.Expressions.{unary_mark, print_word, print_text}
use Rattle.tb_syntax.specs.State.{State, Begins}
use Rattle.tb_syntax.specs.Marks.{mark_of, first_mark, has_mark}
use Rattle.tb_syntax.proofs.Tokens.{token-complete}
use Rattle.tb_syntax.proofs.Fronts.{path-first}
use Rattle.tb_forms.specs.declared.place.Where.{Where}
use Rattle.tb_forms.specs.declared.front.Front.{Front}
use Rattle.tb_forms.specs.declared.front.Front.TheVariants as front
use Rattle.tb_forms.specs.Beginnings.{is_banged, begins_macro}
use Rattle.tb_forms.specs.Fronts.{marked_front, macro_front_at, path_front_at, borrow_front_at, worded_front, token_front, front_with, front_at, IsFrontAt}
use Rattle.tb_forms.proofs.Firsts.{lone-stands, IsAnd, and-first, has-first, brace-first, token-stands, token-first, row-begins, macro-begins}
use Rattle.tb_forms.proofs.Paths.{path-alone-complete, call-complete, literal-complete}
use Rattle.tb_forms.proofs.MacroFronts.{print-complete, panic-complete, assert-complete}
use Rattle.tb_forms.proofs.Borrows.{borrow-complete}

-- A name: a macro, or a path.

worded : (depth : ℕ) (place : Where) (state : State) (k : TokenKind) (span : Span) (after : State) → mark_of k ≡ None → Begins (piece k span) state after → front_at depth place state ≡ worded_front depth place state k span after
unfolding front_at
worded depth place state k span after plain h =
    ap (front_with depth place state) (token-first k span state after plain h) ∙ ap (token_front depth place state) (token-complete k span state after plain h)

macro-read : (depth : ℕ) (place : Where) (name : List ℕ) (at : Span) (state after : State) → Begins (word name at) state after → has_mark punct_of.Not after ≡ true → front_at depth place state ≡ macro_front_at state
macro-read depth place name at state after h bang =
    worded depth place state (kind.Name (record { bytes = name })) at after refl h ∙ ap (λ b. if b then macro_front_at state else path_front_at depth place state) bang

path-read : (depth : ℕ) (place : Where) (name : Ident) (state after : State) → Begins (ident name) state after → begins_macro state ≡ false → front_at depth place state ≡ path_front_at depth place state
unfolding begins_macro
path-read depth place name state after h plain =
    let bang : has_mark punct_of.Not after ≡ false = sym (ap is_banged (token-complete (kind.Name name.name) name.span state after refl h)) ∙ plain in
    worded depth place state (kind.Name name.name) name.span after refl h ∙ ap (λ b. if b then macro_front_at state else path_front_at depth place state) bang

-- Literals, keywords and marks.

truth-complete : (depth : ℕ) (place : Where) (value : Bool) (span : Span) (state rest : State) → Begins (keyword (truth value) span) state rest
    → front_at depth place state ≡ Some (front.Literal (literals.Bool (record { value = value; span = span })), rest)
unfolding front_at
truth-complete depth place true span state rest h = rw (token-stands (kind.Keyword keyword_of.True) span state rest refl h) refl
truth-complete depth place false span state rest h = rw (token-stands (kind.Keyword keyword_of.False) span state rest refl h) refl

unary-complete : (depth : ℕ) (place : Where) (operator : UnaryOp) (at : Span) (state rest : State) → Begins (punct (unary_mark operator) at) state rest → front_at depth place state ≡ Some (front.Unary operator at, rest)
unfolding front_at
unary-complete depth place unary.Neg at state rest h = rw (lone-stands punct_of.Minus (record { span = at; glued = false }) state rest refl h) refl
unary-complete depth place unary.Not at state rest h = rw (lone-stands punct_of.Not (record { span = at; glued = false }) state rest refl h) refl
unary-complete depth place unary.Deref at state rest h = rw (lone-stands punct_of.Star (record { span = at; glued = false }) state rest refl h) refl

and-read : (depth : ℕ) (place : Where) (state : State) (x : Punctuation × Mark × State) → first_mark state ≡ Some x → IsAnd x.0 → front_at depth place state ≡ borrow_front_at state
unfolding front_at
and-read depth place state x e (inl is) = ap (front_with depth place state) e ∙ ap (λ p. marked_front state p x.1 x.2) is
and-read depth place state x e (inr is) = ap (front_with depth place state) e ∙ ap (λ p. marked_front state p x.1 x.2) is

block-read : (depth : ℕ) (place : Where) (state : State) → has_mark punct_of.OpenBrace state ≡ true → front_at depth place state ≡ Some (front.Block, state)
unfolding front_at
block-read depth place state h =
    let x = has-first punct_of.OpenBrace state h in
    ap (front_with depth place state) x.1 ∙ ap (λ p. marked_front state p x.0.1 x.0.2) (brace-first x.0.0 x.2)

pub front-complete : (depth : ℕ) (place : Where) (state : State) (f : Front) (rest : State) → IsFrontAt depth place state f rest → front_at depth place state ≡ Some (f, rest)
unfolding front_at
front-complete depth place state (front.Literal (literals.Int int)) rest h = rw (token-stands (kind.Integer int.integer) int.span state rest refl h) refl
front-complete depth place state (front.Literal (literals.Char c)) rest h = rw (token-stands (kind.Character c.value) c.span state rest refl h) refl
front-complete depth place state (front.Literal (literals.Byte b)) rest h = rw (token-stands (kind.Byte b.value) b.span state rest refl h) refl
front-complete depth place state (front.Literal (literals.Bool b)) rest h = truth-complete depth place b.value b.span state rest h
front-complete depth place state (front.Path path) rest h =
    let n = row-begins path state rest h.0.is_path h.0.stands in
    path-read depth place n.0 state n.1 n.2 h.0.plain ∙ path-alone-complete depth place state path rest h
front-complete depth place state (front.StructLiteral path opening) rest h =
    let n = path-first path state h.3 h.2 h.4 in
    path-read depth place n.0 state n.1 n.2 h.1 ∙ literal-complete depth place state path opening rest h
front-complete depth place state (front.Call path opening) rest h =
    let n = row-begins path state h.0 h.1.is_path h.1.stands in
    path-read depth place n.0 state n.1 n.2 h.1.plain ∙ call-complete depth place state path opening rest h
front-complete depth place state (front.Paren opening) rest h = rw (lone-stands punct_of.OpenParen (record { span = opening; glued = false }) state rest refl h) refl
front-complete depth place state (front.Bracket opening) rest h = rw (lone-stands punct_of.OpenBracket (record { span = opening; glued = false }) state rest refl h) refl
front-complete depth place state front.Block rest h = block-read depth place state h.0 ∙ ap (λ (s : State). Some (front.Block, s)) h.1
front-complete depth place state (front.Unsafe at) rest h = rw (token-stands (kind.Keyword keyword_of.Unsafe) at state rest refl h) refl
front-complete depth place state (front.While at) rest h = rw (token-stands (kind.Keyword keyword_of.While) at state rest refl h) refl
front-complete depth place state (front.Loop at) rest h = rw (token-stands (kind.Keyword keyword_of.Loop) at state rest refl h) refl
front-complete depth place state (front.If at) rest h = rw (token-stands (kind.Keyword keyword_of.If) at state rest refl h) refl
front-complete depth place state (front.Return at) rest h = rw (token-stands (kind.Keyword keyword_of.Return) at state rest refl h) refl
front-complete depth place state (front.Break at) rest h = rw (token-stands (kind.Keyword keyword_of.Break) at state rest refl h) refl
front-complete depth place state (front.Continue at) rest h = rw (token-stands (kind.Keyword keyword_of.Continue) at state rest refl h) refl
front-complete depth place state (front.Print name newline bang opening text) rest h =
    let m = macro-begins (print_word newline) name bang opening (print_text text) state rest h.0 in
    macro-read depth place (print_word newline) name state m.0 m.1 m.2 ∙ print-complete newline state name bang opening text rest h.0 h.1
front-complete depth place state (front.Panic name bang opening text closing) rest h =
    let m = macro-begins (codes "panic") name bang opening (text_pieces text ++ punct punct_of.CloseParen closing ∷ []) state rest h in
    macro-read depth place (codes "panic") name state m.0 m.1 m.2 ∙ panic-complete state name bang opening text closing rest h
front-complete depth place state (front.Assert name bang opening) rest h =
    let m = macro-begins (codes "assert") name bang opening [] state rest h in
    macro-read depth place (codes "assert") name state m.0 m.1 m.2 ∙ assert-complete state name bang opening rest h
front-complete depth place state (front.Unary operator at) rest h = unary-complete depth place operator at state rest h
front-complete depth place state (front.Borrow and borrowed) rest h =
    let x = and-first and state h.0 h.1 in
    and-read depth place state x.0 x.1 x.2 ∙ borrow-complete state and borrowed h.0 rest h.1 h.2 h.3
