-- What stands behind an operand is read.
use Rattle.std.proofs.Common.{◌≡◌, ℕ, Bool, true, false, if◌then◌else◌, ◌||◌, [], ◌∷◌, ◌++◌, Option, Some, None, refl, ap, ◌∙◌}
use Rattle.tb_perm.specs.declared.span.Span.{Span}
use Rattle.tb_lex.specs.declared.keyword.Keyword.TheVariants as keyword_of
use Rattle.tb_lex.specs.declared.punctuation.Punctuation.TheVariants as punct_of
use Rattle.tb_lex.specs.declared.token.TokenKind.TheVariants as kind
use Rattle.tb_ast.specs.declared.leaf.Mark.{Mark}
use Rattle.tb_ast.specs.declared.leaf.Ident.{Ident}
use Rattle.tb_ast.specs.declared.leaf.IntLiteral.{IntLiteral}
use Rattle.tb_ast.specs.declared.operator.BinaryOp.{BinaryOp}
use Rattle.tb_ast.specs.declared.operator.BinaryOp.TheVariants as binary
use Rattle.tb_ast.specs.declared.operator.AssignOp.{AssignOp}
use Rattle.tb_ast.specs.declared.operator.AssignOp.TheVariants as assign
use Rattle.tb_ast.specs.declared.written.TypeExpr.{TypeExpr}
use Rattle.tb_ast.specs.declared.written.Turbofish.{Turbofish}
use Rattle.tb_ast.specs.Pieces.{punct, keyword, ident, number}
use Rattle.tb_ast.specs.Types.{turbofish_pieces}
use Rattle.tb_ast.specs.Expressions.{binary_mark, assign_mark}
use Rattle.tb_syntax.specs.State.{State, Begins, Stands}
use Rattle.tb_syntax.specs.Marks.{first_mark, has_mark}
use Rattle.tb_syntax.specs.Leaves.{has_name}
use Rattle.tb_syntax.specs.Notes.{IsTurbofish, TurbofishEnds}
use Rattle.tb_syntax.specs.Types.{length_at}
use Rattle.tb_syntax.specs.Written.{IsTypeAt}
use Rattle.tb_syntax.proofs.Chains.{stands-split, stands-one}
use Rattle.tb_syntax.proofs.Marks.{punct-complete, other-mark}
use Rattle.tb_syntax.proofs.Tokens.{keyword-complete, name-complete, name-has, number-complete}
use Rattle.tb_syntax.proofs.Listed.{begins-has}
use Rattle.tb_syntax.proofs.Typed.{type-complete}
use Rattle.tb_syntax.proofs.Noted.{turbofish-complete}
use Rattle.tb_forms.specs.declared.step.Step.{Step}
use Rattle.tb_forms.specs.declared.step.Step.TheVariants as step
use Rattle.tb_forms.specs.Steps.{has_one_type, method_at, is_called, dot_step_at, marked_step, cast_step_at, step_with, step_at, IsOneType, IsStepAt}
use Rattle.tb_forms.proofs.Firsts.{lone-first, token-stands, token-first}

-- Operators.

binary-complete : (depth : ℕ) (operator : BinaryOp) (at : Mark) (rest : State) → marked_step depth (binary_mark operator) at rest ≡ Some (step.Binary operator at, rest)
binary-complete depth binary.Mul at rest = refl
binary-complete depth other at rest = refl

assign-complete : (depth : ℕ) (operator : AssignOp) (at : Span) (rest : State) → marked_step depth (assign_mark operator) (record { span = at; glued = false }) rest ≡ Some (step.AssignOp operator at, rest)
assign-complete depth assign.Mul at rest = refl
assign-complete depth other at rest = refl

-- Behind a dot.

dot-read : (depth : ℕ) (dot : Span) (state middle : State) → Begins (punct punct_of.Dot dot) state middle → step_at depth state ≡ dot_step_at depth dot middle
unfolding step_at
dot-read depth dot state middle h =
    let m : Mark = record { span = dot; glued = false } in
    ap (step_with depth state) (lone-first punct_of.Dot m state middle refl h)

field-complete : (depth : ℕ) (dot : Span) (name : Ident) (state rest : State) → Begins (ident name) state rest → has_mark punct_of.OpenParen rest ≡ false → has_mark punct_of.PathSep rest ≡ false
    → dot_step_at depth dot state ≡ Some (step.Field dot name, rest)
unfolding dot_step_at
field-complete depth dot name state rest h paren separator =
    rw (name-has state name rest h) (rw (name-complete state name rest h) (rw (paren, separator) refl))

number-no-name : (int : IntLiteral) (state rest : State) → Begins (number int) state rest → has_name state ≡ false
unfolding has_name
number-no-name int state rest h = rw (token-stands (kind.Integer int.integer) int.span state rest refl h) refl

index-complete : (state : State) (int : IntLiteral) (rest : State) → Begins (number int) state rest → int.integer.suffix ≡ None → length_at state ≡ Some (int, rest)
unfolding length_at
index-complete state int rest h plain = rw (number-complete state int rest h) (rw plain refl)

tuple-field-complete : (depth : ℕ) (dot : Span) (index : IntLiteral) (state rest : State) → Begins (number index) state rest → index.integer.suffix ≡ None → dot_step_at depth dot state ≡ Some (step.TupleField dot index, rest)
unfolding dot_step_at
tuple-field-complete depth dot index state rest h plain = rw (number-no-name index state rest h) (rw (index-complete state index rest h plain) refl)

or-true : (x : Bool) → (x || true) ≡ true
or-true true = refl
or-true false = refl

-- `(` or `::` stands behind the name
called : (turbofish : Option Turbofish) (opening : Span) (state middle rest : State) → Stands (turbofish_pieces turbofish) state middle → Begins (punct punct_of.OpenParen opening) middle rest → is_called state ≡ true
called None opening state middle rest h last =
    let same : state ≡ middle = h in
    let m : Mark = record { span = opening; glued = false } in
    rw (ap (has_mark punct_of.OpenParen) same ∙ begins-has punct_of.OpenParen m middle rest last) refl
called (Some turbofish) opening state middle rest h last =
    let m : Mark = record { span = turbofish.separator; glued = false } in
    rw (begins-has punct_of.PathSep m state h.0 h.1) (or-true (has_mark punct_of.OpenParen state))

types-end : (turbofish : Option Turbofish) (opening : Span) (middle rest : State) → Begins (punct punct_of.OpenParen opening) middle rest → TurbofishEnds turbofish middle
types-end None opening middle rest last = other-mark punct_of.OpenParen punct_of.PathSep (record { span = opening; glued = false }) middle rest refl last
types-end (Some turbofish) opening middle rest last = tt

one-type : (turbofish : Option Turbofish) → IsOneType turbofish → has_one_type turbofish ≡ true
one-type None is = refl
one-type (Some turbofish) is = rw (is.0, is.1) refl

method-complete : (depth : ℕ) (dot : Span) (name : Ident) (turbofish : Option Turbofish) (opening : Span) (state rest : State)
    → Stands (turbofish_pieces turbofish ++ punct punct_of.OpenParen opening ∷ []) state rest → IsTurbofish depth turbofish → IsOneType turbofish
    → (if is_called state then method_at depth dot name state else Some (step.Field dot name, state)) ≡ Some (step.MethodCall dot name turbofish opening, rest)
method-complete depth dot name turbofish opening state rest h is one =
    let parts = stands-split (turbofish_pieces turbofish) (punct punct_of.OpenParen opening ∷ []) state rest h in
    let last = stands-one (punct punct_of.OpenParen opening) parts.0 rest parts.2 in
    rw (called turbofish opening state parts.0 rest parts.1 last)
    (rw (turbofish-complete depth state turbofish parts.0 is (types-end turbofish opening parts.0 rest last) parts.1)
    (rw (one-type turbofish one) (rw (punct-complete punct_of.OpenParen parts.0 opening rest last) refl)))

method-call-complete : (depth : ℕ) (dot : Span) (name : Ident) (turbofish : Option Turbofish) (opening : Span) (state middle rest : State) → Begins (ident name) state middle
    → Stands (turbofish_pieces turbofish ++ punct punct_of.OpenParen opening ∷ []) middle rest → IsTurbofish depth turbofish → IsOneType turbofish
    → dot_step_at depth dot state ≡ Some (step.MethodCall dot name turbofish opening, rest)
unfolding dot_step_at
method-call-complete depth dot name turbofish opening state middle rest first h is one =
    rw (name-has state name middle first) (rw (name-complete state name middle first) (method-complete depth dot name turbofish opening middle rest h is one))

cast-read : (depth : ℕ) (at : Span) (state middle : State) → Begins (keyword keyword_of.As at) state middle → step_at depth state ≡ cast_step_at depth state
unfolding step_at
cast-read depth at state middle h = ap (step_with depth state) (token-first (kind.Keyword keyword_of.As) at state middle refl h)

cast-complete : (depth : ℕ) (at : Span) (ty : TypeExpr) (state middle rest : State) → Begins (keyword keyword_of.As at) state middle → IsTypeAt depth middle ty rest → cast_step_at depth state ≡ Some (step.Cast at ty, rest)
unfolding cast_step_at
cast-complete depth at ty state middle rest h t = rw (keyword-complete keyword_of.As state at middle h) (rw (type-complete depth ty middle rest t.is t.ends t.stands) refl)

pub step-complete : (depth : ℕ) (state : State) (s : Step) (rest : State) → IsStepAt depth state s rest → step_at depth state ≡ Some (s, rest)
unfolding step_at
step-complete depth state (step.Field dot name) rest h = dot-read depth dot state h.0 h.1 ∙ field-complete depth dot name h.0 rest h.2 h.3 h.4
step-complete depth state (step.TupleField dot index) rest h = dot-read depth dot state h.0 h.1 ∙ tuple-field-complete depth dot index h.0 rest h.2 h.3
step-complete depth state (step.MethodCall dot name turbofish opening) rest h =
    dot-read depth dot state h.0.0 h.0.1 ∙ method-call-complete depth dot name turbofish opening h.0.0 h.0.2.0 rest h.0.2.1 h.0.2.2 h.1 h.2
step-complete depth state (step.Index opening) rest h = ap (step_with depth state) (lone-first punct_of.OpenBracket (record { span = opening; glued = false }) state rest refl h)
step-complete depth state (step.Cast at ty) rest h = cast-read depth at state h.0 h.1 ∙ cast-complete depth at ty state h.0 rest h.1 h.2
step-complete depth state (step.Binary operator at) rest h = ap (λ (s : State). step_with depth s (first_mark s)) h ∙ binary-complete depth operator at rest
step-complete depth state (step.Assign equals) rest h = rw h refl
step-complete depth state (step.AssignOp operator at) rest h = ap (λ (s : State). step_with depth s (first_mark s)) h ∙ assign-complete depth operator at rest
