-- Lists of expressions and of fields that stand there are read.
use Rattle.std.proofs.Common.{◌≡◌, ℕ, zero, suc, ◌<◌, ◌≤◌, Bool, true, false, true≢false, List, [], ◌∷◌, map, length, Option, Some, refl, sym, ◌∙◌, arith}
use Rattle.std.specs.Prelude.{max}
use Rattle.tb_perm.specs.declared.span.Span.{Span}
use Rattle.tb_lex.specs.declared.punctuation.Punctuation.{Punctuation}
use Rattle.tb_lex.specs.declared.punctuation.Punctuation.TheVariants.{Comma, Colon, CloseBrace}
use Rattle.tb_lex.specs.declared.token.TokenKind.TheVariants as kind
use Rattle.tb_ast.specs.declared.leaf.Mark.{Mark}
use Rattle.tb_ast.specs.declared.leaf.Ident.{Ident}
use Rattle.tb_ast.specs.declared.expression.Expr.{Expr}
use Rattle.tb_ast.specs.declared.expression.FieldValue.{FieldValue, roll-FieldValue}
use Rattle.tb_ast.specs.declared.expression.Else.TheOpen.{FieldValue-F}
use Rattle.tb_ast.specs.Pieces.{punct, ident}
use Rattle.tb_ast.specs.Depth.{deepest, expr_depth, field_depth}
use Rattle.tb_syntax.specs.State.{State, Begins}
use Rattle.tb_syntax.specs.Marks.{has_mark}
use Rattle.tb_syntax.specs.Lists.{Listed, list_at, listed_at}
use Rattle.tb_syntax.proofs.Loops.{list-ends, list-last, list-more}
use Rattle.tb_syntax.proofs.Marks.{punct-complete, comma-shorter}
use Rattle.tb_syntax.proofs.Tokens.{name-complete, token-no-mark}
use Rattle.tb_syntax.proofs.Listed.{begins-has}
use Rattle.tb_forms.specs.declared.place.Where.{Where}
use Rattle.tb_forms.specs.declared.place.Where.TheVariants.{Anywhere}
use Rattle.tb_forms.specs.Levels.{loosest_level}
use Rattle.tb_forms.specs.Beginnings.{begins_expr}
use Rattle.tb_expr.specs.Exprs.{whole_at, field_at, expr_at}
use Rattle.tb_expr.specs.Grammar.{IsWholeAt, AWhole, IsFieldAt, NamedField, ShortField}
use Rattle.tb_expr.proofs.Begun.{expr-begins}
use Rattle.tb_expr.proofs.Shrinks.{whole-shrinks, field-shrinks}
use Rattle.tb_expr.proofs.CompleteDepths.{field-bound}
use Rattle.tb_expr.proofs.CompleteReads.{Whole, Closes, Exprs, OneField, Fields}

pub some-left : (wanted : Punctuation) (state : State) → has_mark wanted state ≡ true → 0 < length state
unfolding has_mark
some-left wanted [] e = absurd (true≢false (sym e))
some-left wanted (piece ∷ state) e = omega arith

pub whole-begins : (place : Where) (most : ℕ) (state : State) (e : Expr) (rest : State) → IsWholeAt place most state e rest → begins_expr state ≡ true
whole-begins place most state e rest (AWhole x h level stop) = expr-begins place state x rest h

-- Any list with commas, by its first value.

module _ {A : Type 0} (ends : State → Bool) (one : State → Option (A × State)) where
  abbrev listing : ℕ → State → Option (Listed A × State)
  listing fuel state = list_at ends one (has_mark Comma) Comma fuel state

  none-listed : (rest : State) → ends rest ≡ true → 0 < length rest → (fuel : ℕ) → length rest ≤ fuel → listing fuel rest ≡ Some (([], []), rest)
  none-listed rest e some zero few = absurd (omega arith)
  none-listed rest e some (suc fuel) few = list-ends ends one (has_mark Comma) Comma fuel rest e

  last-listed : (state : State) (x : A) (rest : State) → ends state ≡ false → one state ≡ Some (x, rest) → has_mark Comma rest ≡ false → length rest < length state
      → (fuel : ℕ) → length state ≤ fuel → listing fuel state ≡ Some ((x ∷ [], []), rest)
  last-listed state x rest e read stop less zero few = absurd (omega arith)
  last-listed state x rest e read stop less (suc fuel) few = list-last ends one (has_mark Comma) Comma fuel state x rest e read stop

  more-listed : (state : State) (x : A) (a : State) (comma : Span) (b : State) (xs : List A) (commas : List Span) (rest : State)
      → ends state ≡ false → one state ≡ Some (x, a) → length a < length state → Begins (punct Comma comma) a b
      → ((fuel : ℕ) → length b ≤ fuel → listing fuel b ≡ Some ((xs, commas), rest))
      → (fuel : ℕ) → length state ≤ fuel → listing fuel state ≡ Some ((x ∷ xs, comma ∷ commas), rest)
  more-listed state x a comma b xs commas rest e read less h others zero few = absurd (omega arith)
  more-listed state x a comma b xs commas rest e read less h others (suc fuel) few =
      let m : Mark = record { span = comma; glued = false } in
      let short = comma-shorter comma a b h in
      list-more ends one (has_mark Comma) Comma fuel state x a e read (begins-has Comma m a b h)
      ∙ rw (punct-complete Comma a comma b h, others fuel (omega arith)) refl

-- Expressions.

pub exprs-none : (close : Punctuation) (rest : State) → has_mark close rest ≡ true → Exprs close rest [] [] rest
exprs-none close rest e closes depth b = none-listed (has_mark close) (whole_at depth (expr_at depth)) rest e (some-left close rest e)

pub exprs-last : (close : Punctuation) (state : State) (e : Expr) (rest : State) → IsWholeAt Anywhere loosest_level state e rest → has_mark Comma rest ≡ false → Whole Anywhere loosest_level state e rest
    → Exprs close state (e ∷ []) [] rest
exprs-last close state e rest h stop one closes depth b =
    let more : max (expr_depth e) 0 ≤ depth = b in
    last-listed (has_mark close) (whole_at depth (expr_at depth)) state e rest (closes state (whole-begins Anywhere loosest_level state e rest h)) (one depth (omega arith)) stop (whole-shrinks Anywhere loosest_level state e rest h)

pub exprs-more : (close : Punctuation) (state : State) (e : Expr) (comma : Span) (others : List Expr) (commas : List Span) (a b rest : State)
    → IsWholeAt Anywhere loosest_level state e a → Begins (punct Comma comma) a b → Whole Anywhere loosest_level state e a → Exprs close b others commas rest → Exprs close state (e ∷ others) (comma ∷ commas) rest
exprs-more close state e comma others commas a b rest h between one more closes depth bound =
    let bounds : max (expr_depth e) (deepest (map expr_depth others)) ≤ depth = bound in
    more-listed (has_mark close) (whole_at depth (expr_at depth)) state e a comma b others commas rest (closes state (whole-begins Anywhere loosest_level state e a h)) (one depth (omega arith)) (whole-shrinks Anywhere loosest_level state e a h) between
    (more closes depth (omega arith))

pub exprs-listed : (close : Punctuation) (state : State) (es : List Expr) (commas : List Span) (rest : State) → Exprs close state es commas rest → Closes close
    → (depth : ℕ) → deepest (map expr_depth es) ≤ depth → listed_at (whole_at depth (expr_at depth)) close state ≡ Some ((es, commas), rest)
unfolding listed_at
exprs-listed close state es commas rest h closes depth b = h closes depth b (length state) (omega arith)

-- Fields.

pub field-named : (state : State) (name : Ident) (colon : Span) (value : Expr) (a b rest : State) → Begins (ident name) state a → Begins (punct Colon colon) a b → Whole Anywhere loosest_level b value rest
    → OneField state (roll-FieldValue (FieldValue-F.Named name colon value)) rest
unfolding field_at
field-named state name colon value a b rest first second one depth bound =
    let m : Mark = record { span = colon; glued = false } in
    let less : expr_depth value ≤ depth = field-bound (FieldValue-F.Named name colon value) depth bound in
    rw (name-complete state name a first) (rw (begins-has Colon m a b second) (rw (punct-complete Colon a colon b second) (rw (one depth less) refl)))

pub field-short : (state : State) (name : Ident) (rest : State) → Begins (ident name) state rest → has_mark Colon rest ≡ false → OneField state (roll-FieldValue (FieldValue-F.Short name)) rest
unfolding field_at
field-short state name rest first stop depth bound = rw (name-complete state name rest first) (rw stop refl)

field-begins : (state : State) (field : FieldValue) (rest : State) → IsFieldAt state field rest → has_mark CloseBrace state ≡ false
field-begins state field rest (NamedField name colon value a b first second h) = token-no-mark (kind.Name name.name) CloseBrace name.span state a refl first
field-begins state field rest (ShortField name first stop) = token-no-mark (kind.Name name.name) CloseBrace name.span state rest refl first

pub fields-none : (rest : State) → has_mark CloseBrace rest ≡ true → Fields rest [] [] rest
fields-none rest e depth b = none-listed (has_mark CloseBrace) (field_at depth (expr_at depth)) rest e (some-left CloseBrace rest e)

pub fields-last : (state : State) (field : FieldValue) (rest : State) → IsFieldAt state field rest → has_mark Comma rest ≡ false → OneField state field rest → Fields state (field ∷ []) [] rest
fields-last state field rest h stop one depth b =
    let more : max (field_depth field) 0 ≤ depth = b in
    last-listed (has_mark CloseBrace) (field_at depth (expr_at depth)) state field rest (field-begins state field rest h) (one depth (omega arith)) stop (field-shrinks state field rest h)

pub fields-more : (state : State) (field : FieldValue) (comma : Span) (others : List FieldValue) (commas : List Span) (a b rest : State)
    → IsFieldAt state field a → Begins (punct Comma comma) a b → OneField state field a → Fields b others commas rest → Fields state (field ∷ others) (comma ∷ commas) rest
fields-more state field comma others commas a b rest h between one more depth bound =
    let bounds : max (field_depth field) (deepest (map field_depth others)) ≤ depth = bound in
    more-listed (has_mark CloseBrace) (field_at depth (expr_at depth)) state field a comma b others commas rest (field-begins state field a h) (one depth (omega arith)) (field-shrinks state field a h) between
    (more depth (omega arith))

pub fields-listed : (state : State) (fields : List FieldValue) (commas : List Span) (rest : State) → Fields state fields commas rest
    → (depth : ℕ) → deepest (map field_depth fields) ≤ depth → listed_at (field_at depth (expr_at depth)) CloseBrace state ≡ Some ((fields, commas), rest)
unfolding listed_at
fields-listed state fields commas rest h depth b = h depth b (length state) (omega arith)
