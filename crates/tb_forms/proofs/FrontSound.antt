-- What is read before the first expression in an operand stands there.
use Rattle.std.proofs.Common.{◌≡◌, ℕ, Bool, true, false, ◌∷◌, Option, Some, None, refl, ap, subst, ◌∙◌, inl, inr}
use Rattle.tb_perm.specs.declared.span.Span.{Span}
use Rattle.tb_lex.specs.declared.keyword.Keyword.{Keyword}
use Rattle.tb_lex.specs.declared.keyword.Keyword.TheVariants as keyword_of
use Rattle.tb_lex.specs.declared.punctuation.Punctuation.{Punctuation}
use Rattle.tb_lex.specs.declared.punctuation.Punctuation.TheVariants as punct_of
use Rattle.tb_lex.specs.declared.token.TokenKind.{TokenKind}
use Rattle.tb_lex.specs.declared.token.TokenKind.TheVariants as kind
use Rattle.tb_lex.specs.declared.token.Token.{Token}
use Rattle.tb_ast.specs.declared.leaf.Mark.{Mark}
use Rattle.tb_ast.specs.declared.leaf.Literal.TheVariants as literals
use Rattle.tb_ast.specs.declared.operator.UnaryOp.TheVariants as unary
use Rattle.tb_ast.specs.Pieces.{piece, punct, mark, keyword}
use Rattle.tb_syntax.specs.State.{State, Begins}
use Rattle.tb_syntax.specs.Marks.{first_mark, has_mark}
use Rattle.tb_syntax.specs.Leaves.{token_at}
use Rattle.tb_syntax.proofs.Options.{bind_some, left, chosen, some_is}
use Rattle.tb_syntax.proofs.Tokens.{token-sound}
use Rattle.tb_forms.specs.declared.place.Where.{Where}
use Rattle.tb_forms.specs.declared.front.Front.{Front}
use Rattle.tb_forms.specs.declared.front.Front.TheVariants as front
use Rattle.tb_forms.specs.Beginnings.{is_banged, begins_macro}
use Rattle.tb_forms.specs.Fronts.{unless_glued, marked_front, keyword_front, worded_front, token_front, front_with, front_at, IsFrontAt}
use Rattle.tb_forms.proofs.Firsts.{first-stands}
use Rattle.tb_forms.proofs.Paths.{path-front-sound}
use Rattle.tb_forms.proofs.MacroFronts.{macro-sound}
use Rattle.tb_forms.proofs.Borrows.{borrow-sound}

-- a mark that is not glued stands there by its place alone
pub plain-stands : (p : Punctuation) (at : Mark) (state rest : State) → at.glued ≡ false → state ≡ mark p at ∷ rest → Begins (punct p at.span) state rest
plain-stands p at state rest plain e =
    let to : Bool → State = λ g. record { kind = kind.Punctuation p; span = at.span; glued = g } ∷ rest in
    inl (e ∙ ap to plain)

pub unless-sound : {A : Type 0} (at : Mark) (value : A) (rest : State) (y : A × State) → unless_glued at value rest ≡ Some y → (at.glued ≡ false) × ((value, rest) ≡ y)
unless-sound at value rest y e =
    let k = left at.glued (Some (value, rest)) y e in
    (k.0, some_is (value, rest) y k.1)

module _ (depth : ℕ) (place : Where) (state : State) where
  abbrev Taken : Front × State → Type 0
  Taken y = IsFrontAt depth place state y.0 y.1

  brace-has : (at : Mark) (rest : State) → state ≡ mark punct_of.OpenBrace at ∷ rest → has_mark punct_of.OpenBrace state ≡ true
  unfolding has_mark
  brace-has at rest h = rw h refl

  -- one mark is the whole of it
  one-mark : (p : Punctuation) (at : Mark) (f : Front) (rest : State) (y : Front × State) → (Begins (punct p at.span) state rest → Taken (f, rest))
      → state ≡ mark p at ∷ rest → unless_glued at f rest ≡ Some y → Taken y
  one-mark p at f rest y is h e =
      let u = unless-sound at f rest y e in
      subst Taken u.1 (is (plain-stands p at state rest u.0 h))

  marked-sound : (p : Punctuation) (at : Mark) (rest : State) (y : Front × State) → state ≡ mark p at ∷ rest → marked_front state p at rest ≡ Some y → Taken y
  marked-sound punct_of.OpenParen at rest y h e = one-mark punct_of.OpenParen at (front.Paren at.span) rest y (λ b. b) h e
  marked-sound punct_of.OpenBracket at rest y h e = one-mark punct_of.OpenBracket at (front.Bracket at.span) rest y (λ b. b) h e
  marked-sound punct_of.OpenBrace at rest y h e = subst Taken (some_is (front.Block, state) y e) (brace-has at rest h, refl)
  marked-sound punct_of.Minus at rest y h e = one-mark punct_of.Minus at (front.Unary unary.Neg at.span) rest y (λ b. b) h e
  marked-sound punct_of.Not at rest y h e = one-mark punct_of.Not at (front.Unary unary.Not at.span) rest y (λ b. b) h e
  marked-sound punct_of.Star at rest y h e = one-mark punct_of.Star at (front.Unary unary.Deref at.span) rest y (λ b. b) h e
  marked-sound punct_of.And at rest y h e = borrow-sound depth place state y e
  marked-sound punct_of.AndAnd at rest y h e = borrow-sound depth place state y e
  marked-sound other at rest y h e = absurd cc

  keyword-front-sound : (w : Keyword) (span : Span) (rest : State) (f : Front) → Begins (keyword w span) state rest → keyword_front w span ≡ Some f → Taken (f, rest)
  keyword-front-sound keyword_of.True span rest f h e = subst (λ g. Taken (g, rest)) (some_is (front.Literal (literals.Bool (record { value = true; span = span }))) f e) h
  keyword-front-sound keyword_of.False span rest f h e = subst (λ g. Taken (g, rest)) (some_is (front.Literal (literals.Bool (record { value = false; span = span }))) f e) h
  keyword-front-sound keyword_of.Unsafe span rest f h e = subst (λ g. Taken (g, rest)) (some_is (front.Unsafe span) f e) h
  keyword-front-sound keyword_of.While span rest f h e = subst (λ g. Taken (g, rest)) (some_is (front.While span) f e) h
  keyword-front-sound keyword_of.Loop span rest f h e = subst (λ g. Taken (g, rest)) (some_is (front.Loop span) f e) h
  keyword-front-sound keyword_of.If span rest f h e = subst (λ g. Taken (g, rest)) (some_is (front.If span) f e) h
  keyword-front-sound keyword_of.Return span rest f h e = subst (λ g. Taken (g, rest)) (some_is (front.Return span) f e) h
  keyword-front-sound keyword_of.Break span rest f h e = subst (λ g. Taken (g, rest)) (some_is (front.Break span) f e) h
  keyword-front-sound keyword_of.Continue span rest f h e = subst (λ g. Taken (g, rest)) (some_is (front.Continue span) f e) h
  keyword-front-sound other span rest f h e = absurd cc

  -- a macro comes next where `!` stands behind the name
  worded-sound : (k : TokenKind) (span : Span) (rest : State) (y : Front × State) → Begins (piece k span) state rest → begins_macro state ≡ is_banged (Some (record { kind = k; span = span }, rest))
      → worded_front depth place state k span rest ≡ Some y → Taken y
  worded-sound (kind.Integer integer) span rest y h macro e = subst Taken (some_is (front.Literal (literals.Int (record { integer = integer; span = span })), rest) y e) h
  worded-sound (kind.Character value) span rest y h macro e = subst Taken (some_is (front.Literal (literals.Char (record { value = value; span = span })), rest) y e) h
  worded-sound (kind.Byte value) span rest y h macro e = subst Taken (some_is (front.Literal (literals.Byte (record { value = value; span = span })), rest) y e) h
  worded-sound (kind.Keyword w) span rest y h macro e =
      let f = bind_some (keyword_front w span) _ y e in
      subst Taken (some_is (f.0, rest) y f.2) (keyword-front-sound w span rest f.0 h f.1)
  worded-sound (kind.Name name) span rest y h macro e =
      elim (chosen (has_mark punct_of.Not rest) _ _ y e) [
        | inl k ↦ macro-sound depth place state y k.1
        | inr k ↦ path-front-sound depth place state y (macro ∙ k.0) k.1
      ]
  worded-sound other span rest y h macro e = absurd cc

  macro-told : (r : Option (Token × State)) → token_at state ≡ r → begins_macro state ≡ is_banged r
  unfolding begins_macro
  macro-told r e = ap is_banged e

  token-front-sound : (r : Option (Token × State)) (y : Front × State) → token_at state ≡ r → token_front depth place state r ≡ Some y → Taken y
  token-front-sound None y t e = absurd cc
  token-front-sound (Some x) y t e = worded-sound x.0.kind x.0.span x.1 y (token-sound state x.0 x.1 t) (macro-told (Some x) t) e

  front-with-sound : (r : Option (Punctuation × Mark × State)) (y : Front × State) → first_mark state ≡ r → front_with depth place state r ≡ Some y → Taken y
  front-with-sound (Some x) y m e = marked-sound x.0 x.1 x.2 y (first-stands state x m) e
  front-with-sound None y m e = token-front-sound (token_at state) y refl e

pub front-sound : (depth : ℕ) (place : Where) (state : State) (f : Front) (rest : State) → front_at depth place state ≡ Some (f, rest) → IsFrontAt depth place state f rest
unfolding front_at
front-sound depth place state f rest e = front-with-sound depth place state (first_mark state) (f, rest) refl e
