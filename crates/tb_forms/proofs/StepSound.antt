-- What is read behind an operand stands there.
use Rattle.std.proofs.Common.{◌≡◌, ℕ, Bool, true, false, eqb, ◌&&◌, ◌||◌, [], ◌∷◌, length, Option, Some, None, refl, sym, ap, subst, ◌∙◌, inl, inr}
use Rattle.std.proofs.lemmas.Bool.{eqb-true}
use Rattle.tb_perm.specs.declared.span.Span.{Span}
use Rattle.tb_lex.specs.declared.keyword.Keyword.TheVariants as keyword_of
use Rattle.tb_lex.specs.declared.suffix.Suffix.{Suffix}
use Rattle.tb_lex.specs.declared.punctuation.Punctuation.{Punctuation}
use Rattle.tb_lex.specs.declared.punctuation.Punctuation.TheVariants as punct_of
use Rattle.tb_lex.specs.declared.token.TokenKind.TheVariants as kind
use Rattle.tb_ast.specs.declared.leaf.Mark.{Mark}
use Rattle.tb_ast.specs.declared.leaf.Ident.{Ident}
use Rattle.tb_ast.specs.declared.leaf.IntLiteral.{IntLiteral}
use Rattle.tb_ast.specs.declared.operator.BinaryOp.{BinaryOp}
use Rattle.tb_ast.specs.declared.operator.AssignOp.{AssignOp}
use Rattle.tb_ast.specs.declared.written.Turbofish.{Turbofish}
use Rattle.tb_ast.specs.Pieces.{punct, mark, ident, number}
use Rattle.tb_ast.specs.Types.{turbofish_pieces}
use Rattle.tb_ast.specs.Expressions.{binary_mark, assign_mark}
use Rattle.tb_syntax.specs.State.{State, Begins}
use Rattle.tb_syntax.specs.Marks.{first_mark, punct_at, has_mark}
use Rattle.tb_syntax.specs.Leaves.{keyword_at, name_at, has_name, number_at}
use Rattle.tb_syntax.specs.Notes.{turbofish_at}
use Rattle.tb_syntax.specs.Types.{length_of, length_at, type_at}
use Rattle.tb_syntax.proofs.Options.{bind_some, kept, left, chosen, some_is}
use Rattle.tb_syntax.proofs.Chains.{stands-then, one-stands}
use Rattle.tb_syntax.proofs.Marks.{punct-sound}
use Rattle.tb_syntax.proofs.Tokens.{keyword-sound, name-sound, number-sound}
use Rattle.tb_syntax.proofs.Typed.{type-sound}
use Rattle.tb_syntax.proofs.Noted.{turbofish-sound}
use Rattle.tb_forms.specs.declared.step.Step.{Step}
use Rattle.tb_forms.specs.declared.step.Step.TheVariants as step
use Rattle.tb_forms.specs.Levels.{binary_of, assign_of}
use Rattle.tb_forms.specs.Steps.{has_one_type, method_at, is_called, dot_step_at, operator_step, marked_step, cast_step_at, step_with, step_at, IsOneType, IsStepAt}
use Rattle.tb_forms.proofs.Firsts.{first-stands}
use Rattle.tb_forms.proofs.FrontSound.{plain-stands, unless-sound}

-- Operators by their marks.

abbrev binary_back : Option BinaryOp → Punctuation → Punctuation
binary_back None p = p
binary_back (Some operator) p = binary_mark operator

binary-same : (p : Punctuation) → binary_back (binary_of p) p ≡ p
binary-same punct_of.Star = refl
binary-same other = refl

binary-is : (p : Punctuation) (operator : BinaryOp) → binary_of p ≡ Some operator → p ≡ binary_mark operator
binary-is p operator e = sym (binary-same p) ∙ ap (λ o. binary_back o p) e

abbrev assign_back : Option AssignOp → Punctuation → Punctuation
assign_back None p = p
assign_back (Some operator) p = assign_mark operator

assign-same : (p : Punctuation) → assign_back (assign_of p) p ≡ p
assign-same punct_of.StarEq = refl
assign-same other = refl

assign-is : (p : Punctuation) (operator : AssignOp) → assign_of p ≡ Some operator → p ≡ assign_mark operator
assign-is p operator e = sym (assign-same p) ∙ ap (λ o. assign_back o p) e

-- Parts of steps.

both : (x y : Bool) → (x && y) ≡ true → (x ≡ true) × (y ≡ true)
both true y e = (refl, e)
both false y e = absurd cc

neither : (x y : Bool) → (x || y) ≡ false → (x ≡ false) × (y ≡ false)
neither true y e = absurd cc
neither false y e = (refl, e)

one-type : (turbofish : Option Turbofish) → has_one_type turbofish ≡ true → IsOneType turbofish
one-type None e = tt
one-type (Some turbofish) e =
    let b = both (eqb (length turbofish.types) 1) (eqb (length turbofish.commas) 0) e in
    (eqb-true (length turbofish.types) 1 b.0, eqb-true (length turbofish.commas) 0 b.1)

plain-length : (o : Option Suffix) (int : IntLiteral) (state : State) (y : IntLiteral × State) → int.integer.suffix ≡ o → length_of o int state ≡ Some y → (int.integer.suffix ≡ None) × ((int, state) ≡ y)
plain-length None int state y plain e = (plain, some_is (int, state) y e)
plain-length (Some suffix) int state y plain e = absurd cc

-- the place of a tuple's part has no suffix
index-sound : (state : State) (int : IntLiteral) (rest : State) → length_at state ≡ Some (int, rest) → Begins (number int) state rest × (int.integer.suffix ≡ None)
unfolding length_at
index-sound state int rest e =
    let x = bind_some (number_at state) _ (int, rest) e in
    let p = plain-length x.0.0.integer.suffix x.0.0 x.0.1 (int, rest) refl x.2 in
    let is : IntLiteral × State → Type 0 = λ y. Begins (number y.0) state y.1 × (y.0.integer.suffix ≡ None) in
    subst is p.1 (number-sound state x.0.0 x.0.1 x.1, p.0)

module _ (depth : ℕ) (state : State) where
  abbrev Taken : Step × State → Type 0
  Taken y = IsStepAt depth state y.0 y.1

  -- Behind a dot.

  method-sound : (dot : Span) (name : Ident) (middle after : State) (y : Step × State) → Begins (punct punct_of.Dot dot) state middle → Begins (ident name) middle after → method_at depth dot name after ≡ Some y → Taken y
  method-sound dot name middle after y first second e =
      let t = bind_some (turbofish_at depth after) _ y e in
      let one = kept (has_one_type t.0.0) _ y t.2 in
      let opening = bind_some (punct_at punct_of.OpenParen t.0.1) _ y one.1 in
      let types = turbofish-sound depth after t.0 t.1 in
      let last = one-stands (punct punct_of.OpenParen opening.0.0) t.0.1 opening.0.1 (punct-sound punct_of.OpenParen t.0.1 opening.0.0 opening.0.1 opening.1) in
      subst Taken (some_is (step.MethodCall dot name t.0.0 opening.0.0, opening.0.1) y opening.2)
      ((middle, first, (after, second, stands-then (turbofish_pieces t.0.0) (punct punct_of.OpenParen opening.0.0 ∷ []) after t.0.1 opening.0.1 types.0 last)), types.1, one-type t.0.0 one.0)

  dot-sound : (dot : Span) (middle : State) (y : Step × State) → Begins (punct punct_of.Dot dot) state middle → dot_step_at depth dot middle ≡ Some y → Taken y
  unfolding dot_step_at
  dot-sound dot middle y first e =
      elim (chosen (has_name middle) _ _ y e) [
        | inl k ↦
            let name = bind_some (name_at middle) _ y k.1 in
            let second = name-sound middle name.0.0 name.0.1 name.1 in
            elim (chosen (is_called name.0.1) _ _ y name.2) [
              | inl c ↦ method-sound dot name.0.0 middle name.0.1 y first second c.1
              | inr c ↦
                  let n = neither (has_mark punct_of.OpenParen name.0.1) (has_mark punct_of.PathSep name.0.1) c.0 in
                  subst Taken (some_is (step.Field dot name.0.0, name.0.1) y c.1) (middle, first, second, n.0, n.1)
            ]
        | inr k ↦
            let index = bind_some (length_at middle) _ y k.1 in
            let i = index-sound middle index.0.0 index.0.1 index.1 in
            subst Taken (some_is (step.TupleField dot index.0.0, index.0.1) y index.2) (middle, first, i.0, i.1)
      ]

  -- Operators, and all of them by the mark that comes next.

  operator-sound : (p : Punctuation) (o : Option BinaryOp) (a : Option AssignOp) (at : Mark) (rest : State) (y : Step × State) → ((x : BinaryOp) → o ≡ Some x → p ≡ binary_mark x) → ((x : AssignOp) → a ≡ Some x → p ≡ assign_mark x)
      → state ≡ mark p at ∷ rest → operator_step o a at rest ≡ Some y → Taken y
  operator-sound p (Some operator) a at rest y is as_is h e =
      let to : Punctuation → State = λ q. mark q at ∷ rest in
      subst Taken (some_is (step.Binary operator at, rest) y e) (h ∙ ap to (is operator refl))
  operator-sound p None (Some operator) at rest y is as_is h e =
      let u = unless-sound at (step.AssignOp operator at.span) rest y e in
      let to : Punctuation → State = λ q. mark q at ∷ rest in
      let plain : Bool → State = λ g. record { kind = kind.Punctuation (assign_mark operator); span = at.span; glued = g } ∷ rest in
      subst Taken u.1 (h ∙ ap to (as_is operator refl) ∙ ap plain u.0)
  operator-sound p None None at rest y is as_is h e = absurd cc

  marked-sound : (p : Punctuation) (at : Mark) (rest : State) (y : Step × State) → state ≡ mark p at ∷ rest → marked_step depth p at rest ≡ Some y → Taken y
  marked-sound punct_of.Dot at rest y h e =
      let k = left at.glued (dot_step_at depth at.span rest) y e in
      dot-sound at.span rest y (plain-stands punct_of.Dot at state rest k.0 h) k.1
  marked-sound punct_of.OpenBracket at rest y h e =
      let u = unless-sound at (step.Index at.span) rest y e in
      subst Taken u.1 (plain-stands punct_of.OpenBracket at state rest u.0 h)
  marked-sound punct_of.Eq at rest y h e = subst Taken (some_is (step.Assign at, rest) y e) h
  marked-sound other at rest y h e = operator-sound other (binary_of other) (assign_of other) at rest y (binary-is other) (assign-is other) h e

  cast-sound : (y : Step × State) → cast_step_at depth state ≡ Some y → Taken y
  unfolding cast_step_at
  cast-sound y e =
      let at = bind_some (keyword_at keyword_of.As state) _ y e in
      let ty = bind_some (type_at depth at.0.1) _ y at.2 in
      subst Taken (some_is (step.Cast at.0.0 ty.0.0, ty.0.1) y ty.2) (at.0.1, keyword-sound keyword_of.As state at.0.0 at.0.1 at.1, type-sound depth at.0.1 ty.0.0 ty.0.1 ty.1)

  step-with-sound : (r : Option (Punctuation × Mark × State)) (y : Step × State) → first_mark state ≡ r → step_with depth state r ≡ Some y → Taken y
  step-with-sound (Some x) y m e = marked-sound x.0 x.1 x.2 y (first-stands state x m) e
  step-with-sound None y m e = cast-sound y e

pub step-sound : (depth : ℕ) (state : State) (s : Step) (rest : State) → step_at depth state ≡ Some (s, rest) → IsStepAt depth state s rest
unfolding step_at
step-sound depth state s rest e = step-with-sound depth state (first_mark state) (s, rest) refl e
