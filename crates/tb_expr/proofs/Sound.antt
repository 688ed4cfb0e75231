-- What is read stands there: what is known of expressions one less deep, lists and fields.
use Rattle.std.proofs.Common.{◌≡◌, ℕ, zero, suc, ◌≤◌, true, false, List, [], ◌∷◌, length, Option, Some, None, refl, subst, inl, inr, arith}
use Rattle.tb_perm.specs.declared.span.Span.{Span}
use Rattle.tb_lex.specs.declared.keyword.Keyword.TheVariants as keyword_of
use Rattle.tb_lex.specs.declared.punctuation.Punctuation.{Punctuation}
use Rattle.tb_lex.specs.declared.punctuation.Punctuation.TheVariants.{CloseBrace, Comma, Colon}
use Rattle.tb_ast.specs.declared.expression.Expr.{Expr}
use Rattle.tb_ast.specs.declared.expression.FieldValue.{FieldValue, roll-FieldValue}
use Rattle.tb_ast.specs.declared.expression.Else.TheOpen.{FieldValue-F}
use Rattle.tb_syntax.specs.State.{State}
use Rattle.tb_syntax.specs.Marks.{punct_at, has_mark}
use Rattle.tb_syntax.specs.Leaves.{name_at, has_keyword}
use Rattle.tb_syntax.specs.Lists.{Listed, joined_lists, list_at, listed_at}
use Rattle.tb_syntax.proofs.Options.{bind_some, chosen, some_is}
use Rattle.tb_syntax.proofs.Marks.{punct-sound}
use Rattle.tb_syntax.proofs.Tokens.{name-sound}
use Rattle.tb_forms.specs.declared.place.Where.{Where}
use Rattle.tb_forms.specs.declared.place.Where.TheVariants.{Anywhere}
use Rattle.tb_forms.specs.Levels.{operand_alone, prefix_level, loosest_level}
use Rattle.tb_forms.specs.Beginnings.{begins_blocky}
use Rattle.tb_expr.specs.Exprs.{Reader, whole_at, field_at}
use Rattle.tb_expr.specs.Grammar.{IsWholeAt, IsBlockyAt, IsIfAt, AreExprsAt, NoExprs, LastExpr, MoreExprs, IsFieldAt, NamedField, ShortField, AreFieldsAt, NoFields, LastField, MoreFields}

-- what this reader takes is so written: whole from prefixes on, and up to level 0 what has a block of its own
pub record Sound (one : Reader) : Type 0 where
  pub whole : (place : Where) (most : ℕ) (state : State) (y : Expr × State) → prefix_level ≤ most → one place most state ≡ Some y → IsWholeAt place most state y.0 y.1
  pub blocky : (state : State) (y : Expr × State) → begins_blocky state ≡ true → one Anywhere operand_alone state ≡ Some y → IsBlockyAt state y.0 y.1
  pub ifs : (state : State) (y : Expr × State) → has_keyword keyword_of.If state ≡ true → one Anywhere operand_alone state ≡ Some y → IsIfAt state y.0 y.1

-- Lists.

-- one value before others that are read
joined_some : {A : Type 0} (x : A) (m : Span) (r : Option (Listed A × State)) (y : Listed A × State) → joined_lists (x ∷ []) (m ∷ []) r ≡ Some y
    → (z : Listed A × State) × (r ≡ Some z) × (((x ∷ z.0.0, m ∷ z.0.1), z.1) ≡ y)
joined_some x m None y e = absurd cc
joined_some x m (Some z) y e = (z, refl, some_is ((x ∷ z.0.0, m ∷ z.0.1), z.1) y e)

-- a relation of lists that holds of none, of one, and of one before others
module _ {A : Type 0} (one : State → Option (A × State)) (close : Punctuation) (Are : State → List A → List Span → State → Type 0)
    (none : (state : State) → has_mark close state ≡ true → Are state [] [] state)
    (last : (state : State) (x : A × State) → one state ≡ Some x → has_mark Comma x.1 ≡ false → Are state (x.0 ∷ []) [] x.1)
    (more : (state : State) (x : A × State) (comma : Span × State) (others : List A) (commas : List Span) (rest : State)
    → one state ≡ Some x → punct_at Comma x.1 ≡ Some comma → Are comma.1 others commas rest → Are state (x.0 ∷ others) (comma.0 ∷ commas) rest) where
  -- holds of a list that is read
  list-are : (fuel : ℕ) (state : State) (y : Listed A × State) → list_at (has_mark close) one (has_mark Comma) Comma fuel state ≡ Some y → Are state y.0.0 y.0.1 y.1
  unfolding list_at
  list-are zero state y e = absurd cc
  list-are (suc fuel) state y e =
      let are : Listed A × State → Type 0 = λ z. Are state z.0.0 z.0.1 z.1 in
      elim (chosen (has_mark close state) _ _ y e) [
        | inl k ↦ subst are (some_is (([], []), state) y k.1) (none state k.0)
        | inr k ↦
            let x = bind_some (one state) _ y k.1 in
            elim (chosen (has_mark Comma x.0.1) _ _ y x.2) [
              | inl g ↦
                  let m = bind_some (punct_at Comma x.0.1) _ y g.1 in
                  let z = joined_some x.0.0 m.0.0 (list_at (has_mark close) one (has_mark Comma) Comma fuel m.0.1) y m.2 in
                  subst are z.2 (more state x.0 m.0 z.0.0.0 z.0.0.1 z.0.1 x.1 m.1 (list-are fuel m.0.1 z.0 z.1))
              | inr g ↦ subst are (some_is ((x.0.0 ∷ [], []), x.0.1) y g.1) (last state x.0 x.1 g.0)
            ]
      ]

  pub listed-are : (state : State) (y : Listed A × State) → listed_at one close state ≡ Some y → Are state y.0.0 y.0.1 y.1
  unfolding listed_at
  listed-are state y e = list-are (length state) state y e

-- an expression of any level may be a prefix
pub prefix-loosest : prefix_level ≤ loosest_level
prefix-loosest = omega arith

module _ (depth : ℕ) (one : Reader) (h : Sound one) where
  -- a value in brackets, or behind a mark
  pub value-sound : (state : State) (y : Expr × State) → one Anywhere loosest_level state ≡ Some y → IsWholeAt Anywhere loosest_level state y.0 y.1
  value-sound state y e = h.whole Anywhere loosest_level state y prefix-loosest e

  -- expressions, a field, and fields
  pub exprs-take : (close : Punctuation) (state : State) (y : Listed Expr × State) → listed_at (whole_at depth one) close state ≡ Some y → AreExprsAt close state y.0.0 y.0.1 y.1
  exprs-take close state y e =
      listed-are (whole_at depth one) close (AreExprsAt close) (λ s c. NoExprs c) (λ s x r stop. LastExpr x.0 (value-sound s x r) stop)
      (λ s x m others commas rest r c are. MoreExprs x.0 m.0 others commas x.1 m.1 (value-sound s x r) (punct-sound Comma x.1 m.0 m.1 c) are) state y e

  field-sound : (state : State) (y : FieldValue × State) → field_at depth one state ≡ Some y → IsFieldAt state y.0 y.1
  unfolding field_at
  field-sound state y e =
      let is : FieldValue × State → Type 0 = λ z. IsFieldAt state z.0 z.1 in
      let name = bind_some (name_at state) _ y e in
      let begins = name-sound state name.0.0 name.0.1 name.1 in
      elim (chosen (has_mark Colon name.0.1) _ _ y name.2) [
        | inl k ↦
            let colon = bind_some (punct_at Colon name.0.1) _ y k.1 in
            let value = bind_some (one Anywhere loosest_level colon.0.1) _ y colon.2 in
            subst is (some_is (roll-FieldValue (FieldValue-F.Named name.0.0 colon.0.0 value.0.0), value.0.1) y value.2)
            (NamedField name.0.0 colon.0.0 value.0.0 name.0.1 colon.0.1 begins (punct-sound Colon name.0.1 colon.0.0 colon.0.1 colon.1) (value-sound colon.0.1 value.0 value.1))
        | inr k ↦ subst is (some_is (roll-FieldValue (FieldValue-F.Short name.0.0), name.0.1) y k.1) (ShortField name.0.0 begins k.0)
      ]

  pub fields-take : (state : State) (y : Listed FieldValue × State) → listed_at (field_at depth one) CloseBrace state ≡ Some y → AreFieldsAt state y.0.0 y.0.1 y.1
  fields-take state y e =
      listed-are (field_at depth one) CloseBrace AreFieldsAt (λ s c. NoFields c) (λ s x r stop. LastField x.0 (field-sound s x r) stop)
      (λ s x m others commas rest r c are. MoreFields x.0 m.0 others commas x.1 m.1 (field-sound s x r) (punct-sound Comma x.1 m.0 m.1 c) are) state y e
