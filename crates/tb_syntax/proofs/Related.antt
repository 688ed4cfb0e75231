-- What the public functions promise, from what they give.
use Rattle.std.proofs.Common.{◌≡◌, ℕ, Option, Some, Result, Ok, Err, sym, ◌∙◌}
use Rattle.std.specs.Prelude.{IfOk, IsErrOf}
use Rattle.tb_ast.specs.declared.written.TypeExpr.{TypeExpr}
use Rattle.tb_syntax.specs.declared.error.ReadError.{ReadError}
use Rattle.tb_syntax.specs.declared.error.ReadError.TheVariants as errors
use Rattle.tb_syntax.specs.Reading.{Gives}
use Rattle.tb_syntax.specs.State.{State}
use Rattle.tb_syntax.specs.Types.{type_at}
use Rattle.tb_syntax.specs.Written.{IsTypeAt}
use Rattle.tb_syntax.proofs.Options.{some_is}
use Rattle.tb_syntax.proofs.Typed.{type-sound, type-complete}

abbrev same : {X : Type 0} → X → X
same x = x

-- where what is read is related, and what is related is read
module _ {X : Type 0} (read : Option (X × State)) (Is : X → State → Type 0) (sound : (x : X) (rest : State) → read ≡ Some (x, rest) → Is x rest) (complete : (x : X) (rest : State) → Is x rest → read ≡ Some (x, rest)) where
  pub is_read : (r : Result (X × State) ReadError) → Gives same r read → IfOk r (λ y. Is y.0 y.1)
  is_read (Ok y) h = sound y.0 y.1 h
  is_read (Err e) h = tt

  pub is_only : (r : Result (X × State) ReadError) → Gives same r read → IfOk r (λ y. (x : X) (rest : State) → Is x rest → (x, rest) ≡ y)
  is_only (Ok y) h = λ x rest is. some_is (x, rest) y (sym (complete x rest is) ∙ h)
  is_only (Err e) h = tt

  pub is_refused : (r : Result (X × State) ReadError) → Gives same r read → IsErrOf r errors.Unexpected → (x : X) (rest : State) → Is x rest → ⊥
  is_refused (Ok y) h fault x rest is = absurd cc
  is_refused (Err errors.Unexpected) h fault x rest is = let e = sym (complete x rest is) ∙ h in absurd cc
  is_refused (Err errors.Memory) h fault x rest is = absurd cc

pub type-is-complete : (depth : ℕ) (state : State) (ty : TypeExpr) (rest : State) → IsTypeAt depth state ty rest → type_at depth state ≡ Some (ty, rest)
type-is-complete depth state ty rest h = type-complete depth ty state rest h.is h.ends h.stands

pub type-read : (depth : ℕ) (state : State) (r : Result (TypeExpr × State) ReadError) → Gives same r (type_at depth state) → IfOk r (λ y. IsTypeAt depth state y.0 y.1)
type-read depth state = is_read (type_at depth state) (IsTypeAt depth state) (type-sound depth state) (type-is-complete depth state)

pub type-only : (depth : ℕ) (state : State) (r : Result (TypeExpr × State) ReadError) → Gives same r (type_at depth state) → IfOk r (λ y. (x : TypeExpr) (rest : State) → IsTypeAt depth state x rest → (x, rest) ≡ y)
type-only depth state = is_only (type_at depth state) (IsTypeAt depth state) (type-sound depth state) (type-is-complete depth state)

pub type-refused : (depth : ℕ) (state : State) (r : Result (TypeExpr × State) ReadError) → Gives same r (type_at depth state) → IsErrOf r errors.Unexpected → (x : TypeExpr) (rest : State) → IsTypeAt depth state x rest → ⊥
type-refused depth state = is_refused (type_at depth state) (IsTypeAt depth state) (type-sound depth state) (type-is-complete depth state)
