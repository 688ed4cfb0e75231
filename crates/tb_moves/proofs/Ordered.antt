-- What is worked out is the first fault.
use Rattle.std.proofs.Common.{◌⊎◌, ℕ, zero, suc, List, [], ◌∷◌, length, Option, None, refl, sym, subst, inl, inr, arith}
use Rattle.std.proofs.lemmas.Bool.{cases_eq}
use Rattle.tb_types.specs.Table.{TypeTable}
use Rattle.tb_thir.specs.declared.program.Function.{Function}
use Rattle.tb_flow.specs.declared.mark.Question.TheVariants.{NoValue, AfterMove}
use Rattle.tb_flow.specs.Flows.{HasPart}
use Rattle.tb_flow.specs.Summaries.{summary_of}
use Rattle.tb_flow.proofs.Firsts.{first_yes, first_part}
use Rattle.tb_moves.specs.declared.error.MoveError.{MoveError}
use Rattle.tb_moves.specs.declared.error.MoveError.TheVariants.{NotInitialised, UsedAfterMove, MoveOutOfAPart}
use Rattle.tb_moves.specs.Trees.{body_of}
use Rattle.tb_moves.specs.Moves.{earliest, starts_yes, IsUse, IsFaultBelow, IsFault, IsFaultIn}
use Rattle.tb_moves.specs.Firsts.{part_fault, variable_fault, faults_below, function_fault, faults_from}
use Rattle.tb_moves.proofs.Least.{IsLeast, IsMade, least_earliest, least_same, least_made}

module _ (types : TypeTable) (function : Function) where
  abbrev IsPart : MoveError → Type 0
  IsPart = IsMade MoveOutOfAPart (HasPart (body_of types function))

  abbrev IsMissing : ℕ → MoveError → Type 0
  IsMissing v = IsMade NotInitialised (λ span. IsUse NoValue types function v span)

  abbrev IsMoved : ℕ → MoveError → Type 0
  IsMoved v = IsMade UsedAfterMove (λ span. IsUse AfterMove types function v span)

  least_part : IsLeast IsPart (part_fault types function)
  least_part = least_made MoveOutOfAPart (λ a b less. omega arith) (HasPart (body_of types function)) (summary_of NoValue 0 (body_of types function)).part (first_part NoValue 0 (body_of types function))

  least_variable : (v : ℕ) → IsLeast (λ e. IsMissing v e ⊎ IsMoved v e) (variable_fault types function v)
  least_variable v =
      least_earliest (IsMissing v) (IsMoved v) _ _
      (least_made NotInitialised (λ a b less. omega arith) (λ span. IsUse NoValue types function v span) _ (first_yes NoValue v (starts_yes NoValue function v) (body_of types function)))
      (least_made UsedAfterMove (λ a b less. omega arith) (λ span. IsUse AfterMove types function v span) _ (first_yes AfterMove v (starts_yes AfterMove function v) (body_of types function)))

  none_to : (e : MoveError) → IsPart e → IsFaultBelow 0 types function e
  none_to e h = subst (λ x. IsFaultBelow 0 types function x) (sym h.1) h.2

  none_from : (e : MoveError) → IsFaultBelow 0 types function e → IsPart e
  none_from (NotInitialised span) h = absurd (omega (arith, h.1))
  none_from (UsedAfterMove span) h = absurd (omega (arith, h.1))
  none_from (MoveOutOfAPart span) h = (span, refl, h)

  wider : (n : ℕ) (e : MoveError) → IsFaultBelow n types function e → IsFaultBelow (suc n) types function e
  wider n (NotInitialised span) h = (h.0, omega (arith, h.1), h.2)
  wider n (UsedAfterMove span) h = (h.0, omega (arith, h.1), h.2)
  wider n (MoveOutOfAPart span) h = h

  one_to : (n : ℕ) (e : MoveError) → IsFaultBelow n types function e ⊎ (IsMissing n e ⊎ IsMoved n e) → IsFaultBelow (suc n) types function e
  one_to n e (inl h) = wider n e h
  one_to n e (inr (inl h)) = subst (λ x. IsFaultBelow (suc n) types function x) (sym h.1) (n, omega arith, h.2)
  one_to n e (inr (inr h)) = subst (λ x. IsFaultBelow (suc n) types function x) (sym h.1) (n, omega arith, h.2)

  one_from : (n : ℕ) (e : MoveError) → IsFaultBelow (suc n) types function e → IsFaultBelow n types function e ⊎ (IsMissing n e ⊎ IsMoved n e)
  one_from n (NotInitialised span) h =
      elim (cases_eq h.0 n) [
        | inl same ↦ inr (inl (span, refl, subst (λ v. IsUse NoValue types function v span) same h.2))
        | inr other ↦ inl (h.0, omega (arith, h.1, other), h.2)
      ]
  one_from n (UsedAfterMove span) h =
      elim (cases_eq h.0 n) [
        | inl same ↦ inr (inr (span, refl, subst (λ v. IsUse AfterMove types function v span) same h.2))
        | inr other ↦ inl (h.0, omega (arith, h.1, other), h.2)
      ]
  one_from n (MoveOutOfAPart span) h = inl h

  least_below : (n : ℕ) → IsLeast (IsFaultBelow n types function) (faults_below types function n)
  least_below zero = least_same IsPart (IsFaultBelow 0 types function) none_to none_from (part_fault types function) least_part
  least_below (suc n) =
      least_same (λ e. IsFaultBelow n types function e ⊎ (IsMissing n e ⊎ IsMoved n e)) (IsFaultBelow (suc n) types function) (one_to n) (one_from n) (faults_below types function (suc n))
      (least_earliest (IsFaultBelow n types function) (λ e. IsMissing n e ⊎ IsMoved n e) (faults_below types function n) (variable_fault types function n) (least_below n) (least_variable n))

  least_function : IsLeast (IsFault types function) (function_fault types function)
  least_function = least_below (length function.variables)

least_from : (types : TypeTable) (P : MoveError → Type 0) (x : Option MoveError) (functions : List Function) → IsLeast P x → IsLeast (λ e. P e ⊎ IsFaultIn types functions e) (faults_from types x functions)
least_from types P x [] p = least_same P (λ e. P e ⊎ ⊥) (λ e h. inl h) (λ e h. elim h [ inl k ↦ k | inr k ↦ absurd k ]) x p
least_from types P x (function ∷ functions) p =
    least_same (λ e. (P e ⊎ IsFault types function e) ⊎ IsFaultIn types functions e) (λ e. P e ⊎ IsFaultIn types (function ∷ functions) e)
    (λ e h. elim h [ inl k ↦ elim k [ inl l ↦ inl l | inr l ↦ inr (inl l) ] | inr k ↦ inr (inr k) ])
    (λ e h. elim h [ inl k ↦ inl (inl k) | inr k ↦ elim k [ inl l ↦ inl (inr l) | inr l ↦ inr l ] ])
    (faults_from types x (function ∷ functions))
    (least_from types (λ e. P e ⊎ IsFault types function e) (earliest x (function_fault types function)) functions (least_earliest P (IsFault types function) x (function_fault types function) p (least_function types function)))

pub least_fault : (types : TypeTable) (functions : List Function) → IsLeast (IsFaultIn types functions) (faults_from types None functions)
least_fault types functions =
    least_same (λ e. ⊥ ⊎ IsFaultIn types functions e) (IsFaultIn types functions) (λ e h. elim h [ inl k ↦ absurd k | inr k ↦ k ]) (λ e h. inr h) (faults_from types None functions)
    (least_from types (λ e. ⊥) None functions (λ e h. h))
