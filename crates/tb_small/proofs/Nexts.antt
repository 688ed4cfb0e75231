-- A statement behind others: the steps of the loop that reads them.
use Rattle.std.proofs.Common.{◌≡◌, ℕ, ◌+◌, ◌≤◌, List, [], ◌∷◌, ◌++◌, length, Some, refl, sym, ap, ◌∙◌, arith, length-append}
use Rattle.std.specs.List.{flat_map, sum_by}
use Rattle.std.proofs.lemmas.Bool.{le-leb, lt-leb}
use Rattle.std.proofs.lemmas.List.{append-nil}
use Rattle.std.proofs.lemmas.List.Sums.{sum_by_push, sum_by-cons}
use Rattle.std.proofs.lemmas.List.Concat.{flat_map-append}
use Rattle.tb_small.specs.declared.error.SmallError.{SmallError}
use Rattle.tb_small.specs.declared.error.SmallError.TheVariants as errors
use Rattle.tb_small.specs.Scope.{Binding}
use Rattle.tb_small.specs.declared.tree.Statement.{Statement}
use Rattle.tb_small.specs.declared.tree.Statement.TheVariants as statement
use Rattle.tb_small.specs.Grammar.{bindings, statement_locals, locals}
use Rattle.tb_small.specs.Reading.{Fails, statement_at, next_statement_at, within}
use Rattle.tb_small.proofs.Counts.{within-some, within-none}

pub scope-push : (items : List Statement) (next : Statement) → flat_map bindings (items ++ next ∷ []) ≡ flat_map bindings items ++ bindings next
scope-push items next = flat_map-append bindings items (next ∷ []) ∙ ap (λ l. flat_map bindings items ++ l) (append-nil (bindings next))

pub locals-push : (items : List Statement) (next : Statement) → locals (items ++ next ∷ []) ≡ locals items + statement_locals next
locals-push items next = let h = sum_by_push statement_locals items next in omega arith

bindings-few : (next : Statement) → length (bindings next) ≤ statement_locals next
bindings-few (statement.Let binding) = omega arith
bindings-few (statement.Assign assign) = omega arith
bindings-few (statement.Print print) = omega arith
bindings-few (statement.Unsafe block) = omega arith

-- each `let` is a local
pub lets-few : (items : List Statement) → length (flat_map bindings items) ≤ sum_by statement_locals items
lets-few [] = omega arith
lets-few (next ∷ items) =
    let here = sum_by-cons statement_locals next items in
    let count = length-append (bindings next) (flat_map bindings items) in
    let first = bindings-few next in
    let others = lets-few items in
    omega arith

module _ (size : ℕ) (items : List Statement) (text : List ℕ) (scope : List Binding) (count : ℕ) (same : scope ≡ flat_map bindings items) (counted : count ≡ locals items) where
  at_scope : statement_at (flat_map bindings items) size text ≡ statement_at scope size text
  at_scope = ap (λ s. statement_at s size text) (sym same)

  -- a statement is read, and there are not too many locals
  pub next-read : (next : Statement) (after : List ℕ) (total : ℕ) → statement_at scope size text ≡ Some (next, after) → within (count + statement_locals next) ≡ Some total
      → next_statement_at size items text ≡ Some (next, after)
  unfolding next_statement_at
  next-read next after total read few =
      let small = (within-some (count + statement_locals next) total few).1 in
      let push = locals-push items next in
      rw (at_scope ∙ read) (rw (le-leb (locals (items ++ next ∷ [])) 4096 (omega arith)) refl)

  -- no statement is read
  pub next-unread : (e : SmallError) → Fails e (statement_at scope size text) → Fails e (next_statement_at size items text)
  unfolding next_statement_at
  next-unread errors.Memory h = tt
  next-unread errors.NotBuilt h = rw (at_scope ∙ h) refl

  -- there are too many locals
  pub next-crowded : (e : SmallError) (next : Statement) (after : List ℕ) → statement_at scope size text ≡ Some (next, after) → Fails e (within (count + statement_locals next))
      → Fails e (next_statement_at size items text)
  unfolding next_statement_at
  next-crowded errors.Memory next after read h = tt
  next-crowded errors.NotBuilt next after read h =
      let large = within-none (count + statement_locals next) h in
      let push = locals-push items next in
      rw (at_scope ∙ read) (rw (lt-leb (locals (items ++ next ∷ [])) 4096 (omega arith)) refl)
