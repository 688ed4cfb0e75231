-- What stands under a number once an allocation is added or dies.
use Rattle.std.specs.Prelude.{◌≡◌, ◌≢◌, ℕ, zero, suc, ◌+◌, List, [], ◌∷◌, ◌++◌, length, Option, Some, None, slice_get, slice_set}
use Rattle.std.proofs.Common.{refl, sym, ◌∙◌, ap, add-one}
use Rattle.std.proofs.lemmas.List.{length-set}
use Rattle.std.specs.Option.{option_map}
use Rattle.tb_alloc.specs.declared.allocation.Allocation.{Allocation}
use Rattle.tb_alloc.specs.Allocations.{allocation_at, dead, dead_at, killed}

pub slice_get-push_new : (xs : List Allocation) (a : Allocation) → slice_get (xs ++ a ∷ []) (length xs) ≡ Some a
slice_get-push_new [] a = refl
slice_get-push_new (x ∷ xs) a = slice_get-push_new xs a

pub slice_get-push_other : (xs : List Allocation) (a : Allocation) (place : ℕ) → place ≢ length xs → slice_get (xs ++ a ∷ []) place ≡ slice_get xs place
slice_get-push_other [] a zero other = absurd (other refl)
slice_get-push_other [] a (suc place) other = refl
slice_get-push_other (x ∷ xs) a zero other = refl
slice_get-push_other (x ∷ xs) a (suc place) other = slice_get-push_other xs a place (λ e. other (ap suc e))

pub slice_get-set_other : (xs : List Allocation) (a : Allocation) (at place : ℕ) → place ≢ at → slice_get (slice_set xs at a) place ≡ slice_get xs place
slice_get-set_other [] a at place other = refl
slice_get-set_other (x ∷ xs) a zero zero other = absurd (other refl)
slice_get-set_other (x ∷ xs) a zero (suc place) other = refl
slice_get-set_other (x ∷ xs) a (suc at) zero other = refl
slice_get-set_other (x ∷ xs) a (suc at) (suc place) other = slice_get-set_other xs a at place (λ e. other (ap suc e))

-- the new allocation has the next number
pub allocation_at-push_new : (xs : List Allocation) (a : Allocation) → allocation_at (xs ++ a ∷ []) (length xs + 1) ≡ Some a
allocation_at-push_new xs a = ap (allocation_at (xs ++ a ∷ [])) (add-one (length xs)) ∙ slice_get-push_new xs a

-- the other numbers stay
pub allocation_at-push_other : (xs : List Allocation) (a : Allocation) (number : ℕ) → number ≢ length xs + 1 → allocation_at (xs ++ a ∷ []) number ≡ allocation_at xs number
allocation_at-push_other xs a zero other = refl
allocation_at-push_other xs a (suc place) other = slice_get-push_other xs a place (λ e. other (ap suc e ∙ sym (add-one (length xs))))

-- as a push says it
pub found_pushed : (xs ys : List Allocation) (a : Allocation) (number : ℕ) → ys ≡ xs ++ a ∷ [] → number ≡ length xs + 1 → allocation_at ys number ≡ Some a
found_pushed xs ys a number is numbered = rw (is, numbered) (allocation_at-push_new xs a)

pub others_pushed : (xs ys : List Allocation) (a : Allocation) (id : ℕ) → ys ≡ xs ++ a ∷ [] → id ≡ length xs + 1 → (number : ℕ) → number ≢ id → allocation_at ys number ≡ allocation_at xs number
others_pushed xs ys a id is numbered number other = rw is (allocation_at-push_other xs a number (λ e. other (e ∙ sym numbered)))

-- only the number that dies changes
pub allocation_at-killed_other : (xs : List Allocation) (id number : ℕ) → number ≢ id → allocation_at (killed xs id) number ≡ allocation_at xs number
allocation_at-killed_other xs zero number other = refl
allocation_at-killed_other xs (suc at) zero other = refl
allocation_at-killed_other xs (suc at) (suc place) other = by_case (slice_get xs at)
  where
    by_case : (o : Option Allocation) → slice_get (dead_at xs at o) place ≡ slice_get xs place
    by_case None = refl
    by_case (Some a) = slice_get-set_other xs (dead a) at place (λ e. other (ap suc e))

-- the number that dies is dead, if it was given
slice_get-set_dead : (xs : List Allocation) (place : ℕ) (a : Allocation) → slice_get xs place ≡ Some a → slice_get (slice_set xs place (dead a)) place ≡ Some (dead a)
slice_get-set_dead [] place a is = cc
slice_get-set_dead (x ∷ xs) zero a is = refl
slice_get-set_dead (x ∷ xs) (suc place) a is = slice_get-set_dead xs place a is

pub allocation_at-killed : (xs : List Allocation) (id : ℕ) → allocation_at (killed xs id) id ≡ option_map dead (allocation_at xs id)
allocation_at-killed xs zero = refl
allocation_at-killed xs (suc place) = by_case (slice_get xs place) refl
  where
    by_case : (o : Option Allocation) → slice_get xs place ≡ o → slice_get (dead_at xs place o) place ≡ option_map dead o
    by_case None is = is
    by_case (Some a) is = slice_get-set_dead xs place a is

-- and none is lost
pub length-killed : (xs : List Allocation) (id : ℕ) → length (killed xs id) ≡ length xs
length-killed xs zero = refl
length-killed xs (suc place) = by_case (slice_get xs place)
  where
    by_case : (o : Option Allocation) → length (dead_at xs place o) ≡ length xs
    by_case None = refl
    by_case (Some a) = length-set xs place (dead a)
