-- The trees of allocations.
use Rattle.std.proofs.Common.{◌≡◌, sym, ℕ, ◌-◌, ◌<◌, ◌≤◌, List, length, Option, None, slice_set, slice_index_or}
use Rattle.tb_store.specs.Store.{nth, with_nth}
use Rattle.tb_store.proofs.Places.{with_is, nth_is}

pub taken_there : {A : Type 0} (xs : List (Option A)) (number : ℕ) (x : Option A) → 0 < number → number ≤ length xs → x ≡ slice_index_or xs (number - 1) x → x ≡ nth xs number None
taken_there xs number x low high e = sym (nth_is xs number x None low high e)

pub taken_rest : {A : Type 0} (xs : List (Option A)) (number : ℕ) (x : Option A) → 0 < number → slice_set xs (number - 1) x ≡ with_nth xs number x
taken_rest xs number x low = sym (with_is xs number x low)

pub put_there : {A : Type 0} (xs : List (Option A)) (number : ℕ) (x : Option A) → 0 < number → slice_set xs (number - 1) x ≡ with_nth xs number x
put_there xs number x low = sym (with_is xs number x low)
