-- One part more.
use Rattle.std.proofs.Common.{◌≡◌, refl, subst, arith, ℕ, suc, ◌+◌, ◌∷◌, ◌++◌, []}
use Rattle.tb_aggregates.specs.Orders.{up_to}

to_next : (n : ℕ) → suc n ≡ n + 1
to_next n = omega arith

pub one_more : (n : ℕ) → up_to (n + 1) ≡ up_to n ++ n ∷ []
one_more n = subst (λ m. up_to m ≡ up_to n ++ n ∷ []) (to_next n) refl
