-- Reading types takes one step of its depth.
use Rattle.std.proofs.Common.{◌≡◌, ◌≢◌, ℕ, suc, ◌-◌, None, refl, ap, ◌∙◌, arith}
use Rattle.tb_syntax.specs.Reading.{◌>>=◌}
use Rattle.tb_syntax.specs.State.{State}
use Rattle.tb_syntax.specs.Types.{type_front_at, type_behind, type_at}

type_suc : (depth : ℕ) (state : State) → type_at (suc depth) state ≡ (type_front_at state >>= λ x. type_behind (type_at depth) x.0 x.1)
unfolding type_at
type_suc depth state = refl

pub type_none : (depth : ℕ) (state : State) → depth ≡ 0 → type_at depth state ≡ None
unfolding type_at
type_none depth state e = rw e refl

pub type_some : (depth : ℕ) (state : State) → depth ≢ 0 → type_at depth state ≡ (type_front_at state >>= λ x. type_behind (type_at (depth - 1)) x.0 x.1)
type_some depth state e =
    let fuel : depth ≡ suc (depth - 1) = omega arith in
    ap (λ n. type_at n state) fuel ∙ type_suc (depth - 1) state

pub ruleset types = (type_none, type_some)
