-- What a machine holds.
use Rattle.std.specs.Prelude.{ℕ}
use Rattle.tb_eval.specs.Step.{State}

-- its memory and its frame, and how many steps it has taken
pub record Held : Type 0 where
  pub state : State
  pub steps : ℕ
