-- Each front ends no further than some place, or goes on behind it.
use Rattle.std.proofs.Common.{◌⊎◌, ℕ, ◌≤◌, length, inl, inr, arith}
use Rattle.tb_syntax.specs.State.{State}
use Rattle.tb_parse.specs.Fronts.{IsLongest}

pub record Past (To : State → State → Type 0) (state middle : State) : Type 0 where
  pub back : (rest : State) → To middle rest → To state rest
  pub on : (rest : State) → To state rest → (length middle ≤ length rest) ⊎ To middle rest

pub past-here : (To : State → State → Type 0) (state : State) → Past To state state
past-here To state = record { back = λ rest f. f; on = λ rest f. inr f }

pub past-then : (To : State → State → Type 0) (state middle end : State) → length end ≤ length middle → Past To state middle → Past To middle end → Past To state end
past-then To state middle end less first second = record {
  back = λ rest f. first.back rest (second.back rest f);
  on = λ rest f. elim (first.on rest f) [
    | inl h ↦ inl (omega arith)
    | inr g ↦ second.on rest g
  ];
}

pub past-longest : (To : State → State → Type 0) (state middle : State) (left : ℕ) → left ≤ length middle → Past To state middle → IsLongest (To middle) left → IsLongest (To state) left
past-longest To state middle left less past longest rest f = elim (past.on rest f) [
  | inl h ↦ omega arith
  | inr g ↦ longest rest g
]
