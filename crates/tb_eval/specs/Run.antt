-- A whole run, one step after another.
use Rattle.std.specs.Prelude.{ℕ, zero, suc, ◌+◌, List, [], ◌++◌, length}
use Rattle.tb_mir.specs.Mir.{lines_of}
use Rattle.tb_mir.specs.declared.mir.Mir.{Mir}
use Rattle.tb_eval.specs.Step.{Turn, Goes, Over, State, step_of, first_state}
use Rattle.tb_eval.specs.declared.outcome.Outcome.{Outcome}
use Rattle.tb_eval.specs.declared.outcome.Outcome.TheVariants.{StepLimit}

-- what it printed, how it ended, and how many steps it took
pub record Run : Type 0 where
  pub printed : List ℕ
  pub end : Outcome
  pub steps : ℕ

-- a run that has taken one step more, which printed these bytes
abbrev pub preceded : List ℕ → Run → Run
preceded bytes run = record { printed = bytes ++ run.printed; end = run.end; steps = run.steps + 1 }

abbrev pub continued : Turn → (State → Run) → Run
continued (Goes state bytes) rest = preceded bytes (rest state)
continued (Over outcome) rest = record { printed = []; end = outcome; steps = 1 }

-- the run from a state, of at most this many steps
unfoldable pub run_of : Mir → State → ℕ → Run
run_of mir state zero = record { printed = []; end = StepLimit; steps = 0 }
run_of mir state (suc bound) = continued (step_of mir state) (λ next. run_of mir next bound)

-- More steps than the first function has lines. Nothing jumps back so far, so no run takes as many.
abbrev pub ample : Mir → ℕ
ample mir = suc (length (lines_of mir 0 0))

-- the whole run of a program
abbrev pub whole_run : Mir → Run
whole_run mir = run_of mir (first_state mir) (ample mir)
