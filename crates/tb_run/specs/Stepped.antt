-- What the calls of a machine do, by the definitions of a step and of a run.
use Rattle.std.specs.Prelude.{◌≡◌, ◌<◌, ◌+◌, ℕ, List, Option}
use Rattle.tb_base.specs.Growth.{Grew, GrewByPrefix, Stays}
use Rattle.tb_eval.specs.Run.{Run}
use Rattle.tb_eval.specs.Step.{Goes, Over}
use Rattle.tb_eval.specs.Step.{Turn as Step}
use Rattle.tb_eval.specs.declared.outcome.Outcome.{Outcome}
use Rattle.tb_eval.specs.declared.outcome.Outcome.TheVariants.{Finished, Undefined, Panic, StepLimit, WriteFault, Memory}
use Rattle.tb_run.specs.Carried.{EndsAs}
use Rattle.tb_run.specs.Held.{Held}
use Rattle.tb_run.specs.declared.machine.Turn.{Turn}
use Rattle.tb_run.specs.declared.machine.Turn.TheVariants as turn

-- the output as contracts see it: the bytes that it tells, and its count of faults
pub record SeenOut : Type 0 where
  pub bytes : Option (List ℕ)
  pub faults : ℕ

-- these bytes went out, and no write failed
pub record PutsWhole (before after : SeenOut) (bytes : List ℕ) : Type 0 where
  pub told : Grew before.bytes after.bytes bytes
  pub calm : after.faults ≡ before.faults

-- a write failed after a prefix of them
pub record PutsFront (before after : SeenOut) (bytes : List ℕ) : Type 0 where
  pub told : GrewByPrefix before.bytes after.bytes bytes
  pub rose : before.faults < after.faults

-- nothing went out
pub record PutsNothing (before after : SeenOut) : Type 0 where
  pub told : Stays before.bytes after.bytes
  pub calm : after.faults ≡ before.faults

-- the machine has gone on, one step further
pub record GoesOn (old new : Held) (before after : SeenOut) (bytes : List ℕ) : Type 0 where
  pub steps : new.steps ≡ old.steps + 1
  pub put : PutsWhole before after bytes

-- What a call returns for a step: the step's own turn, or a failed write after a prefix of its bytes, or out of
-- memory.
abbrev pub Answers : Step → Held → Held → SeenOut → SeenOut → Turn → Type 0
Answers (Goes state bytes) old new before after turn.Goes = (new.state ≡ state) × GoesOn old new before after bytes
Answers (Goes state bytes) old new before after (turn.Ended WriteFault) = PutsFront before after bytes
Answers (Goes state bytes) old new before after (turn.Ended Memory) = PutsNothing before after
Answers (Goes state bytes) old new before after (turn.Ended Finished) = ⊥
Answers (Goes state bytes) old new before after (turn.Ended (Undefined stop span)) = ⊥
Answers (Goes state bytes) old new before after (turn.Ended (Panic panic span)) = ⊥
Answers (Goes state bytes) old new before after (turn.Ended StepLimit) = ⊥
Answers (Over outcome) old new before after turn.Goes = ⊥
Answers (Over outcome) old new before after (turn.Ended answered) = EndsAs outcome answered × PutsNothing before after

-- the run came to its own end, with all that it prints put out
pub record RunsWhole (run : Run) (before after : SeenOut) (outcome : Outcome) : Type 0 where
  pub end : outcome ≡ run.end
  pub put : PutsWhole before after run.printed

-- memory ran out after a prefix of it
pub record RunsOut (run : Run) (before after : SeenOut) : Type 0 where
  pub told : GrewByPrefix before.bytes after.bytes run.printed
  pub calm : after.faults ≡ before.faults

-- what a call returns for a run
abbrev pub RunsAs : Run → SeenOut → SeenOut → Outcome → Type 0
RunsAs run before after WriteFault = PutsFront before after run.printed
RunsAs run before after Memory = RunsOut run before after
RunsAs run before after Finished = RunsWhole run before after Finished
RunsAs run before after (Undefined stop span) = RunsWhole run before after (Undefined stop span)
RunsAs run before after (Panic panic span) = RunsWhole run before after (Panic panic span)
RunsAs run before after StepLimit = RunsWhole run before after StepLimit
