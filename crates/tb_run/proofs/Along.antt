-- A run that has come some way: what it has printed, and what is left of it.
use Rattle.std.proofs.Common.{◌≡◌, ◌+◌, suc, ℕ, List, [], ◌++◌, refl, sym, ap, ◌∙◌, subst, arith, append_assoc, append-nil}
use Rattle.tb_base.specs.Growth.{Grew, GrewByPrefix}
use Rattle.tb_base.proofs.GrowthLaws.{Grew-start, Grew-then, Grew-then_stays, GrewByPrefix-after, GrewByPrefix-front, GrewByPrefix-whole}
use Rattle.tb_mir.specs.declared.mir.Mir.{Mir}
use Rattle.tb_eval.specs.Run.{run_of, continued, preceded}
use Rattle.tb_eval.specs.Step.{Turn as Step, Goes, Over, State, step_of}
use Rattle.tb_eval.specs.declared.outcome.Outcome.{Outcome}
use Rattle.tb_eval.specs.declared.outcome.Outcome.TheVariants.{Finished, Undefined, Panic, StepLimit, WriteFault, Memory}
use Rattle.tb_run.specs.Held.{Held}
use Rattle.tb_run.specs.Stepped.{SeenOut, PutsNothing, Answers, RunsWhole, RunsOut, RunsAs}
use Rattle.tb_run.specs.declared.machine.Turn.TheVariants as turn

-- the run of this bound has come to this frame, with these steps left and this put out
pub record Along (mir : Mir) (first now : State) (bound left : ℕ) (before after : SeenOut) : Type 0 where
  pub printed : List ℕ
  pub told : Grew before.bytes after.bytes printed
  pub rest : printed ++ (run_of mir now left).printed ≡ (run_of mir first bound).printed
  pub end : (run_of mir now left).end ≡ (run_of mir first bound).end
  pub calm : after.faults ≡ before.faults

pub along_start : (mir : Mir) (first : State) (bound : ℕ) (before : SeenOut) → Along mir first first bound bound before before
along_start mir first bound before = record { printed = []; told = Grew-start before.bytes; rest = refl; end = refl; calm = refl }

-- the same number of steps, written otherwise
pub along_at : (mir : Mir) (first now : State) (bound a b : ℕ) (before after : SeenOut) → a ≡ b → Along mir first now bound a before after → Along mir first now bound b before after
along_at mir first now bound a b before after e along = subst (λ n. Along mir first now bound n before after) e along

-- a step that went on is counted
pub steps_more : (old new : Held) (mid after : SeenOut) (t : Step) → Answers t old new mid after turn.Goes → new.steps ≡ old.steps + 1
steps_more old new mid after (Over outcome) answers = absurd answers
steps_more old new mid after (Goes state bytes) answers = answers.1.steps

-- one step less is left
pub run_of-suc : (mir : Mir) (now : State) (left : ℕ) → run_of mir now (suc left) ≡ continued (step_of mir now) (λ next. run_of mir next left)
unfolding run_of
run_of-suc mir now left = refl

run_of-zero : (mir : Mir) (now : State) → run_of mir now 0 ≡ record { printed = []; end = StepLimit; steps = 0 }
unfolding run_of
run_of-zero mir now = refl

run_of-goes : (mir : Mir) (now next : State) (bytes : List ℕ) (left : ℕ) → step_of mir now ≡ Goes next bytes → run_of mir now (suc left) ≡ preceded bytes (run_of mir next left)
run_of-goes mir now next bytes left e = run_of-suc mir now left ∙ ap (λ t. continued t (λ n. run_of mir n left)) e

run_of-over : (mir : Mir) (now : State) (outcome : Outcome) (left : ℕ) → step_of mir now ≡ Over outcome → run_of mir now (suc left) ≡ record { printed = []; end = outcome; steps = 1 }
run_of-over mir now outcome left e = run_of-suc mir now left ∙ ap (λ t. continued t (λ n. run_of mir n left)) e

-- a step that went on
pub along_more : (mir : Mir) (first : State) (bound left : ℕ) (before mid after : SeenOut) (old new : Held) (t : Step) → step_of mir old.state ≡ t → Answers t old new mid after turn.Goes → Along mir first old.state bound (suc left) before mid → Along mir first new.state bound left before after
along_more mir first bound left before mid after old new (Over outcome) is answers along = absurd answers
along_more mir first bound left before mid after old new (Goes state bytes) is answers along =
    let went : run_of mir old.state (suc left) ≡ preceded bytes (run_of mir new.state left) =
    run_of-goes mir old.state state bytes left is ∙ ap (λ f. preceded bytes (run_of mir f left)) (sym answers.0) in
    record {
      printed = along.printed ++ bytes;
      told = Grew-then before.bytes mid.bytes after.bytes along.printed bytes along.told answers.1.put.told;
      rest = append_assoc along.printed bytes (run_of mir new.state left).printed ∙ ap (λ r. along.printed ++ r.printed) (sym went) ∙ along.rest;
      end = ap (λ r. r.end) (sym went) ∙ along.end;
      calm = answers.1.put.calm ∙ along.calm;
    }

-- what went out before a step, and a front of what the step prints
front : (mir : Mir) (first : State) (bound left : ℕ) (before mid after : SeenOut) (now next : State) (bytes : List ℕ) → step_of mir now ≡ Goes next bytes → Along mir first now bound (suc left) before mid → GrewByPrefix mid.bytes after.bytes bytes → GrewByPrefix before.bytes after.bytes (run_of mir first bound).printed
front mir first bound left before mid after now next bytes is along put =
    let rest = (run_of mir next left).printed in
    let all : along.printed ++ (bytes ++ rest) ≡ (run_of mir first bound).printed = ap (λ r. along.printed ++ r.printed) (sym (run_of-goes mir now next bytes left is)) ∙ along.rest in
    subst (λ z. GrewByPrefix before.bytes after.bytes z) all
    (GrewByPrefix-after before.bytes mid.bytes after.bytes along.printed (bytes ++ rest) along.told (GrewByPrefix-front mid.bytes after.bytes bytes rest put))

-- a run that its last step has ended
ended : (mir : Mir) (first : State) (bound left : ℕ) (before mid after : SeenOut) (now : State) (outcome : Outcome) → step_of mir now ≡ Over outcome → Along mir first now bound (suc left) before mid → PutsNothing mid after → RunsWhole (run_of mir first bound) before after outcome
ended mir first bound left before mid after now outcome is along put =
    let over = run_of-over mir now outcome left is in
    let all : along.printed ≡ (run_of mir first bound).printed = sym (append-nil along.printed) ∙ ap (λ r. along.printed ++ r.printed) (sym over) ∙ along.rest in
    record {
      end = ap (λ r. r.end) (sym over) ∙ along.end;
      put = record {
        told = subst (λ z. Grew before.bytes after.bytes z) all (Grew-then_stays before.bytes mid.bytes after.bytes along.printed along.told put.told);
        calm = put.calm ∙ along.calm;
      };
    }

-- memory ran out within a step
ran_out : (mir : Mir) (first now : State) (bound left : ℕ) (before mid after : SeenOut) → Along mir first now bound left before mid → PutsNothing mid after → RunsOut (run_of mir first bound) before after
ran_out mir first now bound left before mid after along put =
    let whole = GrewByPrefix-whole before.bytes after.bytes along.printed (Grew-then_stays before.bytes mid.bytes after.bytes along.printed along.told put.told) in
    record {
      told = subst (λ z. GrewByPrefix before.bytes after.bytes z) along.rest (GrewByPrefix-front before.bytes after.bytes along.printed (run_of mir now left).printed whole);
      calm = put.calm ∙ along.calm;
    }

-- the step's end is the run's
pub along_end : (mir : Mir) (first : State) (bound left : ℕ) (before mid after : SeenOut) (old new : Held) (outcome : Outcome) (t : Step) → step_of mir old.state ≡ t → Answers t old new mid after (turn.Ended outcome) → Along mir first old.state bound (suc left) before mid → RunsAs (run_of mir first bound) before after outcome
along_end mir first bound left before mid after old new WriteFault (Goes state bytes) is answers along =
    record { told = front mir first bound left before mid after old.state state bytes is along answers.told; rose = let r = answers.rose in let c = along.calm in omega arith }
along_end mir first bound left before mid after old new Memory (Goes state bytes) is answers along = ran_out mir first old.state bound (suc left) before mid after along answers
along_end mir first bound left before mid after old new Finished (Goes state bytes) is answers along = absurd answers
along_end mir first bound left before mid after old new (Undefined stop span) (Goes state bytes) is answers along = absurd answers
along_end mir first bound left before mid after old new (Panic panic span) (Goes state bytes) is answers along = absurd answers
along_end mir first bound left before mid after old new StepLimit (Goes state bytes) is answers along = absurd answers
along_end mir first bound left before mid after old new Memory (Over outcome) is answers along = ran_out mir first old.state bound (suc left) before mid after along answers.1
along_end mir first bound left before mid after old new Finished (Over outcome) is answers along = ended mir first bound left before mid after old.state Finished (is ∙ ap Over (sym answers.0)) along answers.1
along_end mir first bound left before mid after old new (Undefined stop span) (Over outcome) is answers along = ended mir first bound left before mid after old.state (Undefined stop span) (is ∙ ap Over (sym answers.0)) along answers.1
along_end mir first bound left before mid after old new (Panic panic span) (Over outcome) is answers along = ended mir first bound left before mid after old.state (Panic panic span) (is ∙ ap Over (sym answers.0)) along answers.1
along_end mir first bound left before mid after old new StepLimit (Over outcome) is answers along = absurd answers.0
along_end mir first bound left before mid after old new WriteFault (Over outcome) is answers along = absurd answers.0

-- no step is left
pub along_limit : (mir : Mir) (first now : State) (bound : ℕ) (before after : SeenOut) → Along mir first now bound 0 before after → RunsWhole (run_of mir first bound) before after StepLimit
along_limit mir first now bound before after along =
    let zero_left = run_of-zero mir now in
    record {
      end = ap (λ r. r.end) (sym zero_left) ∙ along.end;
      put = record {
        told = subst (λ z. Grew before.bytes after.bytes z) (sym (append-nil along.printed) ∙ ap (λ r. along.printed ++ r.printed) (sym zero_left) ∙ along.rest) along.told;
        calm = along.calm;
      };
    }
