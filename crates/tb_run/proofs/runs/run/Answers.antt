use Rattle.std.proofs.Common.{◌≡◌, ◌-◌, ◌+◌, suc, refl, sym, arith}
use Rattle.tb_eval.specs.Step.{step_of}
use Rattle.tb_run.specs.Stepped.{SeenOut}
use Rattle.tb_run.proofs.Ample.{ample_run, step_not_limit}
use Rattle.tb_run.proofs.Along.{along_at, along_more, along_end, along_limit, steps_more}
use Rattle.tb_run.proofs.runs.run.Goals as goal

pub returns-in-Ended-clause-run : goal.returns-in-Ended-clause-run
returns-in-Ended-clause-run g c =
    let before : SeenOut = record { bytes = g.O.Sink.bytes c.args.out.now; faults = g.O.Sink.faults c.args.out.now } in
    let mid : SeenOut = record { bytes = g.O.Sink.bytes c.loop.out; faults = g.O.Sink.faults c.loop.out } in
    let after : SeenOut = record { bytes = g.O.Sink.bytes c.step.new.out; faults = g.O.Sink.faults c.step.new.out } in
    let mir = c.args.mir.now in
    let first = c.args.machine.now.state in
    let left = c.args.bound - (c.loop.counter + 1) in
    let count : c.args.bound - c.loop.counter ≡ suc left = omega arith in
    let along = along_at mir first c.loop.machine.state c.args.bound (c.args.bound - c.loop.counter) (suc left) before mid count c.loop.invariant.along in
    along_end mir first c.args.bound left before mid after c.loop.machine c.step.new.self c.in-Ended.outcome (step_of mir c.loop.machine.state) refl c.in-Ended.ensures.answers along

pub loop-preserved : goal.loop-preserved
loop-preserved g c =
    let before : SeenOut = record { bytes = g.O.Sink.bytes c.args.out.now; faults = g.O.Sink.faults c.args.out.now } in
    let mid : SeenOut = record { bytes = g.O.Sink.bytes c.loop.out; faults = g.O.Sink.faults c.loop.out } in
    let after : SeenOut = record { bytes = g.O.Sink.bytes c.step.new.out; faults = g.O.Sink.faults c.step.new.out } in
    let mir = c.args.mir.now in
    let first = c.args.machine.now.state in
    let left = c.args.bound - (c.loop.counter + 1) in
    let count : c.args.bound - c.loop.counter ≡ suc left = omega arith in
    let along = along_at mir first c.loop.machine.state c.args.bound (c.args.bound - c.loop.counter) (suc left) before mid count c.loop.invariant.along in
    let more : c.step.new.self.steps ≡ c.loop.machine.steps + 1 = steps_more c.loop.machine c.step.new.self mid after (step_of mir c.loop.machine.state) c.in_default.ensures.answers in
    record {
      along = along_more mir first c.args.bound left before mid after c.loop.machine c.step.new.self (step_of mir c.loop.machine.state) refl c.in_default.ensures.answers along;
      steps = omega (arith, more, c.loop.invariant.steps);
      sound = c.in_default.ensures.sound refl;
    }

pub returns-clause-run : goal.returns-clause-run
returns-clause-run g c =
    let before : SeenOut = record { bytes = g.O.Sink.bytes c.args.out.now; faults = g.O.Sink.faults c.args.out.now } in
    let after : SeenOut = record { bytes = g.O.Sink.bytes c.loop.out; faults = g.O.Sink.faults c.loop.out } in
    let mir = c.args.mir.now in
    let first = c.args.machine.now.state in
    let none : c.args.bound - c.loop.counter ≡ 0 = omega arith in
    along_limit mir first c.loop.machine.state c.args.bound before after
    (along_at mir first c.loop.machine.state c.args.bound (c.args.bound - c.loop.counter) 0 before after none c.loop.invariant.along)

pub returns-in-Ended-clause-unlimited : goal.returns-in-Ended-clause-unlimited
returns-in-Ended-clause-unlimited g c =
    let mid : SeenOut = record { bytes = g.O.Sink.bytes c.loop.out; faults = g.O.Sink.faults c.loop.out } in
    let after : SeenOut = record { bytes = g.O.Sink.bytes c.step.new.out; faults = g.O.Sink.faults c.step.new.out } in
    λ first enough. step_not_limit c.loop.machine c.step.new.self mid after c.in-Ended.outcome (step_of c.args.mir.now c.loop.machine.state) c.in-Ended.ensures.answers

pub returns-clause-unlimited : goal.returns-clause-unlimited
returns-clause-unlimited g c =
    let before : SeenOut = record { bytes = g.O.Sink.bytes c.args.out.now; faults = g.O.Sink.faults c.args.out.now } in
    let after : SeenOut = record { bytes = g.O.Sink.bytes c.loop.out; faults = g.O.Sink.faults c.loop.out } in
    let none : c.args.bound - c.loop.counter ≡ 0 = omega arith in
    let whole = along_limit c.args.mir.now c.args.machine.now.state c.loop.machine.state c.args.bound before after
    (along_at c.args.mir.now c.args.machine.now.state c.loop.machine.state c.args.bound (c.args.bound - c.loop.counter) 0 before after none c.loop.invariant.along) in
    λ first enough e. ample_run c.args.mir.now c.args.machine.now.state c.args.bound first enough (sym whole.end)
