use Rattle.std.proofs.Common.{◌≡◌, ◌+◌, ◌-◌}
use Rattle.tb_eval.specs.Sound.{IsSoundState}
use Rattle.tb_run.specs.Stepped.{SeenOut}
use Rattle.tb_run.proofs.Along.{Along}
use Rattle.tb_run.proofs.runs.run.Given as goal

-- the run has come as far as the steps that were taken
abbrev pub invariant-loop : goal.invariant-loop
invariant-loop g l =
    let before : SeenOut = record { bytes = g.O.Sink.bytes l.fn.out; faults = g.O.Sink.faults l.fn.out } in
    let after : SeenOut = record { bytes = g.O.Sink.bytes l.out; faults = g.O.Sink.faults l.out } in
    record {
      along : Along l.mir l.fn.machine.state l.machine.state l.bound (l.bound - l.counter) before after;
      steps : l.machine.steps ≡ l.fn.machine.steps + l.counter;
      sound : IsSoundState l.machine.state;
    }
