use Rattle.std.proofs.Common.{◌≡◌, ◌+◌, length, ap, ◌∙◌, subst, arith}
use Rattle.tb_eval.specs.Run.{run_of, whole_run, ample}
use Rattle.tb_eval.specs.Step.{first_state}
use Rattle.tb_run.specs.Held.{Held}
use Rattle.tb_run.specs.Stepped.{SeenOut, RunsAs}
use Rattle.tb_top.proofs.StageLaws.{concluded}
use Rattle.tb_top.proofs.run.run_from.Goals as goal

pub returns : goal.returns
returns g c =
    let mir = c.args.mir.now in
    let before : SeenOut = record { bytes = g.O.Sink.bytes c.args.out.now; faults = g.O.Sink.faults c.args.out.now } in
    let after : SeenOut = record { bytes = g.O.Sink.bytes c.run-end.new.out; faults = g.O.Sink.faults c.run-end.new.out } in
    let bound = length c.lines.result.now + 1 in
    let enough : bound ≡ ample mir = omega (arith, ap length c.lines.ensures) in
    let whole : run_of mir c.in_ok-machine.machine.state bound ≡ whole_run mir =
    ap (λ (held : Held). run_of mir held.state bound) c.in_ok-machine.ensures.first ∙ ap (λ n. run_of mir (first_state mir) n) enough in
    concluded (Unit {0}) c.args.source.now (whole_run mir) before after c.run-end.result c.conclude.result
    (subst (λ run. RunsAs run before after c.run-end.result) whole c.run-end.ensures.run) c.conclude.ensures
