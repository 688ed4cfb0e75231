use Rattle.std.proofs.Common.{subst, sym}
use Rattle.tb_eval.specs.Sound.{IsSoundState}
use Rattle.tb_eval.specs.Step.{State, effect_of}
use Rattle.tb_eval.proofs.Soundness.{effect_sound}
use Rattle.tb_run.specs.Held.{Held}
use Rattle.tb_run.proofs.Goes.{carried_sound}
use Rattle.tb_run.proofs.machine.Machine.step.Goals as goal

pub returns-clause-sound : goal.returns-clause-sound
returns-clause-sound g c =
    let old : State = record { memory = c.self.inside.heap; frame = c.self.inside.frame } in
    let sound : IsSoundState old = subst (λ (held : Held). IsSoundState held.state) (sym c.self.view_is) c.requires.sound in
    let line = c.in-Some.line.now in
    let types = c.locals-types.result.now in
    let leaves = effect_sound types line.line line.span c.self.inside.heap c.self.inside.frame.locals sound.memory sound.locals in
    let next = carried_sound (effect_of types line.line line.span c.self.inside.heap c.self.inside.frame.locals) c.carry.new.heap c.carry.new.locals c.in-Ok.bytes c.in-Ok.ensures leaves in
    λ goes. record { memory = next.0; locals = next.1 }
