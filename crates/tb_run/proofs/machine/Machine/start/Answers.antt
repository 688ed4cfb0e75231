use Rattle.tb_eval.proofs.Soundness.{first_sound}
use Rattle.tb_run.proofs.machine.Machine.start.Goals as goal

pub returns-clause-sound : goal.returns-clause-sound
returns-clause-sound g c = rw (c.new.ensures, c.in-Ok.ensures, c.locals.ensures) (first_sound c.args.mir.now)
