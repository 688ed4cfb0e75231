use Rattle.std.proofs.Common.{◌∙◌, sym}
use Rattle.tb_shape.proofs.Climb.{ancestor_missing}
use Rattle.tb_shape.proofs.entries.is_above.Goals as goal

pub returns-in-None : goal.returns-in-None
returns-in-None c = (λ h. absurd (cc), λ h. absurd (ancestor_missing c.args.entries.now c.args.a c.args.b (sym c.look_up.ensures ∙ c.in-None.is) h))
