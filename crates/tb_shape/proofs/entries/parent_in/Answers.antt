use Rattle.std.proofs.Common.{◌∙◌, sym}
use Rattle.tb_shape.proofs.Climb.{parent_of-entry, parent_of-missing}
use Rattle.tb_shape.proofs.Uses.{parent_there}
use Rattle.tb_shape.proofs.entries.parent_in.Goals as goal

pub returns-in-Some-clause-value : goal.returns-in-Some-clause-value
returns-in-Some-clause-value c = sym (parent_of-entry c.args.entries.now c.args.key _ (sym c.look_up.ensures ∙ c.in-Some.is))

pub returns-in-Some-clause-there : goal.returns-in-Some-clause-there
returns-in-Some-clause-there c = parent_there c.args.entries.now c.args.key c.in-Some.entry c.requires.hung (sym c.look_up.ensures ∙ c.in-Some.is)

pub returns-in-None-clause-value : goal.returns-in-None-clause-value
returns-in-None-clause-value c = sym (parent_of-missing c.args.entries.now c.args.key (sym c.look_up.ensures ∙ c.in-None.is))
