use Rattle.std.proofs.Common.{◌∙◌, ap, sym, Some}
use Rattle.tb_shape.proofs.Climb.{key-entry, found_up}
use Rattle.tb_shape.proofs.entries.above.Goals as goal

pub returns-clause-parent : goal.returns-clause-parent
returns-clause-parent c = c.in-Some.is ∙ ap Some (sym (key-entry c.args.entries.now c.in-Some.parent c.present.result c.present.ensures))

pub returns-clause-there : goal.returns-clause-there
returns-clause-there c = found_up c.args.entries.now c.in-Some.parent c.present.result c.present.ensures
