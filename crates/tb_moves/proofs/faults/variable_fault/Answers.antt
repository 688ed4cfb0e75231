use Rattle.std.proofs.Common.{◌∙◌, sym}
use Rattle.tb_moves.proofs.Moved.{no_fault}
use Rattle.tb_moves.proofs.faults.variable_fault.Goals as goal

pub returns-in_default : goal.returns-in_default
returns-in_default c = no_fault c.args.types.now c.args.function.now c.args.variable (sym c.yes_at.ensures ∙ c.in_default.is)
