use Rattle.std.proofs.Common.{◌∙◌, sym}
use Rattle.tb_plain.proofs.Moves.{hidden_stays}
use Rattle.tb_plain.proofs.sweep.sweep_row.Goals as goal

pub returns-then-has : goal.returns-then-has
returns-then-has c = hidden_stays c.args.sweep.now c.args.row.now (rw (← c.as_slice.ensures) (sym c.has.ensures ∙ c.if-has.true))
