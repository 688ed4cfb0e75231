use Rattle.tb_yield.proofs.Joins.{nothing_glued}
use Rattle.tb_yield.proofs.joining.law_apart.Goals as goal

pub returns : goal.returns
returns c = record { apart = nothing_glued }
