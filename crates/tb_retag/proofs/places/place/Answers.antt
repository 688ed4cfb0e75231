use Rattle.std.proofs.Common.{sym, ap, ◌∙◌, subst}
use Rattle.tb_mir.specs.Retags.{without_retags, RetagPlaced}
use Rattle.tb_retag.proofs.Retagged.{bare_placed, placed_once}
use Rattle.tb_retag.proofs.places.place.Goals as goal

pub returns-clause-placed : goal.returns-clause-placed
returns-clause-placed c = subst RetagPlaced (sym c.in_ok-mir.ensures) (placed_once c.args.mir.now)

pub returns-clause-same : goal.returns-clause-same
returns-clause-same c = ap without_retags c.in_ok-mir.ensures ∙ bare_placed c.args.mir.now
