use Rattle.std.proofs.Common.{◌∙◌, subst, sym, true}
use Rattle.tb_types.specs.Extent.{extent_of}
use Rattle.tb_layout.specs.Leaves.{leaves_of}
use Rattle.tb_value.specs.Spread.{AreSpread}
use Rattle.tb_value.proofs.Spreading.{spread, not_moved}
use Rattle.tb_value.proofs.Kept.{if_ok}
use Rattle.tb_value.proofs.leaves.leaves_in.Goals as goal

pub returns-clause-leaves : goal.returns-clause-leaves
returns-clause-leaves c = if_ok c.leaves.result (λ list e. e ∙ not_moved (leaves_of true c.args.types.now c.args.ty)) c.leaves.ensures

pub returns-clause-spread : goal.returns-clause-spread
returns-clause-spread c =
    if_ok c.leaves.result
    (λ list e. subst (AreSpread c.args.types.now 0 (extent_of c.args.types.now c.args.ty).size) (sym (e ∙ not_moved (leaves_of true c.args.types.now c.args.ty))) (spread c.args.types.now c.law_types.ensures.types c.args.ty c.requires.ty))
    c.leaves.ensures
