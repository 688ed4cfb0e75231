use Rattle.std.proofs.Common.{◌≡◌, map, take}
use Rattle.tb_mir.specs.Retags.{bare_func, retagged_func}
use Rattle.tb_retag.proofs.places.funcs_placed.Given as goal

abbrev pub invariant-loop-func : goal.invariant-loop-func
invariant-loop-func l = l.placed ≡ map retagged_func (map bare_func (take l.func-index l.funcs))
