use Rattle.std.proofs.Common.{◌≡◌, map, take}
use Rattle.tb_mir.specs.Retags.{bare_block, retagged_block}
use Rattle.tb_retag.proofs.places.blocks_placed.Given as goal

abbrev pub invariant-loop-block : goal.invariant-loop-block
invariant-loop-block l = l.placed ≡ map (retagged_block l.locals) (map bare_block (take l.block-index l.blocks))
