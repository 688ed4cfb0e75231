use Rattle.std.proofs.Common.{refl}
use Rattle.tb_new_tag.proofs.Repeats.{all_within}
use Rattle.tb_new_tag.proofs.cells.put_shifted.Goals as goal

pub loop-cell-init : goal.loop-cell-init
loop-cell-init c = (refl, all_within 0 c.args.size c.args.cells.now c.requires.cells)
