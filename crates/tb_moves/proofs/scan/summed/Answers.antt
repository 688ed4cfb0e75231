use Rattle.std.proofs.Common.{◌∙◌}
use Rattle.tb_flow.proofs.Assoc.{run_idle}
use Rattle.tb_moves.specs.Trees.{flows_of}
use Rattle.tb_moves.proofs.scan.summed.Goals as goal

pub returns : goal.returns
returns c = c.alone.ensures ∙ run_idle c.args.scan.now.question c.args.scan.now.variable (flows_of c.args.scan.now.types.now c.args.node.now).value
