use Rattle.std.proofs.Common.{take}
use Rattle.tb_plain.specs.Pruning.{IsGreatest}
use Rattle.tb_plain.proofs.pruning.greatest_below.Given as goal

abbrev pub invariant-loop-row : goal.invariant-loop-row
invariant-loop-row l = IsGreatest l.bound (take l.row-index l.rows) l.best
