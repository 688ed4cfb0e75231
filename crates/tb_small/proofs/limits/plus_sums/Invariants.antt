use Rattle.std.proofs.Common.{◌≡◌, ◌+◌, ◌≤◌, drop}
use Rattle.std.specs.List.{sum_by}
use Rattle.tb_small.specs.Grammar.{sum_locals}
use Rattle.tb_small.proofs.limits.plus_sums.Given as goal

abbrev pub invariant-loop-sum : goal.invariant-loop-sum
invariant-loop-sum l = record {
  same : l.total + sum_by sum_locals (drop l.sum-index l.sums) ≡ l.fn.locals + sum_by sum_locals l.fn.sums;
  few : l.total ≤ 4096;
}
