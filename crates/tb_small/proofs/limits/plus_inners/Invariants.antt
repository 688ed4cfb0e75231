use Rattle.std.proofs.Common.{◌≡◌, ◌+◌, ◌≤◌, drop}
use Rattle.std.specs.List.{sum_by}
use Rattle.tb_small.specs.Grammar.{inner_locals}
use Rattle.tb_small.proofs.limits.plus_inners.Given as goal

abbrev pub invariant-loop-inner : goal.invariant-loop-inner
invariant-loop-inner l = record {
  same : l.total + sum_by inner_locals (drop l.inner-index l.inners) ≡ l.fn.locals + sum_by inner_locals l.fn.inners;
  few : l.total ≤ 4096;
}
