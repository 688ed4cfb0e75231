use Rattle.std.proofs.Common.{◌≡◌, ◌+◌, ◌≤◌, drop}
use Rattle.std.specs.List.{sum_by}
use Rattle.tb_small.specs.Grammar.{atom_locals, sum_locals}
use Rattle.tb_small.proofs.limits.plus_sum.Given as goal

abbrev pub invariant-loop-atom : goal.invariant-loop-atom
invariant-loop-atom l = record {
  same :
      l.total + sum_by (λ atom. atom_locals atom + 1) (drop l.atom-index l.atom-items)
      ≡ l.fn.locals + sum_locals l.fn.sum;
  few : l.total ≤ 4096;
}
