use Rattle.std.proofs.Common.{◌≡◌, drop, find}
use Rattle.tb_plain.specs.Sweep.{is_plain}
use Rattle.tb_plain.proofs.pruning.index_of.Given as goal

abbrev pub invariant-loop-at : goal.invariant-loop-at
invariant-loop-at l = find (is_plain l.tag.0) (drop l.at l.rows) ≡ find (is_plain l.tag.0) l.rows
