use Rattle.std.proofs.Common.{◌≡◌, drop}
use Rattle.tb_lower.specs.Lowering.{last_atom}
use Rattle.tb_lower.proofs.spans.last.Given as goal

abbrev pub invariant-loop-atom : goal.invariant-loop-atom
invariant-loop-atom l = last_atom l.last (drop l.atom-index l.atom-items) ≡ last_atom l.sum.first l.sum.rest
