use Rattle.std.proofs.Common.{◌≡◌, ◌++◌, drop}
use Rattle.tb_aggregates.specs.Tuples.{types_of}
use Rattle.tb_aggregates.proofs.tuples.types_of.Given as goal

abbrev pub invariant-loop-part : goal.invariant-loop-part
invariant-loop-part l = l.list.items ++ types_of (drop l.part-index l.parts) ≡ types_of l.parts
