use Rattle.std.proofs.Common.{◌≡◌, drop, map}
use Rattle.tb_standing.specs.Standing.{parts_from, first_among, written_fault, argument_fault}
use Rattle.tb_standing.proofs.walk.+faults.Given as goal

abbrev pub invariant-parts_fault-loop-at : goal.invariant-parts_fault-loop-at
invariant-parts_fault-loop-at l = parts_from l.types l.ty l.at (map (written_fault l.types) (drop l.at l.parts)) ≡ parts_from l.types l.ty 0 (map (written_fault l.types) l.parts)

abbrev pub invariant-listed_fault-loop-argument : goal.invariant-listed_fault-loop-argument
invariant-listed_fault-loop-argument l = first_among l.ty (map (argument_fault l.types) (drop l.argument-index l.arguments)) ≡ first_among l.ty (map (argument_fault l.types) l.arguments)
