use Rattle.std.proofs.Common.{◌≡◌, drop}
use Rattle.tb_aggregates.specs.Structs.{are_fields}
use Rattle.tb_aggregates.proofs.structs.are_fields.Given as goal

abbrev pub invariant-loop-number : goal.invariant-loop-number
invariant-loop-number l = are_fields (drop l.number-index l.numbers) ≡ are_fields l.numbers
