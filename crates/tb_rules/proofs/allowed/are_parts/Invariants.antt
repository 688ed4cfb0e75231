use Rattle.std.proofs.Common.{◌≡◌, drop}
use Rattle.tb_types.specs.Table.{shape_at}
use Rattle.tb_types.specs.Pieces.{side_by_side}
use Rattle.tb_rules.specs.Allowed.{are_parts}
use Rattle.tb_rules.proofs.allowed.are_parts.Given as goal

abbrev pub invariant-loop-at : goal.invariant-loop-at
invariant-loop-at l = are_parts l.types (drop l.at (side_by_side l.types (shape_at l.types l.ty))) ≡ are_parts l.types (side_by_side l.types (shape_at l.types l.ty))
