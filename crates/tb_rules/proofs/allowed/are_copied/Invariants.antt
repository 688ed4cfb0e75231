use Rattle.std.proofs.Common.{◌≡◌, drop}
use Rattle.tb_types.specs.Table.{shape_at}
use Rattle.tb_types.specs.Pieces.{side_by_side}
use Rattle.tb_rules.specs.Allowed.{are_copied}
use Rattle.tb_rules.proofs.allowed.are_copied.Given as goal

abbrev pub invariant-loop-at : goal.invariant-loop-at
invariant-loop-at l = are_copied l.types (drop l.at (side_by_side l.types (shape_at l.types l.ty))) ≡ are_copied l.types (side_by_side l.types (shape_at l.types l.ty))
