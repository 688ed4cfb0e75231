use Rattle.std.proofs.Common.{◌≡◌, ◌++◌, drop}
use Rattle.tb_fields.specs.Fields.{structs_of, told_structs}
use Rattle.tb_fields.proofs.structs.structs_of.Given as goal

abbrev pub invariant-loop-item : goal.invariant-loop-item
invariant-loop-item l = told_structs l.structs.items ++ structs_of (drop l.item-index l.items) ≡ structs_of l.items
