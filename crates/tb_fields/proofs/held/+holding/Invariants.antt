use Rattle.std.proofs.Common.{◌≡◌, ◌+◌, ◌*◌, ◌++◌, ◌<◌, drop}
use Rattle.std.specs.List.{AllByRecursion}
use Rattle.tb_types.specs.declared.shape.Ty.{Ty}
use Rattle.tb_types.specs.Trees.{trees_by, tree_of}
use Rattle.tb_fields.specs.Held.{structs_in_all}
use Rattle.tb_fields.proofs.held.+holding.Given as goal

abbrev pub decreases-add_type : goal.decreases-add_type
decreases-add_type l = 3 * l.ty.0 + 2

abbrev pub decreases-add_shape : goal.decreases-add_shape
decreases-add_shape l = 3 * l.bound + 1

abbrev pub decreases-add_parts : goal.decreases-add_parts
decreases-add_parts l = 3 * l.bound

abbrev pub invariant-add_parts-loop-part : goal.invariant-add_parts-loop-part
invariant-add_parts-loop-part l = record {
  rest : AllByRecursion (λ (part : Ty). part.0 < l.bound) (drop l.part-index l.parts);
  numbers : l.list.items ++ structs_in_all (trees_by (tree_of l.types) (drop l.part-index l.parts)) ≡ l.fn.list.items ++ structs_in_all (trees_by (tree_of l.types) l.parts);
}
