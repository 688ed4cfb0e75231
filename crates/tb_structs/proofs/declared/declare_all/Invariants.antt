use Rattle.std.proofs.Common.{◌≡◌, ◌≤◌, ◌+◌, drop, length}
use Rattle.tb_structs.specs.Structs.{with_items, layout_types, declared_items}
use Rattle.tb_structs.proofs.declared.declare_all.Given as goal

abbrev pub invariant-loop-item : goal.invariant-loop-item
invariant-loop-item l =
    (with_items l.types (declared_items (drop l.item-index l.items)) ≡ with_items layout_types (declared_items l.items))
    × (length l.types.items ≤ l.item-index + 1)
